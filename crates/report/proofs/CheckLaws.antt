-- Each check of a report is decided by the lines above it, and a trial that is given up leaves nothing.
use Rattle.std.proofs.Common.{◌≡◌, ℕ, ◌+◌, ◌-◌, ◌<◌, Bool, true, false, cond, ltb, ◌⊎◌, List, [], ◌∷◌, ◌++◌, length, drop, ℤ, pos, None, Ok, Err, sym, refl, ap, ◌∙◌, subst, inl, inr, append_assoc, append-nil, arith}
use Rattle.fields.specs.Meanings.{Meaning, Reading}
use Rattle.layout.specs.declared.node.Shape.{Shape}
use Rattle.layout.specs.declared.node.Shape.TheVariants.{Field, Mark, Sequence, Choice, Optional, Check}
use Rattle.layout.specs.declared.node.Node.{Node}
use Rattle.layout.specs.Trees.{Part, Parts, field, mark, check, sequence, choice, optional, end, ◌then◌, node_at, operand_of, part_at, tree_of}
use Rattle.report.specs.declared.outcome.Outcome.{Outcome}
use Rattle.report.specs.declared.outcome.Outcome.TheVariants.{Good, SyntaxFault, CheckFault, Absent, Skipped, FaultBelow, Scrap}
use Rattle.report.specs.declared.line.Line.{Line}
use Rattle.report.specs.Lines.{line, begun, scrap}
use Rattle.report.specs.Values.{Value, column_of, value_of, values}
use Rattle.report.specs.Checks.{checked}
use Rattle.report.specs.Leaves.{mark_reads}
use Rattle.report.specs.Trials.{Trial, clean, given_up, leaf_tried, check_tried, at_least, behind, under, and_then, or_else, or_absent, trial, trials, branches}
use Rattle.report.specs.Readings.{option_read, open_reading}
use Rattle.report.specs.Reports.{ends_early, row_lines, report}
use Rattle.report.specs.Promises.{Unheard}
use Rattle.report.proofs.Fits.{Fits, AllFit}
use Rattle.report.proofs.Tables.{node_fits, tree_fits}
use Rattle.report.proofs.ValueLaws.{values_append, no_value, bare_value, bare_more}
use Rattle.report.proofs.MeetLaws.{trial_meets}
use Rattle.report.proofs.Steps.{Inner, Faulting, Steps, reading_keeps}

-- `Over` says of which outcomes a check may be without being decided
module _ (Over : Outcome → Type 0) (nodes : List Node) (constants : List ℤ) where
  -- a check's outcome among values, unless it was passed over; other shapes have none
  abbrev DecidedBy : Shape → List Value → Outcome → Type 0
  DecidedBy (Field kind column) vs o = Unit {0}
  DecidedBy (Mark byte) vs o = Unit {0}
  DecidedBy (Sequence child) vs o = Unit {0}
  DecidedBy (Choice child) vs o = Unit {0}
  DecidedBy (Optional child) vs o = Unit {0}
  DecidedBy (Check relation left right) vs o = Over o ⊎ (o ≡ checked relation left (operand_of constants right) vs)

  abbrev LineDecided : List Value → Line → Type 0
  LineDecided vs l = 0 < l.node → DecidedBy (node_at nodes l.node).shape vs l.outcome

  -- each line among the values before it
  abbrev Decided : List Value → List Line → Type 0
  Decided vs [] = Unit {0}
  Decided vs (l ∷ ls) = LineDecided vs l × Decided (vs ++ value_of nodes l) ls

  join_decided : (ls ms : List Line) (vs : List Value) → Decided vs ls → Decided (vs ++ values nodes ls) ms → Decided vs (ls ++ ms)
  join_decided [] ms vs h k = subst (λ ws. Decided ws ms) (append-nil vs) k
  join_decided (l ∷ ls) ms vs h k =
      (h.0, join_decided ls ms (vs ++ value_of nodes l) h.1 (subst (λ ws. Decided ws ms) (sym (append_assoc vs (value_of nodes l) (values nodes ls))) k))

  at_decided : (above : List Line) (l : Line) (below : List Line) (vs : List Value) → Decided vs (above ++ l ∷ below) → LineDecided (vs ++ values nodes above) l
  at_decided [] l below vs h = subst (λ ws. LineDecided ws l) (sym (append-nil vs)) h.0
  at_decided (a ∷ above) l below vs h =
      subst (λ ws. LineDecided ws l) (append_assoc vs (value_of nodes a) (values nodes above)) (at_decided above l below (vs ++ value_of nodes a) h.1)

  inner_decided : (s : Shape) (vs : List Value) (o : Outcome) → Inner s → DecidedBy s vs o
  inner_decided (Field kind column) vs o h = tt
  inner_decided (Mark byte) vs o h = tt
  inner_decided (Sequence child) vs o h = tt
  inner_decided (Choice child) vs o h = tt
  inner_decided (Optional child) vs o h = tt
  inner_decided (Check relation left right) vs o h = absurd h

  inner_bare : (s : Shape) → Inner s → column_of s ≡ None
  inner_bare (Field kind column) h = absurd h
  inner_bare (Mark byte) h = refl
  inner_bare (Sequence child) h = refl
  inner_bare (Choice child) h = refl
  inner_bare (Optional child) h = refl
  inner_bare (Check relation left right) h = refl

  fault_decided : (s : Shape) (vs : List Value) (o : Outcome) → Faulting s → DecidedBy s vs o
  fault_decided (Field kind column) vs o h = tt
  fault_decided (Mark byte) vs o h = tt
  fault_decided (Sequence child) vs o h = tt
  fault_decided (Choice child) vs o h = tt
  fault_decided (Optional child) vs o h = tt
  fault_decided (Check relation left right) vs o h = absurd h

  passed_decided : (s : Shape) (vs : List Value) → Over Skipped → DecidedBy s vs Skipped
  passed_decided (Field kind column) vs h = tt
  passed_decided (Mark byte) vs h = tt
  passed_decided (Sequence child) vs h = tt
  passed_decided (Choice child) vs h = tt
  passed_decided (Optional child) vs h = tt
  passed_decided (Check relation left right) vs h = inl h

  -- a node's own line has no value
  own_decided : (i : ℕ) (pre ls : List Line) (l : Line) (p : ℕ) → l.node ≡ i → Inner (node_at nodes i).shape →
      Decided (values nodes (pre ++ begun i p ∷ [])) ls → Decided (values nodes pre) (l ∷ ls)
  own_decided i pre ls l p e h k =
      let s : Inner (node_at nodes l.node).shape = subst (λ j. Inner (node_at nodes j).shape) (sym e) h in (
        λ _. inner_decided (node_at nodes l.node).shape (values nodes pre) l.outcome s,
        subst (λ ws. Decided ws ls)
            (bare_more nodes pre (begun i p) (inner_bare (node_at nodes i).shape h)
            ∙ sym (append-nil (values nodes pre))
            ∙ ap (λ ws. values nodes pre ++ ws) (sym (bare_value nodes l (inner_bare (node_at nodes l.node).shape s))))
            k,
      )

  scrap_decided : (i byte p j : ℕ) (vs : List Value) → (node_at nodes i).shape ≡ Mark byte → Decided vs (scrap i p j)
  scrap_decided i byte p j vs h = go (ltb p j)
    where
      go : (b : Bool) → Decided vs (cond b (line i Scrap p (j - p) (pos 0) ∷ []) [])
      go true = (λ _. subst (λ s. DecidedBy s vs Scrap) (sym h) tt, tt)
      go false = tt

  -- lines of the row itself are of node 0
  row_decided : (b : Bool) (p n : ℕ) (vs : List Value) → Decided vs (row_lines b p n)
  row_decided b p n vs = join_decided (ends_early b p n) (scrap 0 p n) vs (first b) (second (ltb p n) (vs ++ values nodes (ends_early b p n)))
    where
      only : (t : Bool) → Decided vs (cond t (line 0 SyntaxFault p 0 (pos 6) ∷ []) [])
      only true = (λ h. absurd (omega arith), tt)
      only false = tt

      first : (b : Bool) → Decided vs (ends_early b p n)
      first true = tt
      first false = only (ltb p n)

      second : (t : Bool) (ws : List Value) → Decided ws (cond t (line 0 Scrap p (n - p) (pos 0) ∷ []) [])
      second true ws = (λ h. absurd (omega arith), tt)
      second false ws = tt

-- in a report a check may be passed over; in a clean trial none is
abbrev PassedOver : Outcome → Type 0
PassedOver o = o ≡ Skipped

abbrev Never : Outcome → Type 0
Never o = ⊥

module _ (nodes : List Node) (constants : List ℤ) where
  abbrev TrialDecided : List Line → Trial → Type 0
  TrialDecided pre (given_up r) = Unit {0}
  TrialDecided pre (clean ls q r) = Decided Never nodes constants (values nodes pre) ls

  leaf_tried_decided : (i : ℕ) (pre : List Line) (p : ℕ) (r : Reading) → DecidedBy Never nodes constants (node_at nodes i).shape (values nodes pre) Good → TrialDecided pre (leaf_tried i pre p r)
  leaf_tried_decided i pre p (Ok x) h = (λ _. h, tt)
  leaf_tried_decided i pre p (Err c) h = tt

  check_tried_decided : (i : ℕ) (pre : List Line) (p : ℕ) (o : Outcome) → DecidedBy Never nodes constants (node_at nodes i).shape (values nodes pre) o → TrialDecided pre (check_tried i pre p o)
  check_tried_decided i pre p Good h = (λ _. h, tt)
  check_tried_decided i pre p SyntaxFault h = tt
  check_tried_decided i pre p CheckFault h = tt
  check_tried_decided i pre p Absent h = (λ _. h, tt)
  check_tried_decided i pre p Skipped h = (λ _. h, tt)
  check_tried_decided i pre p FaultBelow h = (λ _. h, tt)
  check_tried_decided i pre p Scrap h = (λ _. h, tt)

  under_decided : (i : ℕ) (pre : List Line) (p : ℕ) (z : ℤ) (t : Trial) → Inner (node_at nodes i).shape → TrialDecided (pre ++ begun i p ∷ []) t → TrialDecided pre (under i p z t)
  under_decided i pre p z (given_up r) h k = tt
  under_decided i pre p z (clean ls q r) h k = own_decided Never nodes constants i pre ls (line i Good p (q - p) z) p refl h k

  raised_decided : (pre : List Line) (r : ℕ) (t : Trial) → TrialDecided pre t → TrialDecided pre (at_least r t)
  raised_decided pre r (given_up s) h = tt
  raised_decided pre r (clean ls q s) h = h

  else_decided : (pre : List Line) (t u : Trial) → TrialDecided pre t → TrialDecided pre u → TrialDecided pre (or_else t u)
  else_decided pre (given_up r) u h k = raised_decided pre r u k
  else_decided pre (clean ls q r) u h k = h

  absent_decided : (i : ℕ) (pre : List Line) (p : ℕ) (t : Trial) → Inner (node_at nodes i).shape → TrialDecided pre t → TrialDecided pre (or_absent i p t)
  absent_decided i pre p (given_up r) h k = (λ _. inner_decided Never nodes constants (node_at nodes i).shape (values nodes pre) Absent h, tt)
  absent_decided i pre p (clean ls q r) h k = k

  behind_decided : (pre ls : List Line) (t : Trial) → Decided Never nodes constants (values nodes pre) ls → TrialDecided (pre ++ ls) t → TrialDecided pre (behind ls t)
  behind_decided pre ls (given_up r) h k = tt
  behind_decided pre ls (clean ms q r) h k =
      join_decided Never nodes constants ls ms (values nodes pre) h (subst (λ ws. Decided Never nodes constants ws ms) (values_append nodes pre ls) k)

  then_decided : (pre : List Line) (t : Trial) (rest : List Line → ℕ → Trial) → ((l : List Line) (q : ℕ) → TrialDecided l (rest l q)) → TrialDecided pre t → TrialDecided pre (and_then pre t rest)
  then_decided pre (given_up r) rest f h = tt
  then_decided pre (clean ls q r) rest f h = raised_decided pre r (behind ls (rest (pre ++ ls) q)) (behind_decided pre ls (rest (pre ++ ls) q) h (f (pre ++ ls) q))

module _ (means : ℕ → ℕ → Meaning) (nodes : List Node) (constants : List ℤ) (row : List ℕ) where
  mutual
    trial_decided : (q : Part) (pre : List Line) (p : ℕ) → Fits nodes constants q → TrialDecided nodes constants pre (trial means nodes row q pre p)
    trial_decided (field i kind parameter column) pre p h =
        leaf_tried_decided nodes constants i pre p ((means kind parameter).reads (drop p row)) (subst (λ s. DecidedBy Never nodes constants s (values nodes pre) Good) (sym h) tt)
    trial_decided (mark i byte) pre p h =
        leaf_tried_decided nodes constants i pre p (mark_reads byte (drop p row)) (subst (λ s. DecidedBy Never nodes constants s (values nodes pre) Good) (sym h) tt)
    trial_decided (check i relation left right) pre p h =
        let vs = values nodes pre in
        check_tried_decided nodes constants i pre p (checked relation left right vs)
        (subst (λ s. DecidedBy Never nodes constants s vs (checked relation left right vs)) (sym h.1) (inr (ap (λ o. checked relation left o vs) h.2)))
    trial_decided (sequence i parts) pre p h =
        under_decided nodes constants i pre p (pos 0) (trials means nodes row parts (pre ++ begun i p ∷ []) p) (subst Inner (sym h.0.1) tt) (trials_decided parts (pre ++ begun i p ∷ []) p h.1)
    trial_decided (choice i parts) pre p h = branches_decided parts i 1 pre p (subst Inner (sym h.0.1) tt) h.1
    trial_decided (optional i parts) pre p h =
        absent_decided nodes constants i pre p (under i p (pos 1) (trials means nodes row parts (pre ++ begun i p ∷ []) p)) (subst Inner (sym h.0.1) tt)
        (under_decided nodes constants i pre p (pos 1) (trials means nodes row parts (pre ++ begun i p ∷ []) p) (subst Inner (sym h.0.1) tt) (trials_decided parts (pre ++ begun i p ∷ []) p h.1))

    trials_decided : (qs : Parts) (pre : List Line) (p : ℕ) → AllFit nodes constants qs → TrialDecided nodes constants pre (trials means nodes row qs pre p)
    trials_decided end pre p h = tt
    trials_decided (q then qs) pre p h =
        then_decided nodes constants pre (trial means nodes row q pre p) (λ l x. trials means nodes row qs l x) (λ l x. trials_decided qs l x h.1) (trial_decided q pre p h.0)

    branches_decided : (qs : Parts) (i n : ℕ) (pre : List Line) (p : ℕ) → Inner (node_at nodes i).shape → AllFit nodes constants qs →
        TrialDecided nodes constants pre (branches means nodes row qs i n (pre ++ begun i p ∷ []) p)
    branches_decided end i n pre p s h = tt
    branches_decided (q then qs) i n pre p s h =
        else_decided nodes constants pre (under i p (pos n) (trial means nodes row q (pre ++ begun i p ∷ []) p)) (branches means nodes row qs i (n + 1) (pre ++ begun i p ∷ []) p)
        (under_decided nodes constants i pre p (pos n) (trial means nodes row q (pre ++ begun i p ∷ []) p) s (trial_decided q (pre ++ begun i p ∷ []) p h.0))
        (branches_decided qs i (n + 1) pre p s h.1)

module _ (means : ℕ → ℕ → Meaning) (nodes : List Node) (constants : List ℤ) (row : List ℕ) where
  steps : Steps means nodes constants row (λ pre p ls q. Decided PassedOver nodes constants (values nodes pre) ls)
  steps = record {
    none = λ pre p. tt;
    join = λ pre ls ms p q r h k. join_decided PassedOver nodes constants ls ms (values nodes pre) h (subst (λ ws. Decided PassedOver nodes constants ws ms) (values_append nodes pre ls) k);
    good_field = λ i k a c pre p n z h e. (λ _. subst (λ s. DecidedBy PassedOver nodes constants s (values nodes pre) Good) (sym h) tt, tt);
    good_mark = λ i b pre p h e. (λ _. subst (λ s. DecidedBy PassedOver nodes constants s (values nodes pre) Good) (sym h) tt, tt);
    fault = λ i pre p z h. (λ _. fault_decided PassedOver nodes constants (node_at nodes i).shape (values nodes pre) SyntaxFault h, tt);
    check_line = λ i r a s pre p h. (λ _. subst (λ t. DecidedBy PassedOver nodes constants t (values nodes pre) (checked r a (operand_of constants s) (values nodes pre))) (sym h) (inr refl), tt);
    absent = λ i c pre p h. (λ _. subst (λ s. DecidedBy PassedOver nodes constants s (values nodes pre) Absent) (sym h) tt, tt);
    passed = λ i pre p. (λ _. passed_decided PassedOver nodes constants (node_at nodes i).shape (values nodes pre) refl, tt);
    loose = λ i b pre p j h le e. scrap_decided PassedOver nodes constants i b p j (values nodes pre) h;
    own = λ i pre ls p q z h k. own_decided PassedOver nodes constants i pre ls (line i Good p (q - p) z) p refl h k;
    own_faulty = λ i pre ls p q h k. own_decided PassedOver nodes constants i pre ls (line i FaultBelow p (q - p) (pos 0)) p refl h k;
  }

  report_decided : Decided PassedOver nodes constants [] (report means nodes constants row).lines
  report_decided =
      let d = open_reading means nodes row (tree_of nodes constants) [] 0 in
      join_decided PassedOver nodes constants d.lines (row_lines d.broke d.place (length row)) []
      (reading_keeps means nodes constants row _ steps (tree_of nodes constants) [] 0 (tree_fits nodes constants))
      (row_decided PassedOver nodes constants d.broke d.place (length row) (values nodes d.lines))

  pub unheard : Unheard means nodes constants row
  unheard = record {
    passed_over = λ q qs i n pre p r e. ap (λ t. or_else (under i p (pos n) t) (branches means nodes row qs i (n + 1) pre p)) e;
    taken = λ q qs i n pre ls p e r h. ap (λ t. or_else (under i p (pos n) t) (branches means nodes row qs i (n + 1) pre p)) h;
    absent = λ parts i pre p r e. ap (λ t. option_read i p (under i p (pos 1) t)) e;
    follows = λ q qs pre ls p e r h. ap (λ t. and_then pre t (λ l x. trials means nodes row qs l x)) h;
    no_value = λ pre l h. no_value nodes pre l h;
    tried = λ i relation left right pre p. refl;
    read = λ i relation left right pre p. refl;
    heard = λ i pre p. trial_meets means nodes constants row (part_at nodes constants i) pre p (node_fits nodes constants i);
    decided_in_trial = λ i pre above below l p e r relation left right h some s.
        elim (subst (λ t. DecidedBy Never nodes constants t (values nodes pre ++ values nodes above) l.outcome) s
        (at_decided Never nodes constants above l below (values nodes pre) (subst (TrialDecided nodes constants pre) h (trial_decided means nodes constants row (part_at nodes constants i) pre p (node_fits nodes constants i))) some)) [
          | inl n ↦ absurd n
          | inr o ↦ o ∙ ap (checked relation left (operand_of constants right)) (sym (values_append nodes pre above))
        ];
    decided = λ above below l relation left right e some h.
        subst (λ s. DecidedBy PassedOver nodes constants s (values nodes above) l.outcome) h
        (at_decided PassedOver nodes constants above l below [] (subst (Decided PassedOver nodes constants []) e report_decided) some);
  }
