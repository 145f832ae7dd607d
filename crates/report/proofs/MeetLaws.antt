-- A part is clean in a trial exactly where it meets the bytes left, and then both leave the same bytes and values.
use Rattle.std.proofs.Common.{◌≡◌, ℕ, ◌+◌, ◌-◌, List, [], ◌∷◌, ◌++◌, drop, ℤ, pos, Some, None, Ok, Err, Option, sym, refl, ap, ◌∙◌, ap₂, append_assoc, append-nil, drop-drop}
use Rattle.fields.specs.Meanings.{Meaning, Reading}
use Rattle.layout.specs.declared.node.Node.{Node}
use Rattle.layout.specs.Trees.{Part, Parts, field, mark, check, sequence, choice, optional, end, ◌then◌, node_at}
use Rattle.report.specs.declared.outcome.Outcome.{Outcome}
use Rattle.report.specs.declared.outcome.Outcome.TheVariants.{Good, SyntaxFault, CheckFault, Absent, Skipped, FaultBelow, Scrap}
use Rattle.report.specs.declared.line.Line.{Line}
use Rattle.report.specs.Lines.{line, begun}
use Rattle.report.specs.Values.{Value, column_of, entry, values}
use Rattle.report.specs.Checks.{checked}
use Rattle.report.specs.Leaves.{mark_reads}
use Rattle.report.specs.Trials.{Trial, clean, given_up, leaf_tried, check_tried, at_least, behind, under, and_then, or_else, or_absent, trial, trials, branches}
use Rattle.report.specs.Meets.{Left, leaves, leaf_meets, check_meets, then_meets, else_meets, part_meets, all_meet, some_meets}
use Rattle.report.specs.Standing.{left_by}
use Rattle.report.proofs.Fits.{Fits, AllFit}
use Rattle.report.proofs.ValueLaws.{values_append, Bare, bare_more, bare_before}

module _ (nodes : List Node) (row : List ℕ) where
  leaf_leaves : (i : ℕ) (c : Option ℕ) (pre : List Line) (p : ℕ) (r : Reading) → column_of (node_at nodes i).shape ≡ c →
      left_by nodes row pre (leaf_tried i pre p r) ≡ leaf_meets c (drop p row) (values nodes pre) r
  leaf_leaves i c pre p (Ok x) e =
      ap₂ (λ bs vs. Some (leaves bs vs)) (sym (drop-drop x.0 p row))
      (values_append nodes pre (line i Good p x.0 x.1 ∷ []) ∙ ap (λ k. values nodes pre ++ (entry k x.1 ++ [])) e ∙ ap (λ vs. values nodes pre ++ vs) (append-nil (entry c x.1)))
  leaf_leaves i c pre p (Err k) e = refl

  check_leaves : (i : ℕ) (pre : List Line) (p : ℕ) (o : Outcome) → Bare nodes i → left_by nodes row pre (check_tried i pre p o) ≡ check_meets (drop p row) (values nodes pre) o
  check_leaves i pre p Good h = ap (λ vs. Some (leaves (drop p row) vs)) (bare_more nodes pre (line i Good p 0 (pos 0)) h)
  check_leaves i pre p SyntaxFault h = refl
  check_leaves i pre p CheckFault h = refl
  check_leaves i pre p Absent h = ap (λ vs. Some (leaves (drop p row) vs)) (bare_more nodes pre (line i Absent p 0 (pos 0)) h)
  check_leaves i pre p Skipped h = ap (λ vs. Some (leaves (drop p row) vs)) (bare_more nodes pre (line i Skipped p 0 (pos 0)) h)
  check_leaves i pre p FaultBelow h = ap (λ vs. Some (leaves (drop p row) vs)) (bare_more nodes pre (line i FaultBelow p 0 (pos 0)) h)
  check_leaves i pre p Scrap h = ap (λ vs. Some (leaves (drop p row) vs)) (bare_more nodes pre (line i Scrap p 0 (pos 0)) h)

  -- under its own line a trial leaves what it leaves behind the begun one
  under_leaves : (i : ℕ) (pre : List Line) (p : ℕ) (n : ℤ) (t : Trial) → Bare nodes i → left_by nodes row pre (under i p n t) ≡ left_by nodes row (pre ++ begun i p ∷ []) t
  under_leaves i pre p n (clean ls q r) h = ap (λ vs. Some (leaves (drop q row) vs)) (bare_before nodes pre (line i Good p (q - p) n) (begun i p) ls h h)
  under_leaves i pre p n (given_up r) h = refl

  raised_leaves : (pre : List Line) (r : ℕ) (t : Trial) → left_by nodes row pre (at_least r t) ≡ left_by nodes row pre t
  raised_leaves pre r (clean ls q s) = refl
  raised_leaves pre r (given_up s) = refl

  else_leaves : (pre : List Line) (t u : Trial) → left_by nodes row pre (or_else t u) ≡ else_meets (left_by nodes row pre t) (left_by nodes row pre u)
  else_leaves pre (clean ls q r) u = refl
  else_leaves pre (given_up r) u = raised_leaves pre r u

  absent_leaves : (i : ℕ) (pre : List Line) (p : ℕ) (t : Trial) → Bare nodes i →
      left_by nodes row pre (or_absent i p t) ≡ else_meets (left_by nodes row pre t) (Some (leaves (drop p row) (values nodes pre)))
  absent_leaves i pre p (clean ls q r) h = refl
  absent_leaves i pre p (given_up r) h = ap (λ vs. Some (leaves (drop p row) vs)) (bare_more nodes pre (line i Absent p 0 (pos 0)) h)

  behind_leaves : (pre ls : List Line) (t : Trial) → left_by nodes row pre (behind ls t) ≡ left_by nodes row (pre ++ ls) t
  behind_leaves pre ls (clean ms q r) = ap (λ k. Some (leaves (drop q row) (values nodes k))) (sym (append_assoc pre ls ms))
  behind_leaves pre ls (given_up r) = refl

  then_leaves : (pre : List Line) (t : Trial) (rest : List Line → ℕ → Trial) (more : List ℕ → List Value → Option Left) →
      ((l : List Line) (q : ℕ) → left_by nodes row l (rest l q) ≡ more (drop q row) (values nodes l)) →
      left_by nodes row pre (and_then pre t rest) ≡ then_meets (left_by nodes row pre t) more
  then_leaves pre (clean ls q r) rest more f =
      raised_leaves pre r (behind ls (rest (pre ++ ls) q)) ∙ behind_leaves pre ls (rest (pre ++ ls) q) ∙ f (pre ++ ls) q
  then_leaves pre (given_up r) rest more f = refl

module _ (means : ℕ → ℕ → Meaning) (nodes : List Node) (constants : List ℤ) (row : List ℕ) where
  -- the line of node i that is begun has no value
  under_begun : {o : Option Left} (i : ℕ) (pre : List Line) (p : ℕ) → Bare nodes i → (f : List Value → Option Left) → o ≡ f (values nodes (pre ++ begun i p ∷ [])) → o ≡ f (values nodes pre)
  under_begun i pre p b f e = e ∙ ap f (bare_more nodes pre (begun i p) b)

  mutual
    pub trial_meets : (q : Part) (pre : List Line) (p : ℕ) → Fits nodes constants q →
        left_by nodes row pre (trial means nodes row q pre p) ≡ part_meets means q (drop p row) (values nodes pre)
    trial_meets (field i kind parameter column) pre p h = leaf_leaves nodes row i column pre p ((means kind parameter).reads (drop p row)) (ap column_of h)
    trial_meets (mark i byte) pre p h = leaf_leaves nodes row i None pre p (mark_reads byte (drop p row)) (ap column_of h)
    trial_meets (check i relation left right) pre p h = check_leaves nodes row i pre p (checked relation left right (values nodes pre)) (ap column_of h.1)
    trial_meets (sequence i parts) pre p h =
        under_leaves nodes row i pre p (pos 0) _ (ap column_of h.0.1) ∙ under_begun i pre p (ap column_of h.0.1) (all_meet means parts (drop p row)) (trials_meet parts (pre ++ begun i p ∷ []) p h.1)
    trial_meets (choice i parts) pre p h = branches_meet parts i 1 pre p (ap column_of h.0.1) h.1
    trial_meets (optional i parts) pre p h =
        absent_leaves nodes row i pre p _ (ap column_of h.0.1)
        ∙ ap (λ o. else_meets o (Some (leaves (drop p row) (values nodes pre))))
        (under_leaves nodes row i pre p (pos 1) _ (ap column_of h.0.1) ∙ under_begun i pre p (ap column_of h.0.1) (all_meet means parts (drop p row)) (trials_meet parts (pre ++ begun i p ∷ []) p h.1))

    pub trials_meet : (qs : Parts) (pre : List Line) (p : ℕ) → AllFit nodes constants qs →
        left_by nodes row pre (trials means nodes row qs pre p) ≡ all_meet means qs (drop p row) (values nodes pre)
    trials_meet end pre p h = ap (λ k. Some (leaves (drop p row) (values nodes k))) (append-nil pre)
    trials_meet (q then qs) pre p h =
        then_leaves nodes row pre (trial means nodes row q pre p) (λ l x. trials means nodes row qs l x) (λ bs vs. all_meet means qs bs vs) (λ l x. trials_meet qs l x h.1)
        ∙ ap (λ o. then_meets o (λ bs vs. all_meet means qs bs vs)) (trial_meets q pre p h.0)

    branches_meet : (qs : Parts) (i n : ℕ) (pre : List Line) (p : ℕ) → Bare nodes i → AllFit nodes constants qs →
        left_by nodes row pre (branches means nodes row qs i n (pre ++ begun i p ∷ []) p) ≡ some_meets means qs (drop p row) (values nodes pre)
    branches_meet end i n pre p b h = refl
    branches_meet (q then qs) i n pre p b h =
        else_leaves nodes row pre (under i p (pos n) (trial means nodes row q (pre ++ begun i p ∷ []) p)) (branches means nodes row qs i (n + 1) (pre ++ begun i p ∷ []) p)
        ∙ ap₂ else_meets
        (under_leaves nodes row i pre p (pos n) (trial means nodes row q (pre ++ begun i p ∷ []) p) b
        ∙ under_begun i pre p b (part_meets means q (drop p row)) (trial_meets q (pre ++ begun i p ∷ []) p h.0))
        (branches_meet qs i (n + 1) pre p b h.1)
