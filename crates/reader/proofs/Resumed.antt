-- What comes of it if every open node is read to its end: a turn does not change that.
use Rattle.std.proofs.Common.{◌≡◌, ℕ, ◌+◌, ◌-◌, ◌<◌, ◌≤◌, max, if◌then◌else◌, Bool, true, false, List, [], ◌∷◌, ◌++◌, length, take, drop, pos, Some, None, Ok, Err, Option, sym, refl, ap, ap₂, ◌∙◌, arith}
use Rattle.std.specs.Prelude.{slice_set}
use Rattle.std.proofs.lemmas.List.{append-nil, length_push, length-take-le, take-take}
use Rattle.fields.specs.Meanings.{Meaning, Reading}
use Rattle.layout.specs.declared.node.Node.{Node}
use Rattle.layout.specs.Trees.{Part, Parts, field, mark, check, sequence, choice, optional, end, ◌then◌}
use Rattle.report.specs.declared.outcome.Outcome.{Outcome}
use Rattle.report.specs.declared.outcome.Outcome.TheVariants.{Good, SyntaxFault, CheckFault, Absent, Skipped, FaultBelow, Scrap}
use Rattle.report.specs.declared.line.Line.{Line}
use Rattle.report.specs.Lines.{line, begun, skipped, faults, overall}
use Rattle.report.specs.Values.{values}
use Rattle.report.specs.Checks.{checked}
use Rattle.report.specs.Leaves.{mark_reads, first_from}
use Rattle.report.specs.Trials.{Trial, clean, given_up, leaf_tried, check_tried, at_least, behind, under, and_then, or_else, or_absent, trial, trials, branches}
use Rattle.report.specs.Recovery.{OpenReading, gave, wrote, Rest, next, node_of, byte_of, skips, found, sought_at, broken, after_child, child_then}
use Rattle.report.specs.Recovery as recovery
use Rattle.report.specs.Readings.{leaf_read, choice_read, option_read, sequence_read, open_reading, children, seeking}
use Rattle.report.proofs.ReachLaws.{Reaches, ReadReaches, trials_reach, children_reach}
use Rattle.reader.specs.declared.open.Way.{Way}
use Rattle.reader.specs.declared.open.Way.TheVariants.{Sequence, Tried, Choice, Optional}
use Rattle.reader.specs.declared.open.Told.{Told}
use Rattle.reader.specs.declared.open.Told.TheVariants.{Begin, Clean, Fault, Seek, Skip}
use Rattle.reader.specs.Turns.{Pending, State, raised, leaf_begun, check_begun, completed, shut, sought, begin, next_tried, next_branch, next_child, mended, hunted, next_sought, next_skipped, turn_by}
use Rattle.reader.proofs.Lists.{again, all, front, header, past, append_assoc, take_less}
use Rattle.reader.proofs.Beyond.{Beyond, branches_beyond}
use Rattle.reader.specs.Resuming.{Mid, mid, tells, tried_end, option_end, choice_end, open_end}
use Rattle.reader.specs.Resuming as resuming
use Rattle.reader.specs.Nesting.{InTrial, Gives, Chain}
use Rattle.reader.proofs.Chains.{outer}

abbrev pending : Way → ℕ → ℕ → ℕ → Part → Parts → ℕ → Pending
pending w i a b q qs n = record { way = w; node = i; at = a; start = b; last = q; rest = qs; branch = n }

module _ (means : ℕ → ℕ → Meaning) (nodes : List Node) (row : List ℕ) where
  abbrev one : Part → List Line → ℕ → Trial
  one q ls p = trial means nodes row q ls p

  abbrev several : Parts → List Line → ℕ → Trial
  several qs ls p = trials means nodes row qs ls p

  abbrev any : Parts → ℕ → ℕ → List Line → ℕ → Trial
  any qs i n ls p = branches means nodes row qs i n ls p

  abbrev go : Parts → Rest
  go qs ls p = children means nodes row qs ls p

  abbrev seek : Parts → Rest
  seek qs ls p = seeking means nodes row qs ls p

  abbrev chooses : Pending → List Line → ℕ → Mid
  chooses f ls r = resuming.chooses means nodes row f ls r

  abbrev finish_by : Way → Told → Pending → List Line → ℕ → ℕ → Mid
  finish_by w t f ls p r = resuming.finish_by means nodes row w t f ls p r

  abbrev resume : List Pending → List Line → ℕ → Told → ℕ → OpenReading
  resume fs ls p t r = resuming.resume means nodes row fs ls p t r

  abbrev resumed : State → OpenReading
  resumed s = resuming.resumed means nodes row s

  abbrev resume_mid : List Pending → Mid → OpenReading
  resume_mid fs m = resume fs m.lines m.place m.told m.reach

  alike : (fs : List Pending) (p : ℕ) (t : Told) {ls ms : List Line} {r s : ℕ} → ls ≡ ms → r ≡ s → resume fs ls p t r ≡ resume fs ms p t s
  alike fs p t e f = ap₂ (λ l x. resume fs l p t x) e f

  -- what a trial that is given up has written does not matter
  module _ (f : Pending) (fs : List Pending) (ls : List Line) (h : f.at < length ls) (rec : InTrial fs → (xs : List Line) (p q r : ℕ) → resume fs (ls ++ xs) p Fault r ≡ resume fs ls q Fault r) where
    fault_by : (w : Way) → Gives w (InTrial fs) → (xs : List Line) (p q r : ℕ) → resume_mid fs (finish_by w Fault f (ls ++ xs) p r) ≡ resume_mid fs (finish_by w Fault f ls q r)
    fault_by Sequence k xs p q r = absurd k
    fault_by Tried k xs p q r = rec k xs p q r
    fault_by Choice k xs p q r = ap (λ l. resume_mid fs (chooses f l r)) (take_less (f.at + 1) ls xs (omega arith))
    fault_by Optional k xs p q r = ap (λ l. resume fs (l ++ line f.node Absent f.start 0 (pos 0) ∷ []) f.start Clean r) (take_less f.at ls xs (omega arith))

  pub fault : (fs : List Pending) (ls xs : List Line) (p q r : ℕ) → InTrial fs → Chain fs (length ls) → resume fs (ls ++ xs) p Fault r ≡ resume fs ls q Fault r
  fault [] ls xs p q r k c = absurd k
  fault (f ∷ fs) ls xs p q r k c =
      fault_by f fs ls c.0 (λ k' xs p q r. fault fs ls xs p q r k' (outer f fs (length ls) c)) f.way k xs p q r

  -- what comes behind a trial, and behind an open reading
  abbrev cont : List Pending → List Line → ℕ → ℕ → Trial → OpenReading
  cont fs ls p r (clean ms q x) = resume fs (ls ++ ms) q Clean (max r x)
  cont fs ls p r (given_up x) = resume fs ls p Fault (max r x)

  abbrev pub cont_open : List Pending → List Line → ℕ → OpenReading → OpenReading
  cont_open fs ls r d = resume fs (ls ++ d.lines) d.place (tells d.broke) (max r d.reach)

  absorb : (n r x : ℕ) → n + 1 ≤ x → max (max r (n + 1)) x ≡ max r x
  absorb n r x h = omega arith

  -- a part is begun, and then all that is open is read
  module _ (i : ℕ) (fs : List Pending) (ls : List Line) (p r : ℕ) where
    abbrev own : List Line
    own = ls ++ begun i p ∷ []

    leaf_open : (x : Reading) → resumed (leaf_begun i fs ls p r x) ≡ cont_open fs ls r (leaf_read i ls p x)
    leaf_open (Ok x) = refl
    leaf_open (Err c) = refl

    sequence_open : (q : Part) (qs : Parts) (d : OpenReading) → ReadReaches (length own) d →
        resume_mid fs (open_end (pending Sequence i (length ls) p q qs 0) own (raised ls 1 r) d) ≡ cont_open fs ls r (sequence_read i p d)
    sequence_open q qs d h =
        ap (λ ms. resume fs (slice_set (own ++ d.lines) (length ls) (line i (overall (faults ms)) p (d.place - p) (pos 0))) d.place (tells d.broke) (max (raised ls 1 r) d.reach)) (past ls d.lines (begun i p))
        ∙ alike fs d.place (tells d.broke) (header ls d.lines _ _) (absorb (length ls) r d.reach (omega (arith, h, length_push ls (begun i p))))

    choice_open : (q : Part) (qs : Parts) (t : Trial) → Beyond (length ls) t →
        resume_mid fs (choice_end (pending Choice i (length ls) p q qs 0) own (raised ls 1 r) t) ≡ cont_open fs ls r (choice_read i p t)
    choice_open q qs (clean ms e x) h = alike fs e Clean (ap (λ l. l ++ ms) (front ls _)) (absorb (length ls) r x h)
    choice_open q qs (given_up x) h = alike fs p Fault (ap (λ l. l ++ line i SyntaxFault p 0 (pos 5) ∷ []) (front ls _)) (absorb (length ls) r x h)

    option_open : (q : Part) (qs : Parts) (t : Trial) → Reaches (length own) t →
        resume_mid fs (option_end (pending Optional i (length ls) p q qs 0) own (raised ls 1 r) t) ≡ cont_open fs ls r (option_read i p (under i p (pos 1) t))
    option_open q qs (clean ms e x) h = alike fs e Clean (header ls ms _ _) (absorb (length ls) r x (omega (arith, h, length_push ls (begun i p))))
    option_open q qs (given_up x) h = alike fs p Clean (ap (λ l. l ++ line i Absent p 0 (pos 0) ∷ []) (front ls _)) (absorb (length ls) r x (omega (arith, h, length_push ls (begun i p))))

  -- a part is begun outside of trials
  pub begun_open : (q : Part) (fs : List Pending) (ls : List Line) (p r : ℕ) → resumed (begin means nodes row false q fs ls p r) ≡ cont_open fs ls r (open_reading means nodes row q ls p)
  begun_open (field i kind parameter column) fs ls p r = leaf_open i fs ls p r ((means kind parameter).reads (drop p row))
  begun_open (mark i byte) fs ls p r = leaf_open i fs ls p r (mark_reads byte (drop p row))
  begun_open (check i relation left right) fs ls p r = refl
  begun_open (sequence i qs) fs ls p r =
      sequence_open i fs ls p r (sequence i qs) qs (go qs (own i fs ls p r) p) (children_reach means nodes row qs (own i fs ls p r) p)
  begun_open (choice i qs) fs ls p r =
      ap (λ l. resume_mid fs (choice_end (pending Choice i (length ls) p (choice i qs) qs 0) l (raised ls 1 r) (any qs i 1 l p))) (all ls _)
      ∙ choice_open i fs ls p r (choice i qs) qs (any qs i 1 (own i fs ls p r) p) (branches_beyond means nodes row qs i 1 ls p)
  begun_open (optional i qs) fs ls p r =
      option_open i fs ls p r (optional i qs) qs (several qs (own i fs ls p r) p) (trials_reach means nodes row qs (own i fs ls p r) p)

  -- a part is begun in a trial
  module _ (i : ℕ) (fs : List Pending) (ls : List Line) (p r : ℕ) (k : InTrial fs) (c : Chain fs (length ls)) where
    leaf_tried_is : (x : Reading) → resumed (leaf_begun i fs ls p r x) ≡ cont fs ls p r (leaf_tried i ls p x)
    leaf_tried_is (Ok x) = refl
    leaf_tried_is (Err e) = fault fs ls _ p p _ k c

    check_tried_is : (o : Outcome) → resumed (check_begun true i fs ls p r o) ≡ cont fs ls p r (check_tried i ls p o)
    check_tried_is Good = refl
    check_tried_is SyntaxFault = fault fs ls _ p p _ k c
    check_tried_is CheckFault = fault fs ls _ p p _ k c
    check_tried_is Absent = refl
    check_tried_is Skipped = refl
    check_tried_is FaultBelow = refl
    check_tried_is Scrap = refl

    sequence_tried : (q : Part) (qs : Parts) (t : Trial) → Reaches (length (own i fs ls p r)) t →
        resume_mid fs (tried_end (pending Tried i (length ls) p q qs 0) (own i fs ls p r) p (raised ls 1 r) t) ≡ cont fs ls p r (under i p (pos 0) t)
    sequence_tried q qs (clean ms e x) h = alike fs e Clean (header ls ms _ _) (absorb (length ls) r x (omega (arith, h, length_push ls (begun i p))))
    sequence_tried q qs (given_up x) h =
        fault fs ls _ p p _ k c ∙ ap (λ y. resume fs ls p Fault y) (absorb (length ls) r x (omega (arith, h, length_push ls (begun i p))))

    -- an open reading of a choice or an option, from its trial
    choice_tried : (t : Trial) → cont_open fs ls r (choice_read i p t) ≡ cont fs ls p r t
    choice_tried (clean ms e x) = refl
    choice_tried (given_up x) = fault fs ls _ p p _ k c

  option_tried : (i : ℕ) (fs : List Pending) (ls : List Line) (p r : ℕ) (t : Trial) → cont_open fs ls r (option_read i p t) ≡ cont fs ls p r (or_absent i p t)
  option_tried i fs ls p r (clean ms e x) = refl
  option_tried i fs ls p r (given_up x) = refl

  pub begun_tried : (q : Part) (fs : List Pending) (ls : List Line) (p r : ℕ) → InTrial fs → Chain fs (length ls) → resumed (begin means nodes row true q fs ls p r) ≡ cont fs ls p r (one q ls p)
  begun_tried (field i kind parameter column) fs ls p r k c = leaf_tried_is i fs ls p r k c ((means kind parameter).reads (drop p row))
  begun_tried (mark i byte) fs ls p r k c = leaf_tried_is i fs ls p r k c (mark_reads byte (drop p row))
  begun_tried (check i relation left right) fs ls p r k c = check_tried_is i fs ls p r k c (checked relation left right (values nodes ls))
  begun_tried (sequence i qs) fs ls p r k c =
      sequence_tried i fs ls p r k c (sequence i qs) qs (several qs (own i fs ls p r) p) (trials_reach means nodes row qs (own i fs ls p r) p)
  begun_tried (choice i qs) fs ls p r k c = begun_open (choice i qs) fs ls p r ∙ choice_tried i fs ls p r k c (any qs i 1 (own i fs ls p r) p)
  begun_tried (optional i qs) fs ls p r k c =
      begun_open (optional i qs) fs ls p r ∙ option_tried i fs ls p r (under i p (pos 1) (several qs (own i fs ls p r) p))

  -- what is written behind lines that stay
  end_more : (f : Pending) (fs : List Pending) (ls ms : List Line) (r s : ℕ) (d : OpenReading) →
      resume_mid fs (open_end f (ls ++ ms) (max r s) d) ≡ resume_mid fs (open_end f ls r (gave (ms ++ d.lines) d.place d.broke (max s d.reach)))
  end_more f fs ls ms r s d =
      ap₂ (λ l x. resume fs (shut f l d.place) d.place (tells d.broke) x) (append_assoc ls ms d.lines) (omega arith)

  -- one turn of the node f around which fs are open
  module _ (i a b n : ℕ) (l : Part) (fs : List Pending) (ls : List Line) (p r : ℕ) (low : length ls ≤ r) where
    -- a sequence in a trial
    module _ (c : Chain (pending Tried i a b l end n ∷ fs) (length ls)) where
      tried_rest : (q : Part) (qs ps : Parts) (ms : List Line) (e x : ℕ) (t : Trial) →
          resume_mid fs (tried_end (pending Tried i a b q qs n) (ls ++ ms) e (max r x) t) ≡ resume_mid fs (tried_end (pending Tried i a b l ps n) ls p r (at_least x (behind ms t)))
      tried_rest q qs ps ms e x (clean ks g y) =
          ap₂ (λ z w. resume fs (completed (pending Tried i a b l ps n) z g Good (pos 0)) g Clean w) (append_assoc ls ms ks) (omega arith)
      tried_rest q qs ps ms e x (given_up y) = fault fs ls ms e p _ c.1 (outer (pending Tried i a b l end n) fs (length ls) c) ∙ ap (λ w. resume fs ls p Fault w) (omega arith)

      tried_more : (q : Part) (qs : Parts) (t : Trial) → cont (pending Tried i a b q qs n ∷ fs) ls p r t ≡ resume_mid fs (tried_end (pending Tried i a b l (q then qs) n) ls p r (and_then ls t (λ pre' p'. several qs pre' p')))
      tried_more q qs (clean ms e x) = tried_rest q qs (q then qs) ms e x (several qs (ls ++ ms) e)
      tried_more q qs (given_up x) = refl

      tried_turn : (qs : Parts) → resumed (next_tried means nodes row (pos 0) (pending Tried i a b l qs n) fs ls p r qs) ≡ resume_mid fs (tried_end (pending Tried i a b l qs n) ls p r (several qs ls p))
      tried_turn end = alike fs p Clean (ap (λ z. completed (pending Tried i a b l end n) z p Good (pos 0)) (sym (append-nil ls))) (omega arith)
      tried_turn (q then qs) = begun_tried q (pending Tried i a b q qs n ∷ fs) ls p r c.1 c ∙ tried_more q qs (one q ls p)

    -- an option
    module _ (c : Chain (pending Optional i a b l end n ∷ fs) (length ls)) where
      option_rest : (q : Part) (qs ps : Parts) (ms : List Line) (e x : ℕ) (t : Trial) →
          resume_mid fs (option_end (pending Optional i a b q qs n) (ls ++ ms) (max r x) t) ≡ resume_mid fs (option_end (pending Optional i a b l ps n) ls r (at_least x (behind ms t)))
      option_rest q qs ps ms e x (clean ks g y) =
          ap₂ (λ z w. resume fs (completed (pending Optional i a b l ps n) z g Good (pos 1)) g Clean w) (append_assoc ls ms ks) (omega arith)
      option_rest q qs ps ms e x (given_up y) =
          ap₂ (λ z w. resume fs (z ++ line i Absent b 0 (pos 0) ∷ []) b Clean w) (take_less a ls ms (omega (arith, c.0))) (omega arith)

      option_more : (q : Part) (qs : Parts) (t : Trial) → cont (pending Optional i a b q qs n ∷ fs) ls p r t ≡ resume_mid fs (option_end (pending Optional i a b l (q then qs) n) ls r (and_then ls t (λ pre' p'. several qs pre' p')))
      option_more q qs (clean ms e x) = option_rest q qs (q then qs) ms e x (several qs (ls ++ ms) e)
      option_more q qs (given_up x) = refl

      option_turn : (qs : Parts) → resumed (next_tried means nodes row (pos 1) (pending Optional i a b l qs n) fs ls p r qs) ≡ resume_mid fs (option_end (pending Optional i a b l qs n) ls r (several qs ls p))
      option_turn end = alike fs p Clean (ap (λ z. completed (pending Optional i a b l end n) z p Good (pos 1)) (sym (append-nil ls))) (omega arith)
      option_turn (q then qs) = begun_tried q (pending Optional i a b q qs n ∷ fs) ls p r tt c ∙ option_more q qs (one q ls p)

    -- a choice: xs are its own line and those before it
    module _ (c : Chain (pending Choice i a b l end n ∷ fs) (length ls)) where
      abbrev xs : List Line
      xs = take (a + 1) ls

      long : length xs ≡ a + 1
      long = length-take-le (a + 1) ls (omega (arith, c.0))

      branch_chain : Chain (pending Choice i a b l end n ∷ fs) (length xs)
      branch_chain = (omega (arith, long), tt, c.2)

      branch_rest : (q : Part) (qs ps : Parts) (x : ℕ) (t : Trial) →
          resume_mid fs (choice_end (pending Choice i a b q qs (n + 1)) (take (a + 1) xs) (max r x) t) ≡ resume_mid fs (choice_end (pending Choice i a b l ps n) xs r (at_least x t))
      branch_rest q qs ps x (clean ks g y) = alike fs g Clean (ap (λ z. take a z ++ ks) (take-take (a + 1) (a + 1) ls (omega arith))) (omega arith)
      branch_rest q qs ps x (given_up y) =
          ap₂ (λ z w. resume fs (take a z ++ line i SyntaxFault b 0 (pos 5) ∷ []) b Fault w) (take-take (a + 1) (a + 1) ls (omega arith)) (omega arith)

      branch_more : (q : Part) (qs : Parts) (t : Trial) → cont (pending Choice i a b q qs (n + 1) ∷ fs) xs b r t
          ≡ resume_mid fs (choice_end (pending Choice i a b l (q then qs) n) xs r (or_else (under i b (pos (n + 1)) t) (any qs i (n + 1 + 1) xs b)))
      branch_more q qs (clean ms e x) = alike fs e Clean (again a ls ms _ c.0) refl
      branch_more q qs (given_up x) =
          ap (λ z. resume_mid fs (choice_end (pending Choice i a b q qs (n + 1)) (take (a + 1) xs) (max r x) (any qs i (n + 1 + 1) z b))) (take-take (a + 1) (a + 1) ls (omega arith))
          ∙ branch_rest q qs (q then qs) x (any qs i (n + 1 + 1) xs b)

      branch_turn : (qs : Parts) → resumed (next_branch means nodes row (pending Choice i a b l qs n) fs xs r qs) ≡ resume_mid fs (chooses (pending Choice i a b l qs n) xs r)
      branch_turn end = ap (λ w. resume fs (take a xs ++ line i SyntaxFault b 0 (pos 5) ∷ []) b Fault w) (omega (arith, long))
      branch_turn (q then qs) = begun_tried q (pending Choice i a b q qs (n + 1) ∷ fs) xs b r tt branch_chain ∙ branch_more q qs (one q xs b)

    -- an open sequence
    child_more : (q : Part) (qs : Parts) (d : OpenReading) → cont_open (pending Sequence i a b q qs n ∷ fs) ls r d
        ≡ resume_mid fs (open_end (pending Sequence i a b l (q then qs) n) ls r (child_then row q qs ls d (go qs) (seek qs)))
    child_more q qs d = child_by d.broke
      where
        child_by : (e : Bool) → resume (pending Sequence i a b q qs n ∷ fs) (ls ++ d.lines) d.place (tells e) (max r d.reach)
            ≡ resume_mid fs (open_end (pending Sequence i a b l (q then qs) n) ls r (next ls d (after_child row q qs e (go qs) (seek qs))))
        child_by true = end_more (pending Sequence i a b l qs n) fs ls d.lines r d.reach (broken row (byte_of q) q qs (go qs) (seek qs) (ls ++ d.lines) d.place)
        child_by false = end_more (pending Sequence i a b l qs n) fs ls d.lines r d.reach (go qs (ls ++ d.lines) d.place)

    child_turn : (qs : Parts) → resumed (next_child means nodes row (pending Sequence i a b l qs n) fs ls p r qs) ≡ resume_mid fs (open_end (pending Sequence i a b l qs n) ls r (go qs ls p))
    child_turn end = alike fs p Clean (ap (λ z. shut (pending Sequence i a b l end n) z p) (sym (append-nil ls))) (omega arith)
    child_turn (q then qs) = begun_open q (pending Sequence i a b q qs n ∷ fs) ls p r ∙ child_more q qs (open_reading means nodes row q ls p)

    -- the sought mark j is found, or the parts left (later) are passed over
    sought_turn : (j : ℕ) (q : Part) (qs later ps : Parts) (o : Option ℕ) → skips ps p ≡ skips later p →
        resumed (sought j (pending Sequence i a b l ps n) (pending Sequence i a b q qs n) fs ls p r o) ≡ resume_mid fs (open_end (pending Sequence i a b l ps n) ls r (sought_at j later ls p o (go qs)))
    sought_turn j q qs later ps None e = ap (λ ms. resume_mid fs (open_end (pending Sequence i a b l ps n) ls r (wrote ls ms p true))) e
    sought_turn j q qs later ps (Some x) e = end_more (pending Sequence i a b l ps n) fs ls (found j p x) r (length ls + length (found j p x)) (go qs (ls ++ found j p x) (x + 1))

    mended_turn : (qs : Parts) (o : Option ℕ) → resumed (mended means nodes row (pending Sequence i a b l qs n) fs ls p r o) ≡ resume_mid fs (open_end (pending Sequence i a b l qs n) ls r (broken row o l qs (go qs) (seek qs) ls p))
    mended_turn qs None = refl
    mended_turn qs (Some x) = sought_turn (node_of l) l qs qs qs (first_from row x p) refl

    hunted_turn : (q : Part) (qs : Parts) (o : Option ℕ) → resumed (hunted means nodes row (pending Sequence i a b l (q then qs) n) fs ls p r q qs o)
        ≡ resume_mid fs (open_end (pending Sequence i a b l (q then qs) n) ls r (recovery.sought row o q qs (go qs) (seek qs) ls p))
    hunted_turn q qs None = end_more (pending Sequence i a b l qs n) fs ls (skipped (node_of q) p ∷ []) r (length ls + 1) (seek qs (ls ++ skipped (node_of q) p ∷ []) p)
    hunted_turn q qs (Some x) = sought_turn (node_of q) q qs (q then qs) (q then qs) (first_from row x p) refl

    ended : (d : OpenReading) → d ≡ gave [] p true (length ls) → resume fs (shut (pending Sequence i a b l end n) ls p) p Fault r ≡ resume_mid fs (open_end (pending Sequence i a b l end n) ls r d)
    ended d e = alike fs p Fault (ap (λ z. shut (pending Sequence i a b l end n) z p) (sym (append-nil ls))) (omega arith) ∙ ap (λ z. resume_mid fs (open_end (pending Sequence i a b l end n) ls r z)) (sym e)

    seek_turn : (qs : Parts) → resumed (next_sought means nodes row (pending Sequence i a b l qs n) fs ls p r qs) ≡ resume_mid fs (open_end (pending Sequence i a b l qs n) ls r (seek qs ls p))
    seek_turn end = ended (gave [] p true (length ls)) refl
    seek_turn (q then qs) = hunted_turn q qs (byte_of q)

    skip_turn : (qs : Parts) → resumed (next_skipped means nodes row (pending Sequence i a b l qs n) fs ls p r qs) ≡ resume_mid fs (open_end (pending Sequence i a b l qs n) ls r (wrote ls (skips qs p) p true))
    skip_turn end = ended (wrote ls [] p true) (ap (λ x. gave [] p true x) (omega arith))
    skip_turn (q then qs) =
        end_more (pending Sequence i a b l qs n) fs ls (skipped (node_of q) p ∷ []) r (length ls + 1) (wrote (ls ++ skipped (node_of q) p ∷ []) (skips qs p) p true)
        ∙ ap (λ x. resume_mid fs (open_end (pending Sequence i a b l (q then qs) n) ls r (gave (skips (q then qs) p) p true x))) (omega (arith, length_push ls (skipped (node_of q) p)))

    -- what an open node does next does not change what comes of it all
    turned : (w : Way) (t : Told) (qs : Parts) → Chain (pending w i a b l qs n ∷ fs) (length ls) →
        resumed (turn_by means nodes row w (pending w i a b l qs n) fs ls p r t) ≡ resume (pending w i a b l qs n ∷ fs) ls p t r
    turned Sequence Begin qs c = child_turn qs
    turned Sequence Clean qs c = child_turn qs
    turned Sequence Fault qs c = mended_turn qs (byte_of l)
    turned Sequence Seek qs c = seek_turn qs
    turned Sequence Skip qs c = skip_turn qs
    turned Tried Begin qs c = tried_turn c qs
    turned Tried Clean qs c = tried_turn c qs
    turned Tried Fault qs c = refl
    turned Tried Seek qs c = refl
    turned Tried Skip qs c = refl
    turned Choice Begin qs c = branch_turn c qs
    turned Choice Clean qs c = refl
    turned Choice Fault qs c = branch_turn c qs
    turned Choice Seek qs c = branch_turn c qs
    turned Choice Skip qs c = branch_turn c qs
    turned Optional Begin qs c = option_turn c qs
    turned Optional Clean qs c = option_turn c qs
    turned Optional Fault qs c = refl
    turned Optional Seek qs c = refl
    turned Optional Skip qs c = refl

  pub turn_is : (f : Pending) (fs : List Pending) (ls : List Line) (p r : ℕ) (t : Told) → length ls ≤ r → Chain (f ∷ fs) (length ls) →
      resumed (turn_by means nodes row f.way f fs ls p r t) ≡ resume (f ∷ fs) ls p t r
  turn_is f fs ls p r t low c = turned f.node f.at f.start f.branch f.last fs ls p r low f.way t f.rest c
