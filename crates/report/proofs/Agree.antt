-- An open reading has no fault line exactly where the same part is clean in a trial, and is then that trial.
use Rattle.std.proofs.Common.{◌≡◌, ℕ, zero, suc, ◌+◌, ◌-◌, ◌<◌, false, List, [], ◌∷◌, ◌++◌, drop, ℤ, pos, Ok, Err, sym, refl, ap, ◌∙◌, subst, add_assoc, zero-add, arith}
use Rattle.fields.specs.Meanings.{Meaning, Reading}
use Rattle.layout.specs.declared.node.Node.{Node}
use Rattle.layout.specs.Trees.{Part, Parts, field, mark, check, sequence, choice, optional, end, ◌then◌}
use Rattle.report.specs.declared.outcome.Outcome.{Outcome}
use Rattle.report.specs.declared.outcome.Outcome.TheVariants.{Good, SyntaxFault, CheckFault, Absent, Skipped, FaultBelow, Scrap}
use Rattle.report.specs.declared.line.Line.{Line}
use Rattle.report.specs.Lines.{line, begun, fault_in, faults, overall}
use Rattle.report.specs.Values.{values}
use Rattle.report.specs.Checks.{checked}
use Rattle.report.specs.Leaves.{mark_reads}
use Rattle.report.specs.Trials.{Trial, clean, given_up, leaf_tried, check_tried, at_least, behind, under, and_then, or_else, or_absent, trial, trials, branches}
use Rattle.report.specs.Recovery.{OpenReading, gave, Rest, joins, after_child, child_then}
use Rattle.report.specs.Readings.{leaf_read, check_read, choice_read, option_read, sequence_read, open_reading, children}

pub faults_append : (xs ys : List Line) → faults (xs ++ ys) ≡ faults xs + faults ys
faults_append [] ys = sym (zero-add (faults ys))
faults_append (x ∷ xs) ys = ap (λ n. fault_in x + n) (faults_append xs ys) ∙ sym (add_assoc (fault_in x) (faults xs) (faults ys))

abbrev pub Agrees : Trial → OpenReading → Type 0
Agrees (given_up r) d = 0 < faults d.lines
Agrees (clean ls q r) d = (d ≡ gave ls q false r) × (faults ls ≡ 0)

-- the lines of a clean trial hold no fault
abbrev pub Faultless : Trial → Type 0
Faultless (given_up r) = Unit {0}
Faultless (clean ls q r) = faults ls ≡ 0

pub faultless : (t : Trial) (d : OpenReading) → Agrees t d → Faultless t
faultless (given_up r) d h = tt
faultless (clean ls q r) d h = h.1

leaf_agrees : (i : ℕ) (pre : List Line) (p : ℕ) (r : Reading) → Agrees (leaf_tried i pre p r) (leaf_read i pre p r)
leaf_agrees i pre p (Ok x) = (refl, refl)
leaf_agrees i pre p (Err c) = omega arith

check_agrees : (i : ℕ) (pre : List Line) (p : ℕ) (o : Outcome) → Agrees (check_tried i pre p o) (check_read i pre p o)
check_agrees i pre p Good = (refl, refl)
check_agrees i pre p SyntaxFault = omega arith
check_agrees i pre p CheckFault = omega arith
check_agrees i pre p Absent = (refl, refl)
check_agrees i pre p Skipped = (refl, refl)
check_agrees i pre p FaultBelow = (refl, refl)
check_agrees i pre p Scrap = (refl, refl)

-- a sequence's own line is no fault
own_faults : (i p n : ℕ) (ls : List Line) (k : ℕ) → faults (line i (overall k) p n (pos 0) ∷ ls) ≡ faults ls
own_faults i p n ls zero = zero-add (faults ls)
own_faults i p n ls (suc k) = zero-add (faults ls)

under_faultless : (i p : ℕ) (n : ℤ) (t : Trial) → Faultless t → Faultless (under i p n t)
under_faultless i p n (given_up r) h = tt
under_faultless i p n (clean ls q r) h = zero-add (faults ls) ∙ h

sequence_agrees : (i p : ℕ) (t : Trial) (d : OpenReading) → Agrees t d → Agrees (under i p (pos 0) t) (sequence_read i p d)
sequence_agrees i p (given_up r) d h = omega (arith, own_faults i p (d.place - p) d.lines (faults d.lines))
sequence_agrees i p (clean ls q r) d h =
    (ap (sequence_read i p) h.0 ∙ ap (λ k. gave (line i (overall k) p (q - p) (pos 0) ∷ ls) q false r) h.1, under_faultless i p (pos 0) (clean ls q r) h.1)

else_faultless : (r : ℕ) (t : Trial) → Faultless t → Faultless (at_least r t)
else_faultless r (given_up s) h = tt
else_faultless r (clean ls q s) h = h

or_faultless : (t u : Trial) → Faultless t → Faultless u → Faultless (or_else t u)
or_faultless (given_up r) u h k = else_faultless r u k
or_faultless (clean ls q r) u h k = h

choice_agrees : (i p : ℕ) (t : Trial) → Faultless t → Agrees t (choice_read i p t)
choice_agrees i p (given_up r) h = omega arith
choice_agrees i p (clean ls q r) h = (refl, h)

option_agrees : (i p : ℕ) (t : Trial) → Faultless t → Agrees (or_absent i p t) (option_read i p t)
option_agrees i p (given_up r) h = (refl, refl)
option_agrees i p (clean ls q r) h = (refl, h)

join_agrees : (ls : List Line) (q r : ℕ) (t : Trial) (d : OpenReading) → faults ls ≡ 0 → Agrees t d → Agrees (at_least r (behind ls t)) (joins (gave ls q false r) d)
join_agrees ls q r (given_up s) d c h = omega (arith, faults_append ls d.lines)
join_agrees ls q r (clean ms e s) d c h = (ap (joins (gave ls q false r)) h.0, faults_append ls ms ∙ ap (λ n. n + faults ms) c ∙ zero-add (faults ms) ∙ h.1)

next_agrees : (row : List ℕ) (q : Part) (qs : Parts) (pre : List Line) (t : Trial) (d : OpenReading) (rest : List Line → ℕ → Trial) (go_on seek_on : Rest) →
    ((l : List Line) (p : ℕ) → Agrees (rest l p) (go_on l p)) → Agrees t d → Agrees (and_then pre t rest) (child_then row q qs pre d go_on seek_on)
next_agrees row q qs pre (given_up r) d rest go_on seek_on f h =
    omega (arith, faults_append d.lines (after_child row q qs d.broke go_on seek_on (pre ++ d.lines) d.place).lines)
next_agrees row q qs pre (clean ls e r) d rest go_on seek_on f h =
    subst (λ x. Agrees (and_then pre (clean ls e r) rest) (child_then row q qs pre x go_on seek_on)) (sym h.0)
    (join_agrees ls e r (rest (pre ++ ls) e) (go_on (pre ++ ls) e) h.1 (f (pre ++ ls) e))

module _ (means : ℕ → ℕ → Meaning) (nodes : List Node) (row : List ℕ) where
  mutual
    pub agrees : (q : Part) (pre : List Line) (p : ℕ) → Agrees (trial means nodes row q pre p) (open_reading means nodes row q pre p)
    agrees (field i kind parameter column) pre p = leaf_agrees i pre p ((means kind parameter).reads (drop p row))
    agrees (mark i byte) pre p = leaf_agrees i pre p (mark_reads byte (drop p row))
    agrees (check i relation left right) pre p = check_agrees i pre p (checked relation left right (values nodes pre))
    agrees (sequence i parts) pre p = sequence_agrees i p _ _ (all_agree parts (pre ++ begun i p ∷ []) p)
    agrees (choice i parts) pre p = choice_agrees i p _ (branches_faultless parts i 1 (pre ++ begun i p ∷ []) p)
    agrees (optional i parts) pre p = option_agrees i p _ (under_faultless i p (pos 1) _ (faultless _ _ (all_agree parts (pre ++ begun i p ∷ []) p)))

    pub all_agree : (qs : Parts) (pre : List Line) (p : ℕ) → Agrees (trials means nodes row qs pre p) (children means nodes row qs pre p)
    all_agree end pre p = (refl, refl)
    all_agree (q then qs) pre p =
        next_agrees row q qs pre (trial means nodes row q pre p) (open_reading means nodes row q pre p) _ _ _ (λ l x. all_agree qs l x) (agrees q pre p)

    pub branches_faultless : (qs : Parts) (i n : ℕ) (pre : List Line) (p : ℕ) → Faultless (branches means nodes row qs i n pre p)
    branches_faultless end i n pre p = tt
    branches_faultless (q then qs) i n pre p =
        or_faultless _ _ (under_faultless i p (pos n) _ (faultless _ _ (agrees q pre p))) (branches_faultless qs i (n + 1) pre p)
