-- The reach of a reading counts the lines before it, and its own.
use Rattle.std.proofs.Common.{ℕ, ◌+◌, ◌≤◌, Bool, true, false, List, [], ◌∷◌, ◌++◌, length, drop, ℤ, pos, Some, None, Ok, Err, Option, arith, length-append}
use native.Mathlib.Nat.{le-max_right}
use Rattle.std.proofs.lemmas.List.{length_push}
use Rattle.fields.specs.Meanings.{Meaning, Reading}
use Rattle.layout.specs.declared.node.Node.{Node}
use Rattle.layout.specs.Trees.{Part, Parts, field, mark, check, sequence, choice, optional, end, ◌then◌}
use Rattle.report.specs.declared.outcome.Outcome.{Outcome}
use Rattle.report.specs.declared.outcome.Outcome.TheVariants.{Good, SyntaxFault, CheckFault, Absent, Skipped, FaultBelow, Scrap}
use Rattle.report.specs.declared.line.Line.{Line}
use Rattle.report.specs.Lines.{begun, skipped}
use Rattle.report.specs.Values.{values}
use Rattle.report.specs.Checks.{checked}
use Rattle.report.specs.Leaves.{mark_reads, first_from}
use Rattle.report.specs.Trials.{Trial, clean, given_up, leaf_tried, check_tried, at_least, behind, under, and_then, or_else, or_absent, trial, trials, branches}
use Rattle.report.specs.Recovery.{OpenReading, wrote, Rest, next, node_of, byte_of, skips, found, sought_at, broken, sought, after_child}
use Rattle.report.specs.Readings.{leaf_read, choice_read, option_read, open_reading, children, seeking}

-- behind n lines; a trial that is given up had one line at least if it is of one part
abbrev pub Reaches : ℕ → Trial → Type 0
Reaches n (clean ls q r) = n + length ls ≤ r
Reaches n (given_up r) = n ≤ r

abbrev pub PartReaches : ℕ → Trial → Type 0
PartReaches n (clean ls q r) = n + length ls ≤ r
PartReaches n (given_up r) = n + 1 ≤ r

abbrev pub ReadReaches : ℕ → OpenReading → Type 0
ReadReaches n d = n + length d.lines ≤ d.reach

leaf_reaches : (i : ℕ) (pre : List Line) (p : ℕ) (r : Reading) → PartReaches (length pre) (leaf_tried i pre p r)
leaf_reaches i pre p (Ok x) = omega arith
leaf_reaches i pre p (Err c) = omega arith

check_reaches : (i : ℕ) (pre : List Line) (p : ℕ) (o : Outcome) → PartReaches (length pre) (check_tried i pre p o)
check_reaches i pre p Good = omega arith
check_reaches i pre p SyntaxFault = omega arith
check_reaches i pre p CheckFault = omega arith
check_reaches i pre p Absent = omega arith
check_reaches i pre p Skipped = omega arith
check_reaches i pre p FaultBelow = omega arith
check_reaches i pre p Scrap = omega arith

-- a node's own line takes the place of the begun one
under_reaches : (i : ℕ) (pre : List Line) (p : ℕ) (z : ℤ) (t : Trial) → Reaches (length (pre ++ begun i p ∷ [])) t → PartReaches (length pre) (under i p z t)
under_reaches i pre p z (clean ls q r) h = omega (arith, length_push pre (begun i p))
under_reaches i pre p z (given_up r) h = omega (arith, length_push pre (begun i p))

pub part_reaches : (n : ℕ) (t : Trial) → PartReaches n t → Reaches n t
part_reaches n (clean ls q r) h = h
part_reaches n (given_up r) h = omega arith

raised_reaches : (n r : ℕ) (t : Trial) → PartReaches n t → PartReaches n (at_least r t)
raised_reaches n r (clean ls q s) h = omega (arith, le-max_right r s)
raised_reaches n r (given_up s) h = omega (arith, le-max_right r s)

else_reaches : (n : ℕ) (t u : Trial) → PartReaches n t → PartReaches n u → PartReaches n (or_else t u)
else_reaches n (clean ls q r) u h k = h
else_reaches n (given_up r) u h k = raised_reaches n r u k

absent_reaches : (i n p : ℕ) (t : Trial) → PartReaches n t → PartReaches n (or_absent i p t)
absent_reaches i n p (clean ls q r) h = h
absent_reaches i n p (given_up r) h = h

behind_reaches : (pre ls : List Line) (r : ℕ) (t : Trial) → Reaches (length (pre ++ ls)) t → Reaches (length pre) (at_least r (behind ls t))
behind_reaches pre ls r (clean ms q s) h = omega (arith, length-append pre ls, length-append ls ms, le-max_right r s)
behind_reaches pre ls r (given_up s) h = omega (arith, length-append pre ls, le-max_right r s)

then_reaches : (pre : List Line) (t : Trial) (rest : List Line → ℕ → Trial) → PartReaches (length pre) t → ((l : List Line) (q : ℕ) → Reaches (length l) (rest l q)) →
    Reaches (length pre) (and_then pre t rest)
then_reaches pre (clean ls q r) rest h f = behind_reaches pre ls r (rest (pre ++ ls) q) (f (pre ++ ls) q)
then_reaches pre (given_up r) rest h f = omega arith

-- the same of open readings
leaf_read_lem : (i : ℕ) (pre : List Line) (p : ℕ) (r : Reading) → ReadReaches (length pre) (leaf_read i pre p r)
leaf_read_lem i pre p (Ok x) = omega arith
leaf_read_lem i pre p (Err c) = omega arith

choice_read_lem : (i n p : ℕ) (t : Trial) → PartReaches n t → ReadReaches n (choice_read i p t)
choice_read_lem i n p (clean ls q r) h = h
choice_read_lem i n p (given_up r) h = h

option_read_lem : (i n p : ℕ) (t : Trial) → PartReaches n t → ReadReaches n (option_read i p t)
option_read_lem i n p (clean ls q r) h = h
option_read_lem i n p (given_up r) h = h

abbrev RestReaches : Rest → Type 0
RestReaches k = (l : List Line) (q : ℕ) → ReadReaches (length l) (k l q)

next_reaches : (pre : List Line) (d : OpenReading) (rest : Rest) → RestReaches rest → ReadReaches (length pre) (next pre d rest)
next_reaches pre d rest f =
    let e = rest (pre ++ d.lines) d.place in
    omega (arith, f (pre ++ d.lines) d.place, length-append pre d.lines, length-append d.lines e.lines, le-max_right d.reach e.reach)

wrote_reaches : (pre ls : List Line) (p : ℕ) (b : Bool) → ReadReaches (length pre) (wrote pre ls p b)
wrote_reaches pre ls p b = omega arith

sought_reaches : (i : ℕ) (later : Parts) (pre : List Line) (p : ℕ) (o : Option ℕ) (go_on : Rest) → RestReaches go_on → ReadReaches (length pre) (sought_at i later pre p o go_on)
sought_reaches i later pre p None go_on f = wrote_reaches pre (skips later p) p true
sought_reaches i later pre p (Some j) go_on f = next_reaches pre (wrote pre (found i p j) (j + 1) false) go_on f

broken_reaches : (row : List ℕ) (m : Option ℕ) (q : Part) (qs : Parts) (go_on seek_on : Rest) → RestReaches go_on → RestReaches seek_on → RestReaches (broken row m q qs go_on seek_on)
broken_reaches row None q qs go_on seek_on f g = λ l p. g l p
broken_reaches row (Some b) q qs go_on seek_on f g = λ l p. sought_reaches (node_of q) qs l p (first_from row b p) go_on f

hunted_reaches : (row : List ℕ) (m : Option ℕ) (q : Part) (qs : Parts) (go_on seek_on : Rest) → RestReaches go_on → RestReaches seek_on → RestReaches (sought row m q qs go_on seek_on)
hunted_reaches row None q qs go_on seek_on f g = λ l p. next_reaches l (wrote l (skipped (node_of q) p ∷ []) p false) seek_on g
hunted_reaches row (Some b) q qs go_on seek_on f g = λ l p. sought_reaches (node_of q) (q then qs) l p (first_from row b p) go_on f

after_reaches : (row : List ℕ) (q : Part) (qs : Parts) (b : Bool) (go_on seek_on : Rest) → RestReaches go_on → RestReaches seek_on → RestReaches (after_child row q qs b go_on seek_on)
after_reaches row q qs true go_on seek_on f g = broken_reaches row (byte_of q) q qs go_on seek_on f g
after_reaches row q qs false go_on seek_on f g = λ l p. f l p

module _ (means : ℕ → ℕ → Meaning) (nodes : List Node) (row : List ℕ) where
  mutual
    pub trial_reaches : (q : Part) (pre : List Line) (p : ℕ) → PartReaches (length pre) (trial means nodes row q pre p)
    trial_reaches (field i kind parameter column) pre p = leaf_reaches i pre p ((means kind parameter).reads (drop p row))
    trial_reaches (mark i byte) pre p = leaf_reaches i pre p (mark_reads byte (drop p row))
    trial_reaches (check i relation left right) pre p = check_reaches i pre p (checked relation left right (values nodes pre))
    trial_reaches (sequence i parts) pre p = under_reaches i pre p (pos 0) _ (trials_reach parts (pre ++ begun i p ∷ []) p)
    trial_reaches (choice i parts) pre p = branches_reach parts i 1 pre p
    trial_reaches (optional i parts) pre p = absent_reaches i (length pre) p _ (under_reaches i pre p (pos 1) _ (trials_reach parts (pre ++ begun i p ∷ []) p))

    pub trials_reach : (qs : Parts) (pre : List Line) (p : ℕ) → Reaches (length pre) (trials means nodes row qs pre p)
    trials_reach end pre p = omega arith
    trials_reach (q then qs) pre p = then_reaches pre (trial means nodes row q pre p) _ (trial_reaches q pre p) (λ l x. trials_reach qs l x)

    pub branches_reach : (qs : Parts) (i n : ℕ) (pre : List Line) (p : ℕ) → PartReaches (length pre) (branches means nodes row qs i n (pre ++ begun i p ∷ []) p)
    branches_reach end i n pre p = omega (arith, length_push pre (begun i p))
    branches_reach (q then qs) i n pre p =
        else_reaches (length pre) _ _
        (under_reaches i pre p (pos n) (trial means nodes row q (pre ++ begun i p ∷ []) p) (part_reaches (length (pre ++ begun i p ∷ [])) _ (trial_reaches q (pre ++ begun i p ∷ []) p)))
        (branches_reach qs i (n + 1) pre p)

  mutual
    pub reading_reaches : (q : Part) (pre : List Line) (p : ℕ) → ReadReaches (length pre) (open_reading means nodes row q pre p)
    reading_reaches (field i kind parameter column) pre p = leaf_read_lem i pre p ((means kind parameter).reads (drop p row))
    reading_reaches (mark i byte) pre p = leaf_read_lem i pre p (mark_reads byte (drop p row))
    reading_reaches (check i relation left right) pre p = omega arith
    reading_reaches (sequence i parts) pre p = omega (arith, children_reach parts (pre ++ begun i p ∷ []) p, length_push pre (begun i p))
    reading_reaches (choice i parts) pre p = choice_read_lem i (length pre) p _ (branches_reach parts i 1 pre p)
    reading_reaches (optional i parts) pre p =
        option_read_lem i (length pre) p _ (under_reaches i pre p (pos 1) _ (trials_reach parts (pre ++ begun i p ∷ []) p))

    pub children_reach : (qs : Parts) (pre : List Line) (p : ℕ) → ReadReaches (length pre) (children means nodes row qs pre p)
    children_reach end pre p = omega arith
    children_reach (q then qs) pre p =
        next_reaches pre (open_reading means nodes row q pre p)
        (after_child row q qs (open_reading means nodes row q pre p).broke (λ l x. children means nodes row qs l x) (λ l x. seeking means nodes row qs l x))
        (after_reaches row q qs (open_reading means nodes row q pre p).broke (λ l x. children means nodes row qs l x) (λ l x. seeking means nodes row qs l x)
        (λ l x. children_reach qs l x) (λ l x. seeking_reach qs l x))

    pub seeking_reach : (qs : Parts) (pre : List Line) (p : ℕ) → ReadReaches (length pre) (seeking means nodes row qs pre p)
    seeking_reach end pre p = omega arith
    seeking_reach (q then qs) pre p =
        hunted_reaches row (byte_of q) q qs (λ l x. children means nodes row qs l x) (λ l x. seeking means nodes row qs l x)
        (λ l x. children_reach qs l x) (λ l x. seeking_reach qs l x) pre p
