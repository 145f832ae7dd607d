-- Reading a part in a trial, which its first fault line gives up.
use Rattle.std.specs.Prelude.{ℕ, ◌+◌, ◌-◌, max, true, false, List, [], ◌∷◌, ◌++◌, length, drop, ℤ, pos, Ok, Err}
use Rattle.fields.specs.Meanings.{Meaning, Reading}
use Rattle.layout.specs.declared.node.Node.{Node}
use Rattle.layout.specs.Trees.{Part, Parts, field, mark, check, sequence, choice, optional, end, ◌then◌}
use Rattle.report.specs.declared.outcome.Outcome.{Outcome}
use Rattle.report.specs.declared.outcome.Outcome.TheVariants.{Good, Absent}
use Rattle.report.specs.declared.line.Line.{Line}
use Rattle.report.specs.Outcomes.{role_of, is_fault}
use Rattle.report.specs.Lines.{line, begun}
use Rattle.report.specs.Values.{values}
use Rattle.report.specs.Checks.{checked}
use Rattle.report.specs.Leaves.{mark_reads}

-- A trial is clean, with its lines and the place behind it, or it is given up, with no line and at the place where it began.
-- Its reach is the most lines that stood at one time, those before it counted.
pub data Trial : Type 0 where
  clean : (lines : List Line) (place reach : ℕ) → Trial
  given_up : (reach : ℕ) → Trial

-- a field or a mark: a cause is a fault, whose line stood for a moment
abbrev pub leaf_tried : ℕ → List Line → ℕ → Reading → Trial
leaf_tried i pre p (Ok x) = clean (line i Good p x.0 x.1 ∷ []) (p + x.0) (length pre + 1)
leaf_tried i pre p (Err c) = given_up (length pre + 1)

-- a check: a fault gives up, a value missing does not
abbrev pub check_tried : ℕ → List Line → ℕ → Outcome → Trial
check_tried i pre p o =
    elim (is_fault (role_of o)) [ true ↦ given_up (length pre + 1) | false ↦ clean (line i o p 0 (pos 0) ∷ []) p (length pre + 1) ]

-- a trial behind other readings that reached so far
abbrev pub at_least : ℕ → Trial → Trial
at_least r (clean ls q s) = clean ls q (max r s)
at_least r (given_up s) = given_up (max r s)

-- a trial behind lines that stay if it is clean
abbrev pub behind : List Line → Trial → Trial
behind ls (clean ms q r) = clean (ls ++ ms) q r
behind ls (given_up r) = given_up r

-- node i's own line, with the number n, over what was read from p on
abbrev pub under : ℕ → ℕ → ℤ → Trial → Trial
under i p n (clean ls q r) = clean (line i Good p (q - p) n ∷ ls) q r
under i p n (given_up r) = given_up r

-- one part, and then what follows it
abbrev pub and_then : List Line → Trial → (List Line → ℕ → Trial) → Trial
and_then pre (clean ls q r) rest = at_least r (behind ls (rest (pre ++ ls) q))
and_then pre (given_up r) rest = given_up r

-- the first of two that is clean
abbrev pub or_else : Trial → Trial → Trial
or_else (clean ls q r) other = clean ls q r
or_else (given_up r) other = at_least r other

-- an option whose part is given up is absent
abbrev pub or_absent : ℕ → ℕ → Trial → Trial
or_absent i p (clean ls q r) = clean ls q r
or_absent i p (given_up r) = clean (line i Absent p 0 (pos 0) ∷ []) p r

module _ (means : ℕ → ℕ → Meaning) (nodes : List Node) (row : List ℕ) where
  -- A part at place p, and `pre` are the lines that stand before: those of its parents are begun.
  abbrev mutual
    pub trial : Part → List Line → ℕ → Trial
    trial (field i kind parameter column) pre p = leaf_tried i pre p ((means kind parameter).reads (drop p row))
    trial (mark i byte) pre p = leaf_tried i pre p (mark_reads byte (drop p row))
    trial (check i relation left right) pre p = check_tried i pre p (checked relation left right (values nodes pre))
    trial (sequence i parts) pre p = under i p (pos 0) (trials parts (pre ++ begun i p ∷ []) p)
    trial (choice i parts) pre p = branches parts i 1 (pre ++ begun i p ∷ []) p
    trial (optional i parts) pre p = or_absent i p (under i p (pos 1) (trials parts (pre ++ begun i p ∷ []) p))

    -- all parts, one behind the other
    pub trials : Parts → List Line → ℕ → Trial
    trials end pre p = clean [] p (length pre)
    trials (q then qs) pre p = and_then pre (trial q pre p) (λ pre' p'. trials qs pre' p')

    -- the first branch that is clean, under the line of the choice i; n is the number of the next branch
    pub branches : Parts → ℕ → ℕ → List Line → ℕ → Trial
    branches end i n pre p = given_up (length pre)
    branches (q then qs) i n pre p = or_else (under i p (pos n) (trial q pre p)) (branches qs i (n + 1) pre p)
