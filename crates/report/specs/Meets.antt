-- When a row meets a layout: shape by shape, over the bytes left and the values so far.
use Rattle.std.specs.Prelude.{ℕ, Bool, true, false, List, [], ◌∷◌, ◌++◌, drop, ℤ, Some, None, Ok, Err, Option}
use Rattle.fields.specs.Meanings.{Meaning, Reading}
use Rattle.layout.specs.declared.node.Node.{Node}
use Rattle.layout.specs.Trees.{Part, Parts, field, mark, check, sequence, choice, optional, end, ◌then◌, tree_of}
use Rattle.report.specs.declared.outcome.Outcome.{Outcome}
use Rattle.report.specs.Outcomes.{role_of, is_fault}
use Rattle.report.specs.Values.{Value, entry}
use Rattle.report.specs.Checks.{checked}
use Rattle.report.specs.Leaves.{mark_reads}

-- the bytes left and the values so far
pub record Left : Type 0 where
  pub bytes : List ℕ
  pub values : List Value

abbrev pub leaves : List ℕ → List Value → Left
leaves bs vs = record { bytes = bs; values = vs }

-- a field or a mark takes its bytes, and a number goes into its column
abbrev pub leaf_meets : Option ℕ → List ℕ → List Value → Reading → Option Left
leaf_meets column bs vs (Ok x) = Some (leaves (drop x.0 bs) (vs ++ entry column x.1))
leaf_meets column bs vs (Err c) = None

-- a check must not fail; a value missing is no failure
abbrev pub check_meets : List ℕ → List Value → Outcome → Option Left
check_meets bs vs o = elim (is_fault (role_of o)) [ true ↦ None | false ↦ Some (leaves bs vs) ]

abbrev pub then_meets : Option Left → (List ℕ → List Value → Option Left) → Option Left
then_meets None rest = None
then_meets (Some l) rest = rest l.bytes l.values

abbrev pub else_meets : Option Left → Option Left → Option Left
else_meets None other = other
else_meets (Some l) other = Some l

module _ (means : ℕ → ℕ → Meaning) where
  -- what is left behind a part at the beginning of the bytes; none if it is not there
  abbrev mutual
    pub part_meets : Part → List ℕ → List Value → Option Left
    part_meets (field i kind parameter column) bs vs = leaf_meets column bs vs ((means kind parameter).reads bs)
    part_meets (mark i byte) bs vs = leaf_meets None bs vs (mark_reads byte bs)
    part_meets (check i relation left right) bs vs = check_meets bs vs (checked relation left right vs)
    part_meets (sequence i parts) bs vs = all_meet parts bs vs
    part_meets (choice i parts) bs vs = some_meets parts bs vs
    part_meets (optional i parts) bs vs = else_meets (all_meet parts bs vs) (Some (leaves bs vs))

    -- all parts, one behind the other
    pub all_meet : Parts → List ℕ → List Value → Option Left
    all_meet end bs vs = Some (leaves bs vs)
    all_meet (q then qs) bs vs = then_meets (part_meets q bs vs) (λ bs' vs'. all_meet qs bs' vs')

    -- the first of the parts that is there
    pub some_meets : Parts → List ℕ → List Value → Option Left
    some_meets end bs vs = None
    some_meets (q then qs) bs vs = else_meets (part_meets q bs vs) (some_meets qs bs vs)

abbrev pub none : List ℕ → Bool
none [] = true
none (x ∷ xs) = false

abbrev pub nothing_left : Option Left → Bool
nothing_left None = false
nothing_left (Some l) = none l.bytes

-- a row meets a layout when the root leaves no byte of it
abbrev pub meets : (ℕ → ℕ → Meaning) → List Node → List ℤ → List ℕ → Bool
meets means nodes constants row = nothing_left (part_meets means (tree_of nodes constants) row [])
