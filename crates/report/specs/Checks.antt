-- Checks: a relation between what stands in a column and what stands in another, or a constant.
use Rattle.std.specs.Prelude.{ℕ, Bool, cond, not, ◌&&◌, List, ℤ, Some, None, Option, int_le, int_lt}
use Rattle.layout.specs.declared.node.Relation.{Relation}
use Rattle.layout.specs.declared.node.Relation.TheVariants.{Equal, Unequal, Less, AtMost}
use Rattle.layout.specs.Trees.{Operand, column_value, number}
use Rattle.report.specs.declared.outcome.Outcome.{Outcome}
use Rattle.report.specs.declared.outcome.Outcome.TheVariants.{Good, CheckFault, Skipped}
use Rattle.report.specs.Values.{Value, latest}

abbrev pub holds : Relation → ℤ → ℤ → Bool
holds Equal x y = int_le x y && int_le y x
holds Unequal x y = not (int_le x y && int_le y x)
holds Less x y = int_lt x y
holds AtMost x y = int_le x y

-- what the right side of a check is, among these values
abbrev pub side_value : Operand → List Value → Option ℤ
side_value (column_value c) vs = latest c vs
side_value (number z) vs = Some z

-- a value is missing, or the relation fails, or all is well
abbrev pub compared : Relation → Option ℤ → Option ℤ → Outcome
compared r None y = Skipped
compared r (Some x) None = Skipped
compared r (Some x) (Some y) = cond (holds r x y) Good CheckFault

-- a check's outcome among the values so far
abbrev pub checked : Relation → ℕ → Operand → List Value → Outcome
checked r left right vs = compared r (latest left vs) (side_value right vs)
