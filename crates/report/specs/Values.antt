-- The values in a row's columns, from the lines that stand.
use Rattle.std.specs.Prelude.{ℕ, cond, List, [], ◌∷◌, ◌++◌, ℤ, Some, None, Option, ◌==◌}
use Rattle.layout.specs.declared.node.Shape.{Shape}
use Rattle.layout.specs.declared.node.Shape.TheVariants.{Field, Mark, Sequence, Choice, Optional, Check}
use Rattle.layout.specs.declared.node.Node.{Node}
use Rattle.layout.specs.Trees.{node_at}
use Rattle.report.specs.declared.outcome.Outcome.{Outcome}
use Rattle.report.specs.declared.outcome.Outcome.TheVariants.{Good, SyntaxFault, CheckFault, Absent, Skipped, FaultBelow, Scrap}
use Rattle.report.specs.declared.line.Line.{Line}

-- a column and a number in it
abbrev pub Value : Type 0
Value = ℕ × ℤ

-- the column of a field that has one; no other shape has one
abbrev pub column_of : Shape → Option ℕ
column_of (Field kind column) = column
column_of (Mark byte) = None
column_of (Sequence child) = None
column_of (Choice child) = None
column_of (Optional child) = None
column_of (Check relation left right) = None

-- a number that was read into a column, if there is one
abbrev pub entry : Option ℕ → ℤ → List Value
entry None z = []
entry (Some c) z = (c, z) ∷ []

-- only good lines have a value
abbrev pub entered : Outcome → Option ℕ → ℤ → List Value
entered Good c z = entry c z
entered SyntaxFault c z = []
entered CheckFault c z = []
entered Absent c z = []
entered Skipped c z = []
entered FaultBelow c z = []
entered Scrap c z = []

-- the value of a line: of a good field line with a column
abbrev pub value_of : List Node → Line → List Value
value_of nodes l = entered l.outcome (column_of (node_at nodes l.node).shape) l.number

-- the values of lines, in order
abbrev pub values : List Node → List Line → List Value
values nodes [] = []
values nodes (l ∷ ls) = value_of nodes l ++ values nodes ls

abbrev pub later : Option ℤ → Option ℤ → Option ℤ
later old None = old
later old (Some z) = Some z

abbrev pub in_column : ℕ → Value → Option ℤ
in_column c v = cond (v.0 == c) (Some v.1) None

-- what stands in column c: the latest number there
abbrev pub latest : ℕ → List Value → Option ℤ
latest c [] = None
latest c (v ∷ vs) = later (in_column c v) (latest c vs)
