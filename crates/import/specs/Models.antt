-- What an import is, apart from any program: what it reads rows by, where it stands, and what it has counted.
use Rattle.std.specs.Prelude.{ℕ, List, ℤ, Option}
use Rattle.rows.specs.Cuts.{Cut}
use Rattle.rows.specs.Rules as rules
use Rattle.rows.specs.declared.piece.Mark.{Mark}
use Rattle.fields.specs.Meanings as fields
use Rattle.layout.specs.declared.node.Node.{Node}
use Rattle.layout.specs.Files.{nodes_in, constants_in}
use Rattle.report.specs.Reports.{Report}
use Rattle.import.specs.declared.answer.Counts.{Counts}
use Rattle.import.specs.declared.stage.Stage.{Stage}

-- What rows are cut and read by: what the rule means, what the family means, and the layout. A new that is accepted sets rule and layout, and nothing else changes them.
pub record Setting : Type 0 where
  pub rule : rules.Meaning
  pub means : ℕ → ℕ → fields.Meaning
  pub nodes : List Node
  pub constants : List ℤ

-- the setting under a layout file
abbrev pub under : rules.Meaning → (ℕ → ℕ → fields.Meaning) → List ℕ → Setting
under rule means layout = record { rule = rule; means = means; nodes = nodes_in layout; constants = constants_in layout }

-- The report that stands, and the mark of its row. Its row is not kept: printing has it from the report.
pub record Standing : Type 0 where
  pub report : Report
  pub mark : Mark

-- The import's number, and the length of its file when new took it; `ahead` are the rows still to come of the file at hand, and the tail.
pub record Model : Type 0 where
  pub setting : Setting
  pub number : ℕ
  pub size : ℕ
  pub stage : Stage
  pub counts : Counts
  pub ahead : Cut
  pub standing : Option Standing
