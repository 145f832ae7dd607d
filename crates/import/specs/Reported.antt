-- What an import keeps of a report that stands.
use Rattle.std.specs.Prelude.{ℕ, List, [], ℤ, Some, None, Option}
use Rattle.rows.specs.Cuts.{Bytes}
use Rattle.rows.specs.Rules as rules
use Rattle.rows.specs.declared.piece.Mark.{Mark}
use Rattle.fields.specs.Meanings as fields
use Rattle.layout.specs.declared.node.Node.{Node}
use Rattle.report.specs.Reports.{print}
use Rattle.store.specs.declared.memory.Report.{Report}
use Rattle.store.specs.Stored.{report_of, Framed}
use Rattle.import.specs.declared.stage.Stage.{Stage}
use Rattle.import.specs.declared.stage.Stage.TheVariants.{Empty, Between, Unread, Read, End}
use Rattle.import.specs.Slips.{part}

-- a standing report is the report of the row that it prints, measured for that row's frame
pub record StandsFor (rule : rules.Meaning) (means : ℕ → ℕ → fields.Meaning) (nodes : List Node) (constants : List ℤ) (mark : Mark) (r : Report) : Type 0 where
  pub bytes : Bytes (print means nodes (report_of r))
  pub framed : Framed rule.frame means nodes constants (print means nodes (report_of r)) mark r

abbrev pub Reported : rules.Meaning → (ℕ → ℕ → fields.Meaning) → List Node → List ℤ → Option Mark → Report → Type 0
Reported rule means nodes constants None r = Unit {0}
Reported rule means nodes constants (Some mark) r = StandsFor rule means nodes constants mark r

-- the bytes of the row that is open and unread
abbrev pub unread_bytes : List ℕ → Stage → List ℕ
unread_bytes file Empty = []
unread_bytes file Between = []
unread_bytes file (Unread start n mark) = part file start n
unread_bytes file Read = []
unread_bytes file (End start n) = []
