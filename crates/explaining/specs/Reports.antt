-- What is written of a row that was read: why it is set aside, if it is.
use Rattle.std.specs.Prelude.{ℕ, ◌+◌, cond, List, [], ◌∷◌, ◌++◌, ℤ, ◌==◌}
use Rattle.std.specs.List.{flat_map}
use Rattle.layout.specs.declared.node.Node.{Node}
use Rattle.layout.specs.Trees.{node_at}
use Rattle.report.specs.declared.outcome.Outcome.{Outcome}
use Rattle.report.specs.declared.outcome.Outcome.TheVariants.{Good, SyntaxFault, CheckFault, Absent, Skipped, FaultBelow, Scrap}
use Rattle.report.specs.declared.line.Line.{Line}
use Rattle.report.specs.Outcomes.{Role, what_was_read, a_fault, loose_bytes, a_note, role_of}
use Rattle.report.specs.Reports.{Report, fault_count}
use Rattle.cli.specs.declared.families.FamilyWords.{FamilyWords}
use Rattle.import.specs.Slips.{part}
use Rattle.tracing.specs.Traces.{on_a_line}
use Rattle.explaining.specs.declared.row.Row.{Row}
use Rattle.explaining.specs.declared.texts.Fate.TheVariants.{Faulty}
use Rattle.explaining.specs.Lines.{aside_line, fault_line, bytes_left_line, scrap_line, skipped_line}

-- how many parts were skipped
abbrev pub skip_of : Outcome → ℕ
skip_of Good = 0
skip_of SyntaxFault = 0
skip_of CheckFault = 0
skip_of Absent = 0
skip_of Skipped = 1
skip_of FaultBelow = 0
skip_of Scrap = 0

abbrev pub parts_skipped : List Line → ℕ
parts_skipped [] = 0
parts_skipped (l ∷ ls) = skip_of l.outcome + parts_skipped ls

abbrev pub skipped_text : ℕ → List ℕ
skipped_text n = cond (n == 0) [] (on_a_line (skipped_line n))

-- a fault of a part, or of the row itself
abbrev pub fault_text : FamilyWords → List Node → List ℤ → Line → List ℕ
fault_text family nodes constants l =
    cond (l.node == 0) (on_a_line (bytes_left_line l.start)) (on_a_line (fault_line family constants (node_at nodes l.node).shape l.node l.start l.number))

-- under a family and a layout, of a row of these bytes
module _ (family : FamilyWords) (nodes : List Node) (constants : List ℤ) (bytes : List ℕ) where
  abbrev pub told_by : Role → Line → List ℕ
  told_by what_was_read l = []
  told_by a_fault l = fault_text family nodes constants l
  told_by loose_bytes l = on_a_line (scrap_line l.start (part bytes l.start l.length))
  told_by a_note l = []

  -- faults and scrap are told, each on a line
  abbrev pub told : Line → List ℕ
  told l = told_by (role_of l.outcome) l

  abbrev pub lines_text : List Line → List ℕ
  lines_text ls = flat_map told ls

  abbrev pub faulty_text : Row → Report → List ℕ
  faulty_text row r = on_a_line (aside_line row (Faulty (fault_count r))) ++ (lines_text r.lines ++ skipped_text (parts_skipped r.lines))

  -- nothing of a row without a fault
  abbrev pub report_text : Row → Report → List ℕ
  report_text row r = cond (fault_count r == 0) [] (faulty_text row r)
