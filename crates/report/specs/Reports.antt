-- The report of a row under a layout and a family.
use Rattle.std.specs.Prelude.{ℕ, Bool, true, false, cond, List, [], ◌∷◌, ◌++◌, length, ℤ, pos, nat_lt}
use Rattle.fields.specs.Meanings.{Meaning}
use Rattle.layout.specs.declared.node.Node.{Node}
use Rattle.layout.specs.Trees.{tree_of}
use Rattle.report.specs.declared.outcome.Outcome.TheVariants.{SyntaxFault}
use Rattle.report.specs.declared.line.Line.{Line}
use Rattle.report.specs.Lines.{line, scrap, faults}
use Rattle.report.specs.Recovery.{OpenReading, wrote, next}
use Rattle.report.specs.Readings.{open_reading}
use Rattle.report.specs.Printing.{kept, printed}

-- A root that ends unbroken at p, before the row's end n, is a fault of the row, with the number 6.
abbrev pub ends_early : Bool → ℕ → ℕ → List Line
ends_early true p n = []
ends_early false p n = cond (nat_lt p n) (line 0 SyntaxFault p 0 (pos 6) ∷ []) []

-- the lines of the row itself, behind those of the root: bytes left are scrap
abbrev pub row_lines : Bool → ℕ → ℕ → List Line
row_lines broke p n = ends_early broke p n ++ scrap 0 p n

-- the root is read open, from the row's beginning
abbrev pub row_read : List ℕ → OpenReading → OpenReading
row_read row r = next [] r (λ pre p. wrote pre (row_lines r.broke p (length row)) (length row) r.broke)

-- lines, and the kept text
pub record Report : Type 0 where
  pub lines : List Line
  pub text : List ℕ

module _ (means : ℕ → ℕ → Meaning) (nodes : List Node) (constants : List ℤ) (row : List ℕ) where
  abbrev pub whole_read : OpenReading
  whole_read = row_read row (open_reading means nodes row (tree_of nodes constants) [] 0)

  -- the report of a row
  abbrev pub report : Report
  report = record { lines = whole_read.lines; text = kept means nodes row whole_read.lines }

  -- the most lines that stood at one time
  abbrev pub reach : ℕ
  reach = whole_read.reach

-- how many faults a report counts
abbrev pub fault_count : Report → ℕ
fault_count r = faults r.lines

-- what printing makes of a report, by layout and family alone
abbrev pub print : (ℕ → ℕ → Meaning) → List Node → Report → List ℕ
print means nodes r = printed means nodes r.lines r.text
