-- The worked examples: cuts, fields, and the rows of an invoice with number, date and amount, commas between.
use Rattle.std.specs.Prelude.{◌≡◌, ℕ, true, cond, List, [], ◌∷◌, ◌++◌, map, ℤ, pos, negsuc, None, codes, ◌==◌}
use Rattle.fields.specs.Meanings.{Meaning}
use Rattle.fields.specs.Kinds.{ascii_means}
use Rattle.fields.specs.Examples.{ReadExamples}
use Rattle.rows.specs.Examples.{WorkedCuts}
use Rattle.layout.specs.Shapes.{sorts}
use Rattle.layout.specs.Files.{nodes_in, constants_in, refusal}
use Rattle.report.specs.declared.line.Line.{Line}
use Rattle.report.specs.Outcomes.{outcome_number}
use Rattle.report.specs.Reports.{report}
use Rattle.report.specs.Meets.{meets}

abbrev pub ascii_family : ℕ → ℕ → Meaning
ascii_family kind parameter = ascii_means kind parameter

-- the layout file: six nodes and no constants; a sequence, a whole number, a comma, a date, a comma, an amount with two decimals
abbrev pub invoice_layout : List ℕ
invoice_layout =
    (0x06 ∷ 0x00 ∷ [])
    ++ (0x30 ∷ 0x00 ∷ 0x00 ∷ 0x02 ∷ 0x00 ∷ 0x00 ∷ 0x00 ∷ 0x00 ∷ [])
    ++ (0x10 ∷ 0x40 ∷ 0x01 ∷ 0x00 ∷ 0x03 ∷ 0x00 ∷ 0x00 ∷ 0x00 ∷ [])
    ++ (0x20 ∷ 0x0B ∷ 0x00 ∷ 0x00 ∷ 0x04 ∷ 0x00 ∷ 0x00 ∷ 0x00 ∷ [])
    ++ (0x11 ∷ 0x80 ∷ 0x02 ∷ 0x00 ∷ 0x05 ∷ 0x00 ∷ 0x00 ∷ 0x00 ∷ [])
    ++ (0x20 ∷ 0x0B ∷ 0x00 ∷ 0x00 ∷ 0x06 ∷ 0x00 ∷ 0x00 ∷ 0x00 ∷ [])
    ++ (0x10 ∷ 0x80 ∷ 0x83 ∷ 0x00 ∷ 0x00 ∷ 0x00 ∷ 0x00 ∷ 0x00 ∷ [])

-- a line in numbers: node, outcome, start, length, number
abbrev pub told : Line → ℕ × ℕ × ℕ × ℕ × ℤ
told l = (l.node, outcome_number l.outcome, l.start, l.length, l.number)

-- the lines of a node
abbrev pub lines_of : ℕ → List Line → List Line
lines_of i [] = []
lines_of i (l ∷ ls) = cond (l.node == i) (l ∷ lines_of i ls) (lines_of i ls)

-- the lines of a row's report, under ASCII and the layout of a file
abbrev pub lines_under : List ℕ → List ℕ → List Line
lines_under file row = (report ascii_family (nodes_in file) (constants_in file) row).lines

-- cutting, fields and reading, all together
pub record WorkedExamples (file faulty clean : List ℕ) : Type 0 where
  pub cuts : WorkedCuts
  pub fields : ReadExamples
  pub invoice : file ≡ invoice_layout
  pub accepted : refusal (sorts ascii_family) file ≡ None
  pub no_such_day : faulty ≡ codes "17,2023-02-29,-12.50"
  pub its_lines : map told (lines_under file faulty)
      ≡ (1, 5, 0, 20, pos 0)
      ∷ (2, 0, 0, 2, pos 17)
      ∷ (3, 0, 2, 1, pos 0)
      ∷ (4, 1, 3, 0, pos 3)
      ∷ (5, 6, 3, 10, pos 0)
      ∷ (5, 0, 13, 1, pos 0)
      ∷ (6, 0, 14, 6, negsuc 1249)
      ∷ []
  pub leap_day : clean ≡ codes "17,2024-02-29,-12.50"
  pub met : meets ascii_family (nodes_in file) (constants_in file) clean ≡ true
  pub date : map told (lines_of 4 (lines_under file clean)) ≡ (4, 0, 3, 10, pos 20240229) ∷ []
