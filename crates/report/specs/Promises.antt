-- What holds of every report, for every table of nodes and constants; `means` is what a family means.
use Rattle.std.specs.Prelude.{◌≡◌, ℕ, ◌+◌, ◌-◌, ◌<◌, true, false, ◌⊎◌, ◌↔◌, List, [], ◌∷◌, ◌++◌, length, drop, ℤ, pos, None, ◌≢◌}
use Rattle.fields.specs.Laws.{Bytes}
use Rattle.fields.specs.Meanings.{Meaning}
use Rattle.layout.specs.declared.node.Relation.{Relation}
use Rattle.layout.specs.declared.node.Side.{Side}
use Rattle.layout.specs.declared.node.Shape.TheVariants.{Check}
use Rattle.layout.specs.declared.node.Node.{Node}
use Rattle.layout.specs.Trees.{Operand, Part, Parts, check, optional, ◌then◌, node_at, operand_of, part_at}
use Rattle.layout.specs.Shapes.{sorts}
use Rattle.layout.specs.Files.{nodes_in, constants_in, refusal}
use Rattle.report.specs.declared.outcome.Outcome.TheVariants.{Good, Absent, Skipped}
use Rattle.report.specs.declared.line.Line.{Line}
use Rattle.report.specs.Lines.{line, begun}
use Rattle.report.specs.Values.{values}
use Rattle.report.specs.Checks.{checked}
use Rattle.report.specs.Trials.{clean, given_up, check_tried, at_least, behind, trial, trials, branches}
use Rattle.report.specs.Recovery.{gave}
use Rattle.report.specs.Readings.{check_read, open_reading}
use Rattle.report.specs.Printing.{kept, printed}
use Rattle.report.specs.Reports.{report, fault_count, print}
use Rattle.report.specs.Meets.{part_meets, meets}
use Rattle.report.specs.Standing.{left_by}
use Rattle.report.specs.Known.{Known}

-- Printing a report gives the bytes of its row, clean or faulty.
abbrev pub PrintsBack : (ℕ → ℕ → Meaning) → Type 0
PrintsBack means =
    (nodes : List Node) (constants : List ℤ) (row : List ℕ) → Known means nodes → Bytes row → print means nodes (report means nodes constants row) ≡ row

-- Each line of a report starts where the lines above it, printed, end.
abbrev pub LinesInPlace : (ℕ → ℕ → Meaning) → Type 0
LinesInPlace means =
    (nodes : List Node) (constants : List ℤ) (row : List ℕ) → Known means nodes → Bytes row →
    (above below : List Line) (l : Line) → (report means nodes constants row).lines ≡ above ++ l ∷ below → l.start ≡ length (printed means nodes above (kept means nodes row above))

-- A report counts no fault exactly when its row meets the layout.
abbrev pub CleanWhenMet : (ℕ → ℕ → Meaning) → Type 0
CleanWhenMet means =
    (nodes : List Node) (constants : List ℤ) (row : List ℕ) → (fault_count (report means nodes constants row) ≡ 0) ↔ (meets means nodes constants row ≡ true)

-- Two reports are equal exactly when their rows hold the same bytes.
abbrev pub ToldApart : (ℕ → ℕ → Meaning) → Type 0
ToldApart means =
    (nodes : List Node) (constants : List ℤ) (row other : List ℕ) → Known means nodes → Bytes row → Bytes other →
    (report means nodes constants row ≡ report means nodes constants other) ↔ (row ≡ other)

-- Printing, clean rows and rows told apart, under the table of a layout file.
pub record UnderFile (means : ℕ → ℕ → Meaning) (file : List ℕ) : Type 0 where
  pub prints_back : (row : List ℕ) → Bytes row → print means (nodes_in file) (report means (nodes_in file) (constants_in file) row) ≡ row
  pub clean_when_met : (row : List ℕ) → (fault_count (report means (nodes_in file) (constants_in file) row) ≡ 0) ↔ (meets means (nodes_in file) (constants_in file) row ≡ true)
  pub told_apart : (row other : List ℕ) → Bytes row → Bytes other →
      (report means (nodes_in file) (constants_in file) row ≡ report means (nodes_in file) (constants_in file) other) ↔ (row ≡ other)

-- It holds under every layout file that loading accepts, with nothing else to be known of the file.
abbrev pub UnderAcceptedFiles : (ℕ → ℕ → Meaning) → Type 0
UnderAcceptedFiles means = (file : List ℕ) → refusal (sorts means) file ≡ None → UnderFile means file

-- A value of a given-up branch never reaches a check: checks see the values of the lines that stand, and a trial that is given up leaves no line.
pub record Unheard (means : ℕ → ℕ → Meaning) (nodes : List Node) (constants : List ℤ) (row : List ℕ) : Type 0 where
  -- Where a branch is given up, the choice is what its later branches make of it, at the same place and behind the same lines; the branch has only been counted, and has its reach.
  pub passed_over : (q : Part) (qs : Parts) (i n : ℕ) (pre : List Line) (p r : ℕ) → trial means nodes row q pre p ≡ given_up r →
      branches means nodes row (q then qs) i n pre p ≡ at_least r (branches means nodes row qs i (n + 1) pre p)
  -- A branch that is taken has the lines, and ends at the place, of its own trial from there.
  pub taken : (q : Part) (qs : Parts) (i n : ℕ) (pre ls : List Line) (p e r : ℕ) → trial means nodes row q pre p ≡ clean ls e r →
      branches means nodes row (q then qs) i n pre p ≡ clean (line i Good p (e - p) (pos n) ∷ ls) e r
  -- Where an option's part is given up, the option is its own line and no other, at the same place.
  pub absent : (parts : Parts) (i : ℕ) (pre : List Line) (p r : ℕ) → trials means nodes row parts (pre ++ begun i p ∷ []) p ≡ given_up r →
      open_reading means nodes row (optional i parts) pre p ≡ gave (line i Absent p 0 (pos 0) ∷ []) p false r
  -- What comes behind a clean part is tried behind the lines that stood before, and that part's own.
  pub follows : (q : Part) (qs : Parts) (pre ls : List Line) (p e r : ℕ) → trial means nodes row q pre p ≡ clean ls e r →
      trials means nodes row (q then qs) pre p ≡ at_least r (behind ls (trials means nodes row qs (pre ++ ls) e))
  -- A line that is not good adds no value: neither an absent option's nor that of a choice with no clean branch does.
  pub no_value : (pre : List Line) (l : Line) → (l.outcome ≢ Good) → values nodes (pre ++ l ∷ []) ≡ values nodes pre
  -- In a trial and in an open reading a check looks at the values of the lines that stand before it.
  pub tried : (i : ℕ) (relation : Relation) (left : ℕ) (right : Operand) (pre : List Line) (p : ℕ) →
      trial means nodes row (check i relation left right) pre p ≡ check_tried i pre p (checked relation left right (values nodes pre))
  pub read : (i : ℕ) (relation : Relation) (left : ℕ) (right : Operand) (pre : List Line) (p : ℕ) →
      open_reading means nodes row (check i relation left right) pre p ≡ check_read i pre p (checked relation left right (values nodes pre))
  -- The trial of any node hears of the lines before it the values alone: it is clean exactly where the node meets the bytes left among the values of the lines that stand, and both leave the same bytes and values.
  pub heard : (i : ℕ) (pre : List Line) (p : ℕ) →
      left_by nodes row pre (trial means nodes row (part_at nodes constants i) pre p) ≡ part_meets means (part_at nodes constants i) (drop p row) (values nodes pre)
  -- In a clean trial of any node each line of a check has the outcome that the values of the lines above it give, those before the trial and its own.
  pub decided_in_trial : (i : ℕ) (pre above below : List Line) (l : Line) (p e r : ℕ) (relation : Relation) (left : ℕ) (right : Side) →
      trial means nodes row (part_at nodes constants i) pre p ≡ clean (above ++ l ∷ below) e r → 0 < l.node → (node_at nodes l.node).shape ≡ Check relation left right →
      l.outcome ≡ checked relation left (operand_of constants right) (values nodes (pre ++ above))
  -- In the report each line of a check that was not passed over has the outcome that the values of the good field lines above it give.
  pub decided : (above below : List Line) (l : Line) (relation : Relation) (left : ℕ) (right : Side) →
      (report means nodes constants row).lines ≡ above ++ l ∷ below → 0 < l.node → (node_at nodes l.node).shape ≡ Check relation left right →
      (l.outcome ≡ Skipped) ⊎ (l.outcome ≡ checked relation left (operand_of constants right) (values nodes above))

abbrev pub GivenUpUnheard : (ℕ → ℕ → Meaning) → Type 0
GivenUpUnheard means = (nodes : List Node) (constants : List ℤ) (row : List ℕ) → Unheard means nodes constants row
