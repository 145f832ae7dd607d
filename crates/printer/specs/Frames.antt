-- The frame of a report's row.
use Rattle.std.specs.Prelude.{◌≡◌, ℕ, ◌≤◌, List, length, ℤ, Result}
use Rattle.fields.specs.Laws.{Bytes}
use Rattle.fields.specs.Meanings.{Meaning}
use Rattle.layout.specs.declared.node.Node.{Node}
use Rattle.report.specs.Known.{Known}
use Rattle.report.specs.Reports.{print}
use Rattle.rows.specs.declared.piece.Mark.{Mark}
use Rattle.rows.specs.declared.refusal.Refusal.{Refusal}
use Rattle.rows.specs.Frames.{laid}
use Rattle.store.specs.declared.memory.Report.{Report}
use Rattle.store.specs.Stored.{report_of, Framed}
use Rattle.printer.specs.Puts.{filled, put}

-- Where reading has made the report, of whatever row, the row's frame is put into the buffer.
abbrev pub PutsFrame : (List ℕ → Mark → List ℕ) → (ℕ → ℕ → Meaning) → List Node → Mark → Report → List ℕ → Result ℕ Refusal × List ℕ → Type 0
PutsFrame frame means nodes mark report buffer answer =
    (constants : List ℤ) (row : List ℕ) → Known means nodes → Bytes row → Framed frame means nodes constants row mark report → answer ≡ put (frame row mark) buffer

-- what a report prints, for whatever report
abbrev pub row_of : (ℕ → ℕ → Meaning) → List Node → Report → List ℕ
row_of means nodes report = print means nodes (report_of report)

-- Row and frame are laid, one and then the other, over the buffer's beginning, if it has room for both.
abbrev pub LaysBoth : (List ℕ → List ℕ) → List ℕ → List ℕ → Result ℕ Refusal × List ℕ → Type 0
LaysBoth frame row buffer answer =
    length row ≤ length buffer → length (frame row) ≤ length buffer → answer ≡ filled (frame row) (laid row buffer)

-- The frame is put into the buffer, if it is as long as the row.
abbrev pub PutsLonger : (List ℕ → List ℕ) → List ℕ → List ℕ → Result ℕ Refusal × List ℕ → Type 0
PutsLonger frame row buffer answer =
    length row ≤ length (frame row) → length (frame row) ≤ length buffer → answer ≡ put (frame row) buffer

-- The frame is put into the buffer, if it is no longer than the row and that has room elsewhere.
abbrev pub PutsShorter : (List ℕ → List ℕ) → List ℕ → List ℕ → Result ℕ Refusal × List ℕ → Type 0
PutsShorter frame row buffer answer =
    length row ≤ 4096 → length (frame row) ≤ length row → length (frame row) ≤ length buffer → answer ≡ put (frame row) buffer
