-- What a stored report is.
use Rattle.std.specs.Prelude.{◌≡◌, ℕ, List, [], length, ℤ, vec_items, vec_capacity}
use Rattle.rows.specs.declared.piece.Mark.{Mark}
use Rattle.rows.specs.Frames.{measured}
use Rattle.fields.specs.Meanings.{Meaning}
use Rattle.layout.specs.declared.node.Node.{Node}
use Rattle.report.specs.Reports as defined
use Rattle.store.specs.declared.memory.Report.{Report}

-- its lines and kept text
abbrev pub report_of : Report → defined.Report
report_of r = record { lines = vec_items r.lines; text = vec_items r.text }

-- how many lines and bytes of text its memory has room for
abbrev pub room_of : Report → ℕ × ℕ
room_of r = (vec_capacity r.lines, vec_capacity r.text)

-- a report that holds nothing
pub record Cleared (r : Report) : Type 0 where
  pub lines : vec_items r.lines ≡ []
  pub text : vec_items r.text ≡ []
  pub faults : r.faults ≡ 0
  pub row_length : r.row_length ≡ 0
  pub frame_length : r.frame_length ≡ 0

-- the report of a row
pub record Made (means : ℕ → ℕ → Meaning) (nodes : List Node) (constants : List ℤ) (row : List ℕ) (r : Report) : Type 0 where
  pub report : report_of r ≡ defined.report means nodes constants row
  pub row_length : r.row_length ≡ length row

-- the report of a row under a mark, where a rule has this frame for them
pub record Framed (frame : List ℕ → Mark → List ℕ) (means : ℕ → ℕ → Meaning) (nodes : List Node) (constants : List ℤ) (row : List ℕ) (mark : Mark) (r : Report) : Type 0 where
  pub made : Made means nodes constants row r
  pub frame_length : r.frame_length ≡ measured (length (frame row mark))
