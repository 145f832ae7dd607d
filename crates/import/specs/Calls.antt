-- The calls on an import that has its file, and what they answer.
use Rattle.std.specs.Prelude.{ℕ, Bool, true, false, List, Option}
use Rattle.report.specs.declared.line.Line.{Line}
use Rattle.import.specs.declared.slip.Slip.{Slip}
use Rattle.import.specs.declared.stage.How.{How}
use Rattle.import.specs.declared.stage.How.TheVariants.{Kept, SetAside}
use Rattle.import.specs.declared.answer.Opened.{Opened}
use Rattle.import.specs.declared.answer.Counts.{Counts}
use Rattle.import.specs.declared.refusal.Refusal.{Refusal}

-- A call with what is handed in: a slip, the number of a line, or how many bytes the buffer has room for. Each call but those that look at no file is also handed the file.
pub data Call : Type 0 where
  next : Call
  read : Call
  print : (room : ℕ) → Call
  line : (number : ℕ) → Call
  file : (how : How) (slip : Slip) → Call
  counts : Call
  closing : (room : ℕ) → Call

abbrev pub keep : Slip → Call
keep s = file Kept s

abbrev pub set_aside : Slip → Call
set_aside s = file SetAside s

-- An answer with its values: a row that is now open, no row left, done, the bytes that were written to the buffer's beginning, a line if there is one, or the counts.
pub data Answer : Type 0 where
  refused : (why : Refusal) → Answer
  row : (opened : Opened) → Answer
  none : Answer
  done : Answer
  wrote : (bytes : List ℕ) → Answer
  found : (line : Option Line) → Answer
  counted : (counts : Counts) → Answer

-- not refused
abbrev pub accepted : Answer → Bool
accepted (refused why) = false
accepted a = true
