-- Print in the words of the row: its frame is written, under its mark.
use Rattle.std.specs.Prelude.{◌≡◌, ℕ, List, length, Some, Option, Result}
use Rattle.rows.specs.Cuts.{Bytes}
use Rattle.rows.specs.declared.piece.Mark.{Mark}
use Rattle.import.specs.declared.refusal.Refusal.{Refusal}
use Rattle.import.specs.Models.{Setting, Standing}
use Rattle.import.specs.Answers.{written}
use Rattle.import.specs.Steps.{report_of}
use Rattle.import.specs.Tells.{put}

-- Whatever the row is, if the report that stands is the defined one of that row, the row's frame under its mark is written to the buffer's beginning, where there is room. Without room the buffer is refused, and stays.
abbrev pub PrintsRow : Setting → Option Standing → Result ℕ Refusal → List ℕ → List ℕ → Type 0
PrintsRow s o result old new = (row : List ℕ) (mark : Mark) → Bytes row → o ≡ Some (record { report = report_of s row; mark = mark }) → (result, new) ≡ written (put (length old) (s.rule.frame row mark)) old
