-- What calls have to answer, in the words of the rows that they are about. `s` is the setting, and `file` the import's unchanged file.
use Rattle.std.specs.Prelude.{ℕ, Bool, true, false, not, List, [], ◌∷◌, map, length, ◌==◌}
use Rattle.rows.specs.Cuts.{RowAt}
use Rattle.rows.specs.declared.piece.Mark.{Mark}
use Rattle.fields.specs.Meanings as fields
use Rattle.report.specs.Reports.{Report, fault_count}
use Rattle.import.specs.declared.slip.Slip.{Slip}
use Rattle.import.specs.declared.answer.Opened.{Opened}
use Rattle.import.specs.declared.refusal.Refusal.{Refusal}
use Rattle.import.specs.declared.refusal.Refusal.TheVariants.{WrongMoment, OtherRow, RowHasFaults}
use Rattle.import.specs.Slips.{slip, same_slip, part}
use Rattle.import.specs.Models.{Setting}
use Rattle.import.specs.Calls.{Answer, refused, row, none, done, wrote, found}
use Rattle.import.specs.Steps.{no_room, unreadable, report_of, line_of}
use Rattle.import.specs.News.{untakable}

-- a file's rows and its tail are those to come when the rule is set on it
abbrev pub rows_in_file : Setting → List ℕ → List RowAt
rows_in_file s file = (s.rule.cut file).rows

abbrev pub tail_of : Setting → List ℕ → List ℕ
tail_of s file = (s.rule.cut file).tail.bytes

abbrev pub marks : List RowAt → List Mark
marks rs = map (λ r. r.mark) rs

-- the bytes of a row that was handed out
abbrev pub bytes_at : List ℕ → Opened → List ℕ
bytes_at file o = part file o.start o.length

-- the report of a row that was handed out
abbrev pub defined : Setting → List ℕ → Opened → Report
defined s file o = report_of s (bytes_at file o)

-- the first test that holds refuses, else the answer
abbrev pub refusing : Bool → Refusal → Answer → Answer
refusing true why a = refused why
refusing false why a = a

abbrev pub says : List (Bool × Refusal) → Answer → Answer
says [] a = a
says (t ∷ ts) a = refusing t.0 t.1 (says ts a)

-- the first of the rows left, under the next slip; none if none is left
abbrev pub first_left : ℕ → ℕ → List RowAt → Answer
first_left import number [] = none
first_left import number (r ∷ rs) = row (record { slip = slip import number; start = r.start; length = length r.bytes; mark = r.mark })

-- next, by the rows that are open, the number of the next row, and the rows left
abbrev pub next_says : List Opened → ℕ → ℕ → List RowAt → Answer
next_says [] import number left = first_left import number left
next_says (o ∷ os) import number left = refused WrongMoment

-- keep, by the slip and the rows that are open and read
abbrev pub keep_says : Setting → List ℕ → Slip → List Opened → Answer
keep_says s file t [] = refused WrongMoment
keep_says s file t (o ∷ os) = says ((not (same_slip t o.slip), OtherRow) ∷ (not (fault_count (defined s file o) == 0), RowHasFaults) ∷ []) done

-- set aside, by the slip and the rows that are open
abbrev pub set_aside_says : Slip → List Opened → Answer
set_aside_says t [] = refused WrongMoment
set_aside_says t (o ∷ os) = says ((not (same_slip t o.slip), OtherRow) ∷ []) done

-- read: by the row's bytes and the layout alone
abbrev pub read_says : Setting → List ℕ → Answer
read_says s bytes = says (unreadable s bytes) done

-- the reports that such an answer leaves
abbrev pub if_accepted : Answer → List Report → List Report
if_accepted (refused why) rs = []
if_accepted a rs = rs

-- the report that stands behind a read of a row that was unread; none stands if it was refused
abbrev pub read_makes : Setting → List ℕ → List Report
read_makes s bytes = if_accepted (read_says s bytes) (report_of s bytes ∷ [])

-- new, where no row is open: by the file's length and the layout file
abbrev pub new_says : (ℕ → ℕ → fields.Meaning) → List ℕ → List ℕ → Answer
new_says means layout file = says (untakable means layout file) done

-- line, by the row whose report stands, if there is one
abbrev pub line_says : Setting → List ℕ → ℕ → List Opened → Answer
line_says s file n [] = refused WrongMoment
line_says s file n (o ∷ os) = found (line_of n (defined s file o).lines)

-- bytes that are written to a buffer, if it has room
abbrev pub put : ℕ → List ℕ → Answer
put room bytes = says (no_room room bytes ∷ []) (wrote bytes)

-- print: the frame of the row whose report stands, under its mark
abbrev pub print_says : Setting → List ℕ → ℕ → List Opened → Answer
print_says s file room [] = refused WrongMoment
print_says s file room (o ∷ os) = put room (s.rule.frame (bytes_at file o) o.mark)

-- closing: the tail, once next has said none
abbrev pub closing_says : Setting → List ℕ → ℕ → Bool → Answer
closing_says s file room false = refused WrongMoment
closing_says s file room true = put room (tail_of s file)
