-- What each call answers, and what the import is after it: a clause for each call and stage. `file` is the file that the call is handed.
use Rattle.std.specs.Prelude.{ℕ, ◌+◌, ◌-◌, Bool, true, false, cond, not, List, [], ◌∷◌, length, Some, None, Option, slice_get, ◌==◌, nat_le, nat_lt}
use Rattle.std.specs.Option.{option_map}
use Rattle.rows.specs.Cuts.{RowAt, TailAt}
use Rattle.rows.specs.declared.piece.Mark.{Mark}
use Rattle.report.specs.declared.line.Line.{Line}
use Rattle.report.specs.Reports as reports
use Rattle.reader.specs.Refusals as readers
use Rattle.import.specs.declared.slip.Slip.{Slip}
use Rattle.import.specs.declared.stage.Stage.{Stage}
use Rattle.import.specs.declared.stage.Stage.TheVariants.{Empty, Between, Unread, Read, End}
use Rattle.import.specs.declared.stage.How.{How}
use Rattle.import.specs.declared.stage.How.TheVariants.{Kept, SetAside}
use Rattle.import.specs.declared.answer.Counts.{Counts}
use Rattle.import.specs.declared.refusal.Refusal.{Refusal}
use Rattle.import.specs.declared.refusal.Refusal.TheVariants.{OtherLength, WrongMoment, OtherRow, RowHasFaults, BufferTooShort}
use Rattle.import.specs.Refusals.{of_reading}
use Rattle.import.specs.Slips.{slip, same_slip, part}
use Rattle.import.specs.Models.{Setting, Standing, Model}
use Rattle.import.specs.Calls.{Call, next, read, print, line, file, counts, closing, Answer, refused, row, none, done, wrote, found, counted}

-- an answer, and the import after it
abbrev pub Out : Type 0
Out = Answer × Model

-- a refused call changes nothing
abbrev pub no : Refusal → Model → Out
no why m = (refused why, m)

abbrev pub unless : Bool → Refusal → Model → Out → Out
unless true why m out = no why m
unless false why m out = out

-- the first test that holds refuses
abbrev pub tried : List (Bool × Refusal) → Model → Out → Out
tried [] m out = out
tried (t ∷ ts) m out = unless t.0 t.1 m (tried ts m out)

-- a refusal that is there, as a test
abbrev pub test_of : Option Refusal → List (Bool × Refusal)
test_of None = []
test_of (Some why) = (true, why) ∷ []

-- the file has another length than the one that new took
abbrev pub other_length : List ℕ → Model → Bool × Refusal
other_length bytes m = (not (length bytes == m.size), OtherLength)

-- the buffer has no room for these bytes
abbrev pub no_room : ℕ → List ℕ → Bool × Refusal
no_room room bytes = (nat_lt room (length bytes), BufferTooShort)

-- Next.

-- so many rows are opened, and the others as they were
abbrev pub opened_one : Counts → Counts
opened_one c = record c { opened = c.opened + 1 }

abbrev pub end_at : Model → ℕ → ℕ → Out
end_at m start n = (none, record m { stage = End start n })

-- the first row to come is open now, and a report that stood is gone; with none to come the tail is told
abbrev pub first_to_come : Model → List RowAt → TailAt → Out
first_to_come m [] t = end_at m t.start (length t.bytes)
first_to_come m (r ∷ rs) t = (
  row (record { slip = slip m.number (m.counts.opened + 1); start = r.start; length = length r.bytes; mark = r.mark }),
  record m { stage = Unread r.start (length r.bytes) r.mark; counts = opened_one m.counts; ahead = record { rows = rs; tail = t }; standing = None },
)

-- as many rows are opened as the file has bytes: the tail is empty, and the rule is not asked
abbrev pub next_row : Model → Out
next_row m = cond (nat_le m.size m.counts.opened) (end_at m m.size 0) (first_to_come m m.ahead.rows m.ahead.tail)

abbrev pub step_next : List ℕ → Model → Stage → Out
step_next bytes m Empty = no WrongMoment m
step_next bytes m Between = tried (other_length bytes m ∷ []) m (next_row m)
step_next bytes m (Unread start n mark) = no WrongMoment m
step_next bytes m Read = no WrongMoment m
step_next bytes m (End start n) = tried (other_length bytes m ∷ []) m (none, m)

-- Read, at the row's place in the file as it is now.

-- the reasons not to read a row, whatever the file: those of the reader
abbrev pub unreadable : Setting → List ℕ → List (Bool × Refusal)
unreadable s bytes = test_of (option_map of_reading (readers.refusal s.means s.nodes s.constants bytes))

-- the report of a row
abbrev pub report_of : Setting → List ℕ → reports.Report
report_of s bytes = reports.report s.means s.nodes s.constants bytes

abbrev pub read_row : Model → List ℕ → Mark → Out
read_row m bytes mark = (done, record m { stage = Read; standing = Some (record { report = report_of m.setting bytes; mark = mark }) })

abbrev pub step_read : List ℕ → Model → Stage → Out
step_read bytes m Empty = no WrongMoment m
step_read bytes m Between = no WrongMoment m
step_read bytes m (Unread start n mark) = tried (other_length bytes m ∷ unreadable m.setting (part bytes start n)) m (read_row m (part bytes start n) mark)
step_read bytes m Read = no WrongMoment m
step_read bytes m (End start n) = no WrongMoment m

-- Print and line, while a report stands.

-- the frame of the row that a report prints
abbrev pub frame_of : Setting → Standing → List ℕ
frame_of s r = s.rule.frame (reports.print s.means s.nodes r.report) r.mark

abbrev pub step_print : ℕ → Model → Option Standing → Out
step_print room m None = no WrongMoment m
step_print room m (Some r) = tried (no_room room (frame_of m.setting r) ∷ []) m (wrote (frame_of m.setting r), m)

-- lines count from 1
abbrev pub line_of : ℕ → List Line → Option Line
line_of n ls = cond (n == 0) None (slice_get ls (n - 1))

abbrev pub step_line : ℕ → Model → Option Standing → Out
step_line n m None = no WrongMoment m
step_line n m (Some r) = (found (line_of n r.report.lines), m)

-- Filing: keep and set aside.

-- the slip of the row that was opened last
abbrev pub open_slip : Model → Slip
open_slip m = slip m.number m.counts.opened

abbrev pub other_row : Slip → Model → Bool × Refusal
other_row s m = (not (same_slip s (open_slip m)), OtherRow)

abbrev pub faulty : Option Standing → Bool
faulty None = false
faulty (Some r) = not (reports.fault_count r.report == 0)

-- the reasons not to file an open row, by how it is to be filed
abbrev pub unfit : How → Slip → Model → List (Bool × Refusal)
unfit Kept s m = other_row s m ∷ (faulty m.standing, RowHasFaults) ∷ []
unfit SetAside s m = other_row s m ∷ []

abbrev pub filed_one : How → Counts → Counts
filed_one Kept c = record c { kept = c.kept + 1 }
filed_one SetAside c = record c { set_aside = c.set_aside + 1 }

abbrev pub file_row : How → Model → Out
file_row how m = (done, record m { stage = Between; counts = filed_one how m.counts })

-- a row that was not read is set aside, and never kept
abbrev pub file_unread : How → Slip → Model → Out
file_unread Kept s m = no WrongMoment m
file_unread SetAside s m = tried (unfit SetAside s m) m (file_row SetAside m)

abbrev pub step_file : How → Slip → Model → Stage → Out
step_file how s m Empty = no WrongMoment m
step_file how s m Between = no WrongMoment m
step_file how s m (Unread start n mark) = file_unread how s m
step_file how s m Read = tried (unfit how s m) m (file_row how m)
step_file how s m (End start n) = no WrongMoment m

-- Counts.
abbrev pub step_counts : Model → Stage → Out
step_counts m Empty = no WrongMoment m
step_counts m Between = (counted m.counts, m)
step_counts m (Unread start n mark) = (counted m.counts, m)
step_counts m Read = (counted m.counts, m)
step_counts m (End start n) = (counted m.counts, m)

-- Closing, at the tail's place in the file as it is now.
abbrev pub step_closing : List ℕ → ℕ → Model → Stage → Out
step_closing bytes room m Empty = no WrongMoment m
step_closing bytes room m Between = no WrongMoment m
step_closing bytes room m (Unread start n mark) = no WrongMoment m
step_closing bytes room m Read = no WrongMoment m
step_closing bytes room m (End start n) = tried (other_length bytes m ∷ no_room room (part bytes start n) ∷ []) m (wrote (part bytes start n), m)

abbrev pub step : List ℕ → Model → Call → Out
step bytes m next = step_next bytes m m.stage
step bytes m read = step_read bytes m m.stage
step bytes m (print room) = step_print room m m.standing
step bytes m (line n) = step_line n m m.standing
step bytes m (file how s) = step_file how s m m.stage
step bytes m counts = step_counts m m.stage
step bytes m (closing room) = step_closing bytes room m m.stage
