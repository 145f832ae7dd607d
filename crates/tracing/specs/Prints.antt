-- Which row of an export stops its being written from its reports, and what is written before it.
use Rattle.std.specs.Prelude.{◌≡◌, ℕ, ◌+◌, List, [], ◌∷◌, ◌++◌, take, Some, None, Option, Ok, Err, Result}
use Rattle.rows.specs.Cuts.{RowAt, texts, Each}
use Rattle.rows.specs.Rules.{joined}
use Rattle.report.specs.Reports as reports
use Rattle.import.specs.declared.refusal.Refusal.{Refusal}
use Rattle.import.specs.Models.{Setting, Model}
use Rattle.import.specs.Calls.{Answer, refused}
use Rattle.import.specs.Steps.{report_of}
use Rattle.import.specs.Tells.{read_says}

-- where a row is not read, its number and why; else what the later rows say
abbrev pub or_later : ℕ → Answer → Option (ℕ × Refusal) → Option (ℕ × Refusal)
or_later n (refused why) later = Some (n, why)
or_later n a later = later

-- the first row that is not read, numbered on from n
abbrev pub first_unread : Setting → ℕ → List RowAt → Option (ℕ × Refusal)
first_unread s n [] = None
first_unread s n (r ∷ rs) = or_later (n + 1) (read_says s r.bytes) (first_unread s (n + 1) rs)

-- the frames of the rows before that one
abbrev pub if_read : Answer → List ℕ → List ℕ
if_read (refused why) bytes = []
if_read a bytes = bytes

abbrev pub frames_before : Setting → List RowAt → List ℕ
frames_before s [] = []
frames_before s (r ∷ rs) = if_read (read_says s r.bytes) (s.rule.frame r.bytes r.mark ++ frames_before s rs)

-- an import's rows to come: their frames and then the tail, the first that is not read, and the frames before it
abbrev pub bytes_ahead : Model → List ℕ
bytes_ahead m = joined m.setting.rule (texts m.ahead.rows) m.ahead.tail.bytes

abbrev pub unread_ahead : Model → Option (ℕ × Refusal)
unread_ahead m = first_unread m.setting m.counts.opened m.ahead.rows

abbrev pub frames_ahead : Model → List ℕ
frames_ahead m = frames_before m.setting m.ahead.rows

-- the report of each of them prints the row's own bytes
abbrev pub Printable : Model → Type 0
Printable m = Each (λ r. reports.print m.setting.means m.setting.nodes (report_of m.setting r.bytes) ≡ r.bytes) m.ahead.rows

-- so many bytes of a buffer's beginning
abbrev pub put_bytes : Result ℕ Refusal → List ℕ → List ℕ
put_bytes (Ok n) buffer = take n buffer
put_bytes (Err why) buffer = []
