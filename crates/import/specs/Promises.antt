-- What holds of every import, for every lawful rule and family, every accepted layout, every file within the limit, and every list of calls.
use Rattle.std.specs.Prelude.{◌≡◌, ℕ, ◌+◌, ◌<◌, ◌≤◌, Bool, true, ◌↔◌, List, [], ◌∷◌, ◌++◌, map, length, take, drop, Some, None, Option, Ok, Err, Result, ◌≢◌}
use Rattle.std.specs.List.{AllByRecursion}
use Rattle.rows.specs.Cuts.{Text, texts, Bytes, File}
use Rattle.rows.specs.Rules as rules
use Rattle.fields.specs.Meanings as fields
use Rattle.layout.specs.Shapes.{sorts}
use Rattle.layout.specs.Files.{refusal}
use Rattle.report.specs.Reports.{Report}
use Rattle.report.specs.Meets.{meets}
use Rattle.import.specs.declared.slip.Slip.{Slip}
use Rattle.import.specs.declared.answer.Opened.{Opened}
use Rattle.import.specs.Slips.{slip, among, slips, slips_from, rows_of, rows_at}
use Rattle.import.specs.declared.refusal.Refusal.{Refusal}
use Rattle.import.specs.declared.refusal.Refusal.TheVariants.{WrongMoment}
use Rattle.import.specs.Models.{Setting, under, Standing, Model}
use Rattle.import.specs.Calls.{Call, next, read, print, line, keep, set_aside, counts, closing, refused, none, counted, accepted}
use Rattle.import.specs.News.{fresh}
use Rattle.import.specs.Runs.{answer, behind, Said, history, after, standing_report, made}
use Rattle.import.specs.Words.{opened_rows, kept_rows, set_aside_rows, slips_spent, open_rows, read_rows, unread_rows, ready_rows, reported_rows, has_ended}
use Rattle.import.specs.Tells.{rows_in_file, tail_of, marks, bytes_at, defined, next_says, keep_says, set_aside_says, read_says, read_makes, line_says, print_says, closing_says}

-- One import with its file, since a new that was accepted: `s` is its setting, and `number` its number. Since then `h` was said, call by call, the reports `rs` were made, and `n` is what the import is now.
pub record Holds (file : List ℕ) (s : Setting) (number : ℕ) (h : List Said) (rs : List Report) (n : Model) : Type 0 where
  -- The rows handed out are the file's first rows, in order,
  pub first_rows : rows_at file (opened_rows h) ≡ take (length (opened_rows h)) (rows_in_file s file)
  -- each once: under the slips of rows 1, 2, 3 and so on.
  pub each_once : slips (opened_rows h) ≡ slips_from number 1 (length (opened_rows h))
  -- Next opens the first row left, and says none where none is left; it is refused while a row is open.
  pub next_is : answer file n next ≡ next_says (open_rows h) number (length (opened_rows h) + 1) (drop (length (opened_rows h)) (rows_in_file s file))
  -- So it is accepted exactly when no row is open; and then it says none exactly when no row of the file is left.
  pub next_accepted : (accepted (answer file n next) ≡ true) ↔ (open_rows h ≡ [])
  pub none_when_none_left : accepted (answer file n next) ≡ true → (answer file n next ≡ none) ↔ (drop (length (opened_rows h)) (rows_in_file s file) ≡ [])
  -- Counts tells how many rows were opened, kept and set aside.
  pub counts_tell : answer file n counts ≡ counted (record { opened = length (opened_rows h); kept = length (kept_rows h); set_aside = length (set_aside_rows h) })
  -- Every opened row is kept, set aside or open, and at most one is open.
  pub balance : length (opened_rows h) ≡ length (kept_rows h) + length (set_aside_rows h) + length (open_rows h)
  pub one_open : length (open_rows h) ≤ 1
  -- Each slip is given back once, in order; what is left is the open row's.
  pub spent_once : slips_spent h ++ slips (open_rows h) ≡ slips (opened_rows h)
  -- Keep and set aside go by the open row, its slip, whether it was read, and its faults.
  pub keeps : (t : Slip) → answer file n (keep t) ≡ keep_says s file t (ready_rows h)
  pub sets_aside : (t : Slip) → answer file n (set_aside t) ≡ set_aside_says t (open_rows h)
  -- Every kept row meets the layout.
  pub kept_rows_meet : AllByRecursion (λ o. meets s.means s.nodes s.constants (bytes_at file o) ≡ true) (kept_rows h)
  -- The rows read are rows that were handed out, in that order, none of them twice.
  pub read_once : read_rows h ≡ rows_of (slips (read_rows h)) (opened_rows h)
  -- Each report made is the defined one, of its row.
  pub reports : rs ≡ map (defined s file) (read_rows h)
  -- At any moment the report that stands is the defined one of the row that is reported; line and print tell it.
  pub stands : standing_report n.standing ≡ map (defined s file) (reported_rows h)
  pub lines : (i : ℕ) → answer file n (line i) ≡ line_says s file i (reported_rows h)
  pub prints : (room : ℕ) → answer file n (print room) ≡ print_says s file room (reported_rows h)
  -- A read is refused where no row is open and unread; of a row that is, it goes by the row's bytes and the layout alone.
  pub reads_no_other : unread_rows h ≡ [] → answer file n read ≡ refused WrongMoment
  pub reads : (o : Opened) → unread_rows h ≡ o ∷ [] → answer file n read ≡ read_says s (bytes_at file o)
  pub makes : (o : Opened) → unread_rows h ≡ o ∷ [] → standing_report (behind file n read).standing ≡ read_makes s (bytes_at file o)
  -- Closing writes the file's tail, once next has said none.
  pub closes : (room : ℕ) → answer file n (closing room) ≡ closing_says s file room (has_ended h)

-- It holds after every list of calls on what new left.
abbrev pub WholeRun : List ℕ → Model → List Call → Type 0
WholeRun file m calls = Holds file m.setting m.number (history file m calls) (made file m calls) (after file m calls)

-- It holds whatever the rule, the family, the layout file that loading accepts, the file, the import's number and the calls are.
abbrev pub WholeRuns : rules.Meaning → (ℕ → ℕ → fields.Meaning) → Type 0
WholeRuns rule means = (layout file : List ℕ) (number : ℕ) (calls : List Call) → refusal (sorts means) layout ≡ None → File file →
    WholeRun file (fresh (under rule means layout) number file) calls

-- Every row of the file was read: of each row number there is, a read at the row was accepted.
abbrev pub EveryRowRead : List ℕ → Model → List Call → Type 0
EveryRowRead file m calls = (n : ℕ) → n < length (rows_in_file m.setting file) → among (slip m.number (n + 1)) (slips (read_rows (history file m calls))) ≡ true

-- the reports that two imports made, and the marks and tails of their files, are equal in row order
pub record ToldTheSame (a : List ℕ) (m : Model) (cs : List Call) (b : List ℕ) (n : Model) (ds : List Call) : Type 0 where
  pub reports : made a m cs ≡ made b n ds
  pub marks_are : marks (rows_in_file m.setting a) ≡ marks (rows_in_file n.setting b)
  pub tails : tail_of m.setting a ≡ tail_of n.setting b

-- Two imports under one rule, family and layout that read every row: their files are equal exactly when they told the same.
abbrev pub FilesToldApart : rules.Meaning → (ℕ → ℕ → fields.Meaning) → Type 0
FilesToldApart rule means = (layout a b : List ℕ) (i j : ℕ) (cs ds : List Call) → refusal (sorts means) layout ≡ None → File a → File b →
    EveryRowRead a (fresh (under rule means layout) i a) cs → EveryRowRead b (fresh (under rule means layout) j b) ds →
    (a ≡ b) ↔ ToldTheSame a (fresh (under rule means layout) i a) cs b (fresh (under rule means layout) j b) ds

-- a read makes the same report in both, or is refused in both with the same number
pub record SameRead (a : List ℕ) (m : Model) (b : List ℕ) (n : Model) : Type 0 where
  pub answers : answer a m read ≡ answer b n read
  pub reports : standing_report (behind a m read).standing ≡ standing_report (behind b n read).standing

-- The file `b` is `a` with the row of that number exchanged, under the setting s.
pub record Exchanged (s : Setting) (a b : List ℕ) (number : ℕ) : Type 0 where
  pub marks_stay : marks (rows_in_file s a) ≡ marks (rows_in_file s b)
  pub tail_stays : tail_of s a ≡ tail_of s b
  -- any other row, where it is open and unread in both
  pub others_read_alike : (i j : ℕ) (cs ds : List Call) (o p : Opened) →
      unread_rows (history a (fresh s i a) cs) ≡ o ∷ [] → unread_rows (history b (fresh s j b) ds) ≡ p ∷ [] → o.slip.row ≡ p.slip.row → (o.slip.row ≢ number) →
      SameRead a (after a (fresh s i a) cs) b (after b (fresh s j b) ds)

-- A row is exchanged for one that the rule carries under its mark, within the file limit.
abbrev pub Exchanges : rules.Meaning → (ℕ → ℕ → fields.Meaning) → Type 0
Exchanges rule means = (layout a b : List ℕ) (before behind_it : List Text) (old : Text) (new : List ℕ) → refusal (sorts means) layout ≡ None → File a → File b →
    texts (rule.cut a).rows ≡ before ++ old ∷ behind_it → Bytes new → rule.carries new old.mark ≡ true →
    b ≡ rules.joined rule (before ++ rules.swapped old new ∷ behind_it) (rule.cut a).tail.bytes →
    Exchanged (under rule means layout) a b (length before + 1)

-- Two imports under one family and layout, whatever their rules and files: the reports that stand are equal exactly when their rows hold the same bytes.
abbrev pub ReportsToldApart : rules.Meaning → rules.Meaning → (ℕ → ℕ → fields.Meaning) → Type 0
ReportsToldApart rule other means = (layout a b : List ℕ) (i j : ℕ) (cs ds : List Call) (o p : Opened) → refusal (sorts means) layout ≡ None → File a → File b →
    reported_rows (history a (fresh (under rule means layout) i a) cs) ≡ o ∷ [] →
    reported_rows (history b (fresh (under other means layout) j b) ds) ≡ p ∷ [] →
    (standing_report (after a (fresh (under rule means layout) i a) cs).standing ≡ standing_report (after b (fresh (under other means layout) j b) ds).standing) ↔ (bytes_at a o ≡ bytes_at b p)

-- what comparing the reports that stand in two imports answers: whether they are equal; 12 unless one stands in both
abbrev pub CompareSays : Option Standing → Option Standing → Result Bool Refusal → Type 0
CompareSays (Some r) (Some q) (Ok same) = (same ≡ true) ↔ (r.report ≡ q.report)
CompareSays (Some r) (Some q) (Err why) = ⊥
CompareSays (Some r) None res = res ≡ Err WrongMoment
CompareSays None q res = res ≡ Err WrongMoment

-- What it has to say of their rows, whatever runs led to them: the reports are equal exactly when their rows hold the same bytes.
-- `m` and `n` are what the imports are, by the file at hand.
abbrev pub Compared : rules.Meaning → rules.Meaning → (ℕ → ℕ → fields.Meaning) → (List ℕ → Model) → (List ℕ → Model) → Bool → Type 0
Compared rule other means m n same = (layout a b : List ℕ) (i j : ℕ) (cs ds : List Call) (o p : Opened) → refusal (sorts means) layout ≡ None → File a → File b →
    m a ≡ after a (fresh (under rule means layout) i a) cs → n b ≡ after b (fresh (under other means layout) j b) ds →
    reported_rows (history a (fresh (under rule means layout) i a) cs) ≡ o ∷ [] → reported_rows (history b (fresh (under other means layout) j b) ds) ≡ p ∷ [] →
    (same ≡ true) ↔ (bytes_at a o ≡ bytes_at b p)
