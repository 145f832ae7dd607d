-- What a call leaves: its status, and what it has written, which only a call that is done changes.
use Rattle.std.specs.Prelude.{◌≡◌, ◌⊎◌, ℕ, cond, List, length, Some, None, Ok, Err, Option, Result, nat_le}
use Rattle.rows.specs.Frames.{laid}
use Rattle.rows.specs.Rules as rules
use Rattle.fields.specs.Meanings as fields
use Rattle.layout.specs.declared.refusal.Refusal as layouts
use Rattle.layout.specs.Shapes.{sorts}
use Rattle.layout.specs.Files.{refusal}
use Rattle.import.specs.declared.refusal.Refusal.{Refusal}
use Rattle.import.specs.declared.refusal.Refusal.TheVariants.{Layout, BufferTooShort}
use Rattle.import.specs.Models.{under}
use Rattle.import.specs.Calls.{Answer, refused}
use Rattle.import.specs.Tells.{rows_in_file, new_says}
use Rattle.tracing.specs.declared.stop.Stop.{Stop}
use Rattle.tracing.specs.declared.stop.Stop.TheVariants.{Refused as StopRefused, Unread, Output}
use Rattle.tracing.specs.Traces.{trace_text}
use Rattle.tracing.specs.Prints.{first_unread}
use Rattle.calls.specs.declared.words.NoWords.{NoWords}
use Rattle.calls.specs.declared.words.NoWords.TheVariants.{NoRule as NoRule', NoFamily as NoFamily'}
use Rattle.calls.specs.declared.status.Status.{Status}
use Rattle.calls.specs.declared.status.Status.TheVariants.{Done, Refused, NoRule, NoFamily, NoMemory}

-- of a layout file: done, or the refusal
abbrev pub layout_status : Option layouts.Refusal → Status
layout_status None = Done
layout_status (Some why) = Refused (Layout why)

-- of a layout file under a family, unless memory ends
abbrev pub LayoutTold : (ℕ → ℕ → fields.Meaning) → List ℕ → Status → Type 0
LayoutTold means layout s = (s ≡ layout_status (refusal (sorts means) layout)) ⊎ (s ≡ NoMemory)

-- what a call that writes leaves: its status, the buffer, and the length
abbrev pub Left : Type 0
Left = Status × List ℕ × ℕ

-- What is to be written is laid at the buffer's beginning, and its length told, where there is room. A refusal changes neither.
abbrev pub put : Result (List ℕ) Refusal → List ℕ → ℕ → Left
put (Err why) out n = (Refused why, out, n)
put (Ok bytes) out n = cond (nat_le (length bytes) (length out)) (Done, laid bytes out, length bytes) (Refused BufferTooShort, out, n)

-- unless memory ends, which changes neither
abbrev pub Leaves : Result (List ℕ) Refusal → Left → List ℕ → ℕ → Type 0
Leaves want left out n = (left ≡ put want out n) ⊎ (left ≡ (NoMemory, out, n))

-- where the export is taken; else the refusal
abbrev pub if_taken : Answer → Result (List ℕ) Refusal → Result (List ℕ) Refusal
if_taken (refused why) bytes = Err why
if_taken a bytes = bytes

-- where every row is read; else the refusal of the first that is not
abbrev pub if_read : Option (ℕ × Refusal) → List ℕ → Result (List ℕ) Refusal
if_read None bytes = Ok bytes
if_read (Some u) bytes = Err u.1

-- a rule and a family, a layout file, and a file
module _ (rule : rules.Meaning) (means : ℕ → ℕ → fields.Meaning) (layout file : List ℕ) where
  abbrev pub traced : Result (List ℕ) Refusal
  traced = if_taken (new_says means layout file) (Ok (trace_text (under rule means layout) file))

  abbrev pub printed : Result (List ℕ) Refusal
  printed = if_taken (new_says means layout file) (if_read (first_unread (under rule means layout) 0 (rows_in_file (under rule means layout) file)) file)

-- the bytes that a call has to write, unless memory ends
abbrev pub Makes : Result (List ℕ) Refusal → Status → List ℕ → Type 0
Makes want Done bytes = want ≡ Ok bytes
Makes want (Refused why) bytes = want ≡ Err why
Makes want NoRule bytes = ⊥
Makes want NoFamily bytes = ⊥
Makes want NoMemory bytes = Unit {0}

-- a pass that stops, as a status: an output that takes no more has no memory
abbrev pub status_of : Stop → Status
status_of (StopRefused why) = Refused why
status_of (Unread n why) = Refused why
status_of (Output e) = NoMemory

-- only a call that is done changes what it writes to
abbrev pub Stays : {X : Type 0} → X → X → Status → Type 0
Stays old new Done = Unit {0}
Stays old new (Refused why) = new ≡ old
Stays old new NoRule = new ≡ old
Stays old new NoFamily = new ≡ old
Stays old new NoMemory = new ≡ old

-- a call that is done has written the file
abbrev pub WritesFile : List ℕ → List ℕ → List ℕ → ℕ → Status → Type 0
WritesFile file out new n Done = (new ≡ laid file out) × (n ≡ length file)
WritesFile file out new n (Refused why) = Unit {0}
WritesFile file out new n NoRule = Unit {0}
WritesFile file out new n NoFamily = Unit {0}
WritesFile file out new n NoMemory = Unit {0}

-- words that stand for nothing, as a status
abbrev pub of_words : NoWords → Status
of_words NoRule' = NoRule
of_words NoFamily' = NoFamily
