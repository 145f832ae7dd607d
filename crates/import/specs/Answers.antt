-- The answers of the calls as values: what each case of an answer says.
use Rattle.std.specs.Prelude.{◌≡◌, ℕ, List, length, Some, None, Ok, Err, Option, Result}
use Rattle.rows.specs.Frames.{laid}
use Rattle.report.specs.declared.line.Line.{Line}
use Rattle.import.specs.declared.slip.Slip.{Slip}
use Rattle.import.specs.declared.answer.Next.{Next}
use Rattle.import.specs.declared.answer.Next.TheVariants.{Row, End}
use Rattle.import.specs.declared.answer.Counts.{Counts}
use Rattle.import.specs.declared.stage.Place.{Place}
use Rattle.import.specs.declared.answer.Unmatched.{Unmatched}
use Rattle.import.specs.declared.answer.Unmatched.TheVariants.{NotTaken, Unread}
use Rattle.import.specs.declared.refusal.Refusal.{Refusal}
use Rattle.import.specs.Refusals.{number_of}
use Rattle.import.specs.Calls.{Answer, refused, row, none, done, wrote, found, counted}

-- next
abbrev pub said_next : Result Next Refusal → Answer
said_next (Ok (Row o)) = row o
said_next (Ok End) = none
said_next (Err why) = refused why

-- where next says none
abbrev pub IfEnded : Result Next Refusal → Type 0 → Type 0
IfEnded (Ok (Row o)) x = Unit {0}
IfEnded (Ok End) x = x
IfEnded (Err why) x = Unit {0}

abbrev pub IfNone : Result (Option Place) Refusal → Type 0 → Type 0
IfNone (Ok None) x = x
IfNone (Ok (Some p)) x = Unit {0}
IfNone (Err why) x = Unit {0}

-- the same of the row's place, under that slip
abbrev pub said_place : Slip → Result (Option Place) Refusal → Answer
said_place s (Ok None) = none
said_place s (Ok (Some p)) = row (record { slip = s; start = p.start; length = p.length; mark = p.mark })
said_place s (Err why) = refused why

-- read and new
abbrev pub said_done : Result (Unit {0}) Refusal → Answer
said_done (Ok u) = done
said_done (Err why) = refused why

-- keep and set aside: a refusal gives the slip back
abbrev pub said_filed : Result (Unit {0}) (Refusal × Slip) → Answer
said_filed (Ok u) = done
said_filed (Err e) = refused e.0

abbrev pub GivenBack : Slip → Result (Unit {0}) (Refusal × Slip) → Type 0
GivenBack s (Ok u) = Unit {0}
GivenBack s (Err e) = e.1 ≡ s

-- line
abbrev pub said_line : Result (Option Line) Refusal → Answer
said_line (Ok l) = found l
said_line (Err why) = refused why

-- counts
abbrev pub said_counts : Result Counts Refusal → Answer
said_counts (Ok c) = counted c
said_counts (Err why) = refused why

-- Print and closing: how many bytes were written to the buffer's beginning, and the buffer then; bytes behind them stay. (They have no other answers than the first two.)
abbrev pub written : Answer → List ℕ → Result ℕ Refusal × List ℕ
written (wrote bytes) buffer = (Ok (length bytes), laid bytes buffer)
written (refused why) buffer = (Err why, buffer)
written a buffer = (Ok 0, buffer)

-- a match that is refused is known by the number of what was refused
abbrev pub number_of_unmatched : Unmatched → ℕ
number_of_unmatched (NotTaken side why) = number_of why
number_of_unmatched (Unread side n why) = number_of why
