-- What the number of a status says of what a call leaves.
use Rattle.std.proofs.Common.{◌≡◌, ◌≢◌, ℕ, List, length, refl, arith}
use Rattle.rows.specs.Frames.{laid}
use Rattle.layout.specs.declared.refusal.Refusal.TheVariants.{Size, Bits, Links, Stranded, Kind, Range, Depth}
use Rattle.import.specs.declared.refusal.Refusal.{Refusal}
use Rattle.import.specs.declared.refusal.Refusal.TheVariants.{Layout, FileTooLong, OtherLength, RowTooLong, ReachTooFar, WrongMoment, OtherRow, RowHasFaults, BufferTooShort}
use Rattle.import.specs.Refusals as refusals
use Rattle.calls.specs.declared.status.Status.{Status}
use Rattle.calls.specs.declared.status.Status.TheVariants.{Done, Refused, NoRule, NoFamily, NoMemory}
use Rattle.calls.specs.Statuses.{number_of}
use Rattle.calls.specs.Lefts.{Stays, WritesFile}

-- a call whose number is not 0 is not done
pub unless_done : {X : Type 0} (s : Status) (old new : X) → Stays old new s → number_of s ≢ 0 → new ≡ old
unless_done Done old new h n = absurd (n refl)
unless_done (Refused why) old new h n = h
unless_done NoRule old new h n = h
unless_done NoFamily old new h n = h
unless_done NoMemory old new h n = h

-- no refusal has the number 0
some_number : (why : Refusal) → refusals.number_of why ≢ 0
some_number (Layout Size) e = absurd (omega (arith, e))
some_number (Layout Bits) e = absurd (omega (arith, e))
some_number (Layout Links) e = absurd (omega (arith, e))
some_number (Layout Stranded) e = absurd (omega (arith, e))
some_number (Layout Kind) e = absurd (omega (arith, e))
some_number (Layout Range) e = absurd (omega (arith, e))
some_number (Layout Depth) e = absurd (omega (arith, e))
some_number FileTooLong e = absurd (omega (arith, e))
some_number OtherLength e = absurd (omega (arith, e))
some_number RowTooLong e = absurd (omega (arith, e))
some_number ReachTooFar e = absurd (omega (arith, e))
some_number WrongMoment e = absurd (omega (arith, e))
some_number OtherRow e = absurd (omega (arith, e))
some_number RowHasFaults e = absurd (omega (arith, e))
some_number BufferTooShort e = absurd (omega (arith, e))

-- one whose number is 0 is done
pub file_written : (file out new : List ℕ) (n : ℕ) (s : Status) → WritesFile file out new n s → number_of s ≡ 0 → (new ≡ laid file out) × (n ≡ length file)
file_written file out new n Done h e = h
file_written file out new n (Refused why) h e = absurd (some_number why e)
file_written file out new n NoRule h e = absurd (omega (arith, e))
file_written file out new n NoFamily h e = absurd (omega (arith, e))
file_written file out new n NoMemory h e = absurd (omega (arith, e))
