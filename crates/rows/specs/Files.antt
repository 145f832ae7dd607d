-- Setting a rule on a file that is within the limit: the answer, and what is then known.
use Rattle.std.specs.Prelude.{ℕ, ◌≤◌, if◌then◌else◌, List, length, Ok, Err, Result, nat_le}
use Rattle.rows.specs.Rules.{Meaning, Parts, NoEmptyFrame, FramesAreTheFile, ExchangeLeavesTheRest}
use Rattle.rows.specs.declared.refusal.Refusal.{Refusal}
use Rattle.rows.specs.declared.refusal.Refusal.TheVariants.{FileTooLong}

abbrev pub taken : List ℕ → Result (Unit {0}) Refusal
taken file = if nat_le (length file) 16777216 then Ok tt else Err FileTooLong

-- What holds of a file's rows under every rule: they are parts of it, none has an empty frame and so there are no more of them than bytes,
-- their frames and the tail are the file, and exchanging one for a carried one leaves the rest.
pub record CutWell (m : Meaning) (file : List ℕ) : Type 0 where
  pub parts : Parts file (m.cut file)
  pub no_empty : NoEmptyFrame m file
  pub few : length (m.cut file).rows ≤ length file
  pub whole : FramesAreTheFile m file
  pub exchange : ExchangeLeavesTheRest m file
