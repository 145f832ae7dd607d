-- A slip in hand, and what a row that is read and kept with it comes to.
use Rattle.std.specs.Prelude.{◌≡◌, ℕ, List}
use Rattle.import.specs.declared.slip.Slip.{Slip}
use Rattle.import.specs.Models.{Model}
use Rattle.import.specs.Calls.{Answer, refused, read, keep}
use Rattle.import.specs.Stages.{open_at}
use Rattle.import.specs.Steps.{Out, open_slip, step}

-- a row is open, and the slip is its own
abbrev pub Holds : Slip → Model → Type 0
Holds s m = (open_at m.stage ≡ 1) × (s ≡ open_slip m)

-- by what its read answers: a row that is not read stays open
abbrev pub kept_behind : List ℕ → Slip → Answer → Model → Out
kept_behind bytes s (refused why) m = (refused why, m)
kept_behind bytes s a m = step bytes m (keep s)

-- the open row is read, and then kept
abbrev pub read_kept : List ℕ → Slip → Model → Out
read_kept bytes s m = kept_behind bytes s (step bytes m read).0 (step bytes m read).1
