-- The number of each status. No family and no memory are far out: numbers from 16 on are left to refusals to come.
use Rattle.std.specs.Prelude.{ℕ}
use Rattle.import.specs.Refusals as refusals
use Rattle.calls.specs.declared.status.Status.{Status}
use Rattle.calls.specs.declared.status.Status.TheVariants.{Done, Refused, NoRule, NoFamily, NoMemory}

abbrev pub number_of : Status → ℕ
number_of Done = 0
number_of (Refused why) = refusals.number_of why
number_of NoRule = 11
number_of NoFamily = 254
number_of NoMemory = 255
