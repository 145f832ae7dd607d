-- Each example computes.
use Rattle.std.proofs.Common.{refl}
use Rattle.fields.proofs.rules.worked_readings.Goals as goal

pub returns : goal.returns
returns c = record { cents = refl; minus_zero = refl; leading_zeros = refl }
