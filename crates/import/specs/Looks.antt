-- What looking at an import tells.
use Rattle.std.specs.Prelude.{Some, None, Ok, Err, Option, Result}
use Rattle.report.specs.Reports.{Report}
use Rattle.import.specs.declared.refusal.Refusal.{Refusal}
use Rattle.import.specs.declared.refusal.Refusal.TheVariants.{WrongMoment}
use Rattle.import.specs.Models.{Standing}

-- the report that stands; with none it is the wrong moment
abbrev pub standing_says : Option Standing → Result Report Refusal
standing_says None = Err WrongMoment
standing_says (Some r) = Ok r.report
