-- What is written of an import goes by what stands in it.
use Rattle.std.proofs.Common.{◌≡◌, [], Ok, Err, Some, None, Option, refl, ap}
use Rattle.report.specs.Reports as reports
use Rattle.import.specs.declared.refusal.Refusal.{Refusal}
use Rattle.import.specs.Models.{Standing}
use Rattle.import.specs.Looks.{standing_says}
use Rattle.tracing.specs.Traces.{report_text, standing_text}

pub told_report : (o : Option Standing) (r : reports.Report) → standing_says o ≡ Ok r → report_text r ≡ standing_text o
told_report None r e = absurd cc
told_report (Some s) r e = let z : r ≡ s.report = cc in ap report_text z

pub told_none : (o : Option Standing) (why : Refusal) → standing_says o ≡ Err why → [] ≡ standing_text o
told_none None why e = refl
told_none (Some s) why e = absurd cc
