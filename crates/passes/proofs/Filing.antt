-- How a row is filed, by what looking at its report tells.
use Rattle.std.proofs.Common.{◌≡◌, Bool, cond, Ok, Err, Some, None, Option, ◌==◌, refl, ap, ◌∙◌}
use Rattle.report.specs.Reports as reports
use Rattle.import.specs.declared.stage.How.TheVariants.{Kept, SetAside}
use Rattle.import.specs.declared.refusal.Refusal.{Refusal}
use Rattle.import.specs.Models.{Standing}
use Rattle.import.specs.Looks.{standing_says}
use Rattle.passes.specs.Passes.{how_filed}

pub filed_by : (o : Option Standing) (r : reports.Report) (b : Bool) → standing_says o ≡ Ok r → (reports.fault_count r == 0) ≡ b → how_filed o ≡ cond b Kept SetAside
filed_by None r b e f = absurd cc
filed_by (Some s) r b e f = let z : s.report ≡ r = cc in ap (λ x. cond (reports.fault_count x == 0) Kept SetAside) z ∙ ap (λ b. cond b Kept SetAside) f

pub set_aside_then : (o : Option Standing) (why : Refusal) → standing_says o ≡ Err why → how_filed o ≡ SetAside
set_aside_then None why e = refl
set_aside_then (Some s) why e = absurd cc
