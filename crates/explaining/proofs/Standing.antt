-- What is written of an import goes by what stands in it.
use Rattle.std.proofs.Common.{◌≡◌, ℕ, List, [], Ok, Err, Some, None, Option, Result, refl, sym, ap, subst, ◌∙◌}
use Rattle.report.specs.Reports as reports
use Rattle.cli.specs.declared.families.FamilyWords.{FamilyWords}
use Rattle.import.specs.declared.refusal.Refusal.{Refusal}
use Rattle.import.specs.Models.{Setting, Standing, Model}
use Rattle.import.specs.declared.answer.Counts.{Counts}
use Rattle.import.specs.declared.stage.Stage.{Stage}
use Rattle.import.specs.declared.stage.Stage.TheVariants.{End}
use Rattle.rows.specs.declared.piece.Mark.{Mark}
use Rattle.std.specs.Io.KnownBytes.{Appends}
use Rattle.tracing.proofs.Streams.{appends_none}
use Rattle.import.specs.Looks.{standing_says}
use Rattle.import.specs.Calls.{counts, counted}
use Rattle.import.specs.Answers.{said_counts}
use Rattle.import.specs.Steps.{step, step_counts}
use Rattle.explaining.specs.declared.row.Row.{Row}
use Rattle.explaining.specs.Reports.{report_text}
use Rattle.explaining.specs.Explanations.{standing_text, end_text}

module _ (family : FamilyWords) (s : Setting) (row : Row) (bytes : List ℕ) where
  pub told_report : (o : Option Standing) (r : reports.Report) → standing_says o ≡ Ok r → report_text family s.nodes s.constants bytes row r ≡ standing_text family s row bytes o
  told_report None r e = absurd cc
  told_report (Some t) r e = let z : r ≡ t.report = cc in ap (report_text family s.nodes s.constants bytes row) z

  pub told_none : (o : Option Standing) (why : Refusal) → standing_says o ≡ Err why → [] ≡ standing_text family s row bytes o
  told_none None why e = refl
  told_none (Some t) why e = absurd cc

-- an import at the end tells its counts
pub counted_at : (file : List ℕ) (m : Model) (start n : ℕ) (r : Result Counts Refusal) → m.stage ≡ End start n → said_counts r ≡ (step file m counts).0 → r ≡ Ok m.counts
counted_at file m start n (Ok c) e f = let z : counted c ≡ counted m.counts = f ∙ ap (λ p. (step_counts m p).0) e in cc
counted_at file m start n (Err why) e f = let z : said_counts (Err why) ≡ counted m.counts = f ∙ ap (λ p. (step_counts m p).0) e in absurd cc

-- elsewhere than at the end nothing is written
pub nothing_told : (a : Option (List ℕ)) (p q : Stage) (c : Counts) (last : Option Mark) → p ≡ q → end_text q c last ≡ [] → Appends a a (end_text p c last)
nothing_told a p q c last e f = subst (λ x. Appends a a (end_text x c last)) (sym e) (subst (Appends a a) (sym f) (appends_none a))
