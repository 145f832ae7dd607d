-- What new answers, and what it leaves.
use Rattle.std.proofs.Common.{◌≡◌, ℕ, ◌≤◌, Bool, true, false, List, [], ◌∷◌, length, Some, None, Option, Ok, Err, nat_lt, refl, ap, subst, sym, arith, ◌∙◌}
use Rattle.std.specs.Option.{option_map}
use Rattle.std.proofs.lemmas.Bool.{ltb-false}
use Rattle.rows.specs.Cuts.{RowAt, Each, Bytes, File}
use Rattle.rows.specs.Rules as rules
use Rattle.fields.specs.Meanings as fields
use Rattle.fields.specs.Laws as families
use Rattle.layout.specs.declared.refusal.Refusal as layouts
use Rattle.layout.specs.Shapes.{sorts}
use Rattle.layout.specs.Files.{nodes_in, refusal}
use Rattle.report.specs.Reports as reports
use Rattle.report.specs.Promises.{UnderFile}
use Rattle.report.proofs.AcceptedFiles.{under_file}
use Rattle.import.specs.declared.stage.Stage.{Stage}
use Rattle.import.specs.declared.stage.Stage.TheVariants.{Empty, Between, Unread, Read, End}
use Rattle.import.specs.declared.refusal.Refusal.TheVariants.{Layout, FileTooLong}
use Rattle.import.specs.Models.{under, Model}
use Rattle.import.specs.Calls.{done}
use Rattle.import.specs.Steps.{Out, unless, report_of, tried, test_of}
use Rattle.import.specs.News.{fresh, take_file, new_at, step_new}
use Rattle.import.specs.Scans.{Ready}
use Rattle.import.proofs.StepLaws.{grounded}
use Rattle.import.proofs.TwoFiles.{rows_are_bytes}
use Rattle.tracing.specs.Prints.{Printable}

-- what an accepted new has found, and has left
pub record Taken (m n : Model) (number : ℕ) (layout : List ℕ) (rule : rules.Meaning) (file : List ℕ) : Type 0 where
  pub left : n ≡ fresh (under rule m.setting.means layout) number file
  pub accepted : refusal (sorts m.setting.means) layout ≡ None
  pub fits : length file ≤ 16777216

module _ (m n : Model) (number : ℕ) (layout : List ℕ) (rule : rules.Meaning) (file : List ℕ) where
  by_test : (b : Bool) (o : Option layouts.Refusal) → nat_lt 16777216 (length file) ≡ b → refusal (sorts m.setting.means) layout ≡ o →
      (done, n) ≡ unless b FileTooLong m (tried (test_of (option_map Layout o)) m (done, fresh (under rule m.setting.means layout) number file)) → Taken m n number layout rule file
  by_test true o e f k = let z = ap (λ (x : Out). x.0) k in absurd cc
  by_test false None e f k = record { left = ap (λ (x : Out). x.1) k; accepted = f; fits = ltb-false 16777216 (length file) e }
  by_test false (Some why) e f k = let z = ap (λ (x : Out). x.0) k in absurd cc

  taken_file : (done, n) ≡ take_file m number layout rule file → Taken m n number layout rule file
  taken_file k = by_test (nat_lt 16777216 (length file)) (refusal (sorts m.setting.means) layout) refl refl k

  at_stage : (p : Stage) → (done, n) ≡ new_at m p number layout rule file → Taken m n number layout rule file
  at_stage Empty k = taken_file k
  at_stage Between k = taken_file k
  at_stage (Unread start l mark) k = let z = ap (λ (x : Out). x.0) k in absurd cc
  at_stage Read k = let z = ap (λ (x : Out). x.0) k in absurd cc
  at_stage (End start l) k = taken_file k

  pub new_taken : (done, n) ≡ step_new m number layout rule file → Taken m n number layout rule file
  new_taken k = at_stage m.stage k

  pub taken_ready : rules.Lawful rule → File file → Taken m n number layout rule file → Ready file n
  taken_ready law f t =
      let g = grounded rule law file f in
      subst (Ready file) (sym t.left) (record { between = refl; size = refl; parts = law.parts file f; room = omega (arith, g.few) })

  printable_rows : (means : ℕ → ℕ → fields.Meaning) → UnderFile means layout → (rs : List RowAt) → Each (λ r. Bytes r.bytes) rs →
      Each (λ r. reports.print means (nodes_in layout) (report_of (under rule means layout) r.bytes) ≡ r.bytes) rs
  printable_rows means u [] h = tt
  printable_rows means u (r ∷ rs) h = (u.prints_back r.bytes h.0, printable_rows means u rs h.1)

  pub taken_printable : rules.Lawful rule → ((k p : ℕ) → families.Lawful (m.setting.means k p)) → File file → Taken m n number layout rule file → Printable n
  taken_printable law lawful f t =
      let u = under_file m.setting.means layout lawful t.accepted in
      subst Printable (sym t.left) (printable_rows m.setting.means u (rule.cut file).rows (rows_are_bytes file (rule.cut file).rows f.bytes (law.parts file f).0))
