-- What an accepted new has found and has left, and all that holds of its runs.
use Rattle.std.proofs.Common.{◌≡◌, ℕ, ◌≤◌, Bool, true, false, List, length, Some, None, Option, Ok, Err, Result, nat_lt, OnOk, refl, sym, ap, subst, ◌∙◌}
use Rattle.std.specs.Option.{option_map}
use Rattle.std.proofs.lemmas.Bool.{ltb-false}
use Rattle.rows.specs.Cuts.{Bytes}
use Rattle.rows.specs.Rules as rules
use Rattle.fields.specs.Meanings as fields
use Rattle.fields.specs.Laws as families
use Rattle.layout.specs.declared.refusal.Refusal as layouts
use Rattle.layout.specs.Shapes.{sorts}
use Rattle.layout.specs.Files.{refusal}
use Rattle.import.specs.declared.refusal.Refusal.{Refusal}
use Rattle.import.specs.declared.refusal.Refusal.TheVariants.{Layout, FileTooLong}
use Rattle.import.specs.Models.{under, Model}
use Rattle.import.specs.Calls.{Call, done}
use Rattle.import.specs.Answers.{said_done}
use Rattle.import.specs.Steps.{Out, test_of}
use Rattle.import.specs.News.{fresh, untakable, take_file}
use Rattle.import.specs.Tells.{refusing, says, new_says}
use Rattle.import.specs.Promises.{WholeRun}
use Rattle.import.proofs.ScanLaws.{tried_done}
use Rattle.import.proofs.WholeRuns.{tried_says, whole_runs}

pub record Acceptable (means : ℕ → ℕ → fields.Meaning) (layout file : List ℕ) : Type 0 where
  pub accepted : refusal (sorts means) layout ≡ None
  pub fits : length file ≤ 16777216

pub acceptable : (means : ℕ → ℕ → fields.Meaning) (layout file : List ℕ) → new_says means layout file ≡ done → Acceptable means layout file
acceptable means layout file e = by_test (nat_lt 16777216 (length file)) (refusal (sorts means) layout) refl refl e
  where
    by_test : (b : Bool) (o : Option layouts.Refusal) → nat_lt 16777216 (length file) ≡ b → refusal (sorts means) layout ≡ o → refusing b FileTooLong (says (test_of (option_map Layout o)) done) ≡ done → Acceptable means layout file
    by_test true o d f k = absurd cc
    by_test false None d f k = record { accepted = f; fits = ltb-false 16777216 (length file) d }
    by_test false (Some why) d f k = absurd cc

module _ (m n : Model) (number : ℕ) (layout : List ℕ) (rule : rules.Meaning) (file : List ℕ) where
  pub taking_answers : (r : Result (Unit {0}) Refusal) → (said_done r, n) ≡ take_file m number layout rule file → new_says m.setting.means layout file ≡ said_done r
  taking_answers r k = sym (ap (λ (o : Out). o.0) k ∙ tried_says (untakable m.setting.means layout file) m (done, fresh (under rule m.setting.means layout) number file))

  pub taking_leaves : (u : Unit {0}) → (said_done (Ok u), n) ≡ take_file m number layout rule file → n ≡ fresh (under rule m.setting.means layout) number file
  taking_leaves u k =
      ap (λ (o : Out). o.1) (k ∙ tried_done (untakable m.setting.means layout file) m (done, fresh (under rule m.setting.means layout) number file) (taking_answers (Ok u) k))

  pub taken_runs : rules.Lawful rule → ((k p : ℕ) → families.Lawful (m.setting.means k p)) → Bytes file →
      (r : Result (Unit {0}) Refusal) → (said_done r, n) ≡ take_file m number layout rule file → OnOk r ((calls : List Call) → WholeRun file n calls)
  taken_runs law lawful bytes (Ok u) k =
      let a = acceptable m.setting.means layout file (taking_answers (Ok u) k) in
      λ calls. subst (λ x. WholeRun file x calls) (sym (taking_leaves u k)) (whole_runs rule m.setting.means law lawful layout file number calls a.accepted (record { bytes = bytes; fits = a.fits }))
  taken_runs law lawful bytes (Err why) k = tt
