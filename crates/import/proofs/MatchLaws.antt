-- A match of two imports that take their files.
use Rattle.std.proofs.Common.{◌≡◌, ℕ, List, Ok, Err, Result, refl, sym, ap, subst, ◌∙◌, arith}
use Rattle.rows.specs.Cuts.{File}
use Rattle.rows.specs.Rules as rules
use Rattle.fields.specs.Meanings as fields
use Rattle.import.specs.declared.stage.Stage.{Stage}
use Rattle.import.specs.declared.stage.Stage.TheVariants.{Empty, Between, Unread, Read, End}
use Rattle.import.specs.declared.answer.Matched.{Matched}
use Rattle.import.specs.declared.answer.Unmatched.{Unmatched}
use Rattle.import.specs.declared.refusal.Refusal.{Refusal}
use Rattle.import.specs.Models.{under, Model}
use Rattle.import.specs.Calls.{Answer, refused, done}
use Rattle.import.specs.Answers.{said_done}
use Rattle.import.specs.Steps.{Out}
use Rattle.import.specs.News.{fresh, untakable, take_file, new_at, step_new}
use Rattle.import.specs.Stages.{open_at}
use Rattle.import.specs.Scans.{Ready, Left}
use Rattle.import.specs.Tells.{new_says}
use Rattle.import.specs.Matching.{IfRefused}
use Rattle.import.proofs.StepLaws.{grounded}
use Rattle.import.proofs.ScanLaws.{tried_keeps}
use Rattle.import.proofs.Fresh.{taking_answers, taking_leaves}

-- an accepted call lets a match go on, and a refused one does not
pub goes_past : (a : Answer) (told : Refusal → Unmatched) (res : Result Matched Unmatched) (on : Type 0) → a ≡ done → on → IfRefused a told res on
goes_past a told res on e h = subst (λ x. IfRefused x told res on) (sym e) h

pub is_refused : (a : Answer) (why : Refusal) (told : Refusal → Unmatched) (on : Type 0) → a ≡ refused why → IfRefused a told (Err (told why)) on
is_refused a why told on e = subst (λ x. IfRefused x told (Err (told why)) on) (sym e) refl

-- behind an accepted call the match has gone on
pub gone_past : (a : Answer) (told : Refusal → Unmatched) (res : Result Matched Unmatched) (on : Type 0) → a ≡ done → IfRefused a told res on → on
gone_past a told res on e h = subst (λ x. IfRefused x told res on) e h

module _ (m n : Model) (number : ℕ) (layout : List ℕ) (rule : rules.Meaning) (file : List ℕ) (closed : open_at m.stage ≡ 0) where
  at_stage : (p : Stage) → open_at p ≡ 0 → new_at m p number layout rule file ≡ take_file m number layout rule file
  at_stage Empty z = refl
  at_stage Between z = refl
  at_stage (Unread start l mark) z = absurd cc
  at_stage Read z = absurd cc
  at_stage (End start l) z = refl

  -- what new answers and leaves where no row is open
  pub new_answers : (r : Result (Unit {0}) Refusal) → (said_done r, n) ≡ step_new m number layout rule file → new_says m.setting.means layout file ≡ said_done r
  new_answers r k = taking_answers m n number layout rule file r (k ∙ at_stage m.stage closed)

  pub new_leaves : (u : Unit {0}) → (said_done (Ok u), n) ≡ step_new m number layout rule file → n ≡ fresh (under rule m.setting.means layout) number file
  new_leaves u k = taking_leaves m n number layout rule file u (k ∙ at_stage m.stage closed)

  pub new_left : (r : Result (Unit {0}) Refusal) → (said_done r, n) ≡ step_new m number layout rule file → Left m n
  new_left r k =
      subst (Left m) (sym (ap (λ (o : Out). o.1) (k ∙ at_stage m.stage closed)))
      (tried_keeps (Left m) (untakable m.setting.means layout file) m (done, fresh (under rule m.setting.means layout) number file) (record { means_stay = refl; closed = closed }) (record { means_stay = refl; closed = refl }))

-- what is left of what is left
pub left_again : (m n k : Model) → Left m n → Left n k → Left m k
left_again m n k a b = record { means_stay = b.means_stay ∙ a.means_stay; closed = b.closed }

pub fresh_ready : (rule : rules.Meaning) (means : ℕ → ℕ → fields.Meaning) (layout file : List ℕ) (number : ℕ) → rules.Lawful rule → File file → Ready file (fresh (under rule means layout) number file)
fresh_ready rule means layout file number law f =
    let g = grounded rule law file f in
    record { between = refl; size = refl; parts = law.parts file f; room = omega (arith, g.few) }
