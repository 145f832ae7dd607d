-- What an import that was just made answers when it is to take an export.
use Rattle.std.proofs.Common.{◌≡◌, ℕ, Bool, true, false, List, [], ◌∷◌, None, Option, Ok, Err, Result, refl, sym, ap, subst, ◌∙◌}
use Rattle.rows.specs.Cuts.{Cut}
use Rattle.rows.specs.Rules as rules
use Rattle.fields.specs.Meanings as fields
use Rattle.import.specs.declared.refusal.Refusal.{Refusal}
use Rattle.import.specs.Models.{under, Model}
use Rattle.import.specs.Calls.{Answer, refused, done}
use Rattle.import.specs.Steps.{Out, unless, tried}
use Rattle.import.specs.Tells.{says, rows_in_file, new_says}
use Rattle.import.specs.News.{empty, blank_setting, untakable, step_new}
use Rattle.tracing.specs.declared.stop.Stop.{Stop}
use Rattle.tracing.specs.declared.stop.Stop.TheVariants.{Refused, Unread, Output}
use Rattle.tracing.specs.Stops.{StopTold}
use Rattle.tracing.specs.Traces.{trace_text}
use Rattle.tracing.specs.Prints.{first_unread}
use Rattle.calls.specs.Lefts.{if_taken, if_read, traced, printed, Makes, status_of}

one_test : (b : Bool) (why : Refusal) (m : Model) (a : Answer) (inner : Out) → inner.0 ≡ a → (unless b why m inner).0 ≡ says ((b, why) ∷ []) a
one_test true why m a inner e = refl
one_test false why m a inner e = e

tests : (ts : List (Bool × Refusal)) (m n : Model) → (tried ts m (done, n)).0 ≡ says ts done
tests [] m n = refl
tests (t ∷ ts) m n = one_test t.0 t.1 m (says ts done) (tried ts m (done, n)) (tests ts m n)

module _ (m : Model) (old rule : rules.Meaning) (means : ℕ → ℕ → fields.Meaning) (ahead : Cut) (e : m ≡ empty (blank_setting old means) ahead) (layout file : List ℕ) where
  pub its_means : m.setting.means ≡ means
  its_means = ap (λ (x : Model). x.setting.means) e

  pub taking : (step_new m 1 layout rule file).0 ≡ new_says means layout file
  taking = ap (λ (x : Model). (step_new x 1 layout rule file).0) e ∙ tests (untakable means layout file) (empty (blank_setting old means) ahead) _

  pub if_done : (want : Result (List ℕ) Refusal) → (step_new m 1 layout rule file).0 ≡ done → if_taken (new_says means layout file) want ≡ want
  if_done want f = ap (λ a. if_taken a want) (sym taking ∙ f)

  pub if_refused : (want : Result (List ℕ) Refusal) (why : Refusal) → (step_new m 1 layout rule file).0 ≡ refused why → if_taken (new_says means layout file) want ≡ Err why
  if_refused want why f = ap (λ a. if_taken a want) (sym taking ∙ f)

  pub traced_done : (text : List ℕ) → (step_new m 1 layout rule file).0 ≡ done → text ≡ trace_text (under rule m.setting.means layout) file → traced rule means layout file ≡ Ok text
  traced_done text f g = if_done (Ok (trace_text (under rule means layout) file)) f ∙ ap Ok (ap (λ x. trace_text (under rule x layout) file) (sym its_means) ∙ sym g)

  abbrev unread_under : (ℕ → ℕ → fields.Meaning) → Option (ℕ × Refusal)
  unread_under x = first_unread (under rule x layout) 0 (rows_in_file (under rule x layout) file)

  same_unread : unread_under m.setting.means ≡ unread_under means
  same_unread = ap unread_under its_means

  pub printed_done : (text : List ℕ) → (step_new m 1 layout rule file).0 ≡ done → unread_under m.setting.means ≡ None → text ≡ file → printed rule means layout file ≡ Ok text
  printed_done text f g h = if_done (if_read (unread_under means) file) f ∙ ap (λ u. if_read u file) (sym same_unread ∙ g) ∙ ap Ok (sym h)

  stops : (unread : Option (ℕ × Refusal)) (bytes text : List ℕ) (stop : Stop) → StopTold (step_new m 1 layout rule file).0 unread stop →
      Makes (if_taken (new_says means layout file) (if_read unread bytes)) (status_of stop) text
  stops unread bytes text (Refused why) f = if_refused (if_read unread bytes) why f
  stops unread bytes text (Unread n why) f = if_done (if_read unread bytes) f.0 ∙ ap (λ u. if_read u bytes) f.1
  stops unread bytes text (Output why) f = tt

  pub traced_stops : (text : List ℕ) (stop : Stop) → StopTold (step_new m 1 layout rule file).0 None stop → Makes (traced rule means layout file) (status_of stop) text
  traced_stops text stop f = stops None (trace_text (under rule means layout) file) text stop f

  pub printed_stops : (text : List ℕ) (stop : Stop) → StopTold (step_new m 1 layout rule file).0 (unread_under m.setting.means) stop → Makes (printed rule means layout file) (status_of stop) text
  printed_stops text stop f = stops (unread_under means) file text stop (subst (λ u. StopTold (step_new m 1 layout rule file).0 u stop) same_unread f)
