-- The slip that next gave is filed, and a row to come is gone over.
use Rattle.std.proofs.Common.{◌≡◌, ap, subst, Ok, ◌∙◌}
use Rattle.import.specs.Calls.{next, file}
use Rattle.import.specs.declared.answer.Next.TheVariants.{Row}
use Rattle.import.specs.Answers.{said_next, said_done}
use Rattle.import.specs.States.{model_of}
use Rattle.import.specs.Steps.{Out, step}
use Rattle.passes.proofs.PassLaws.{opens_fresh, row_fits}
use Rattle.passes.proofs.WalkLaws.{walks}
use Rattle.passes.proofs.Joined.{passes}
use Rattle.passes.proofs.pass.pass_next.Goals as goal

pub file_open-requires : goal.file_open-requires
file_open-requires g c =
    let bytes = c.args.file.now in
    let o = c.in-Ok-Row.opened in
    let m1 = model_of bytes c.next.new.self in
    let m2 = model_of bytes c.read-read.new.self in
    let m = model_of bytes c.args.import.now in
    let opens : (said_next (Ok (Row o)), m1) ≡ step bytes m next = subst (λ r. (said_next r, m1) ≡ step bytes m next) (c.in-Ok-Row.is ∙ ap Ok c.in-Ok-Row.field-0-is) c.next.ensures.step in
    let h = opens_fresh o m1 bytes m opens in
    let fits = row_fits bytes o m1 h (said_done c.read-read.result) m2 (c.read-read.ensures.step bytes) in
    record { fits = (bytes, ap (λ how. (step bytes m2 (file how o.slip)).0) (c.how_to_file-filed.ensures bytes) ∙ ap (λ (x : Out). x.0) fits) }

pub returns-clause-step : goal.returns-clause-step
returns-clause-step g c =
    let bytes = c.args.file.now in
    let o = c.in-Ok-Row.opened in
    let m = model_of bytes c.args.import.now in
    let m1 = model_of bytes c.next.new.self in
    let opens : (said_next (Ok (Row o)), m1) ≡ step bytes m next = subst (λ r. (said_next r, m1) ≡ step bytes m next) (c.in-Ok-Row.is ∙ ap Ok c.in-Ok-Row.field-0-is) c.next.ensures.step in
    passes bytes m o m1 (said_done c.read-read.result) (model_of bytes c.read-read.new.self) (model_of bytes c.file_open.new.import) c.last_number-number.result c.how_to_file-filed.result
    opens (c.last_number-number.ensures bytes) (c.read-read.ensures.step bytes) (c.how_to_file-filed.ensures bytes) (c.file_open.ensures bytes)

pub returns-clause-walks : goal.returns-clause-walks
returns-clause-walks g c = λ ready. returns-clause-step g c ∙ walks c.args.file.now (model_of c.args.file.now c.args.import.now) ready
