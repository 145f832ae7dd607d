-- The printer's answer is the import's.
use Rattle.std.proofs.Common.{[], length, Ok, Err, refl, sym, ap, subst, ◌∙◌}
use Rattle.import.specs.declared.refusal.Refusal.TheVariants.{BufferTooShort}
use Rattle.import.specs.Answers.{written}
use Rattle.import.specs.Reported.{Reported}
use Rattle.import.specs.States.{standing, setting_of, model_of}
use Rattle.import.specs.Steps.{step_print}
use Rattle.import.proofs.Printing.{as_ours, print_written, prints_its_row}
use Rattle.import.proofs.import.Import.put_frame.Goals as goal

pub returns-in-Ok-clause-step : goal.returns-in-Ok-clause-step
returns-in-Ok-clause-step g c = λ file.
    let i = c.args.self.now in
    let out = c.args.out.now in
    let m = model_of file i in
    let s = setting_of i in
    let stands = subst (λ o. ∥ Reported s.rule s.means s.nodes s.constants o i.report ∥₁) c.requires i.reported in
    ap (λ r. (as_ours r, c.print_framed.new.out)) (sym c.in-Ok.is)
    ∙ print_written s c.args.mark i.report out (c.print_framed.result, c.print_framed.new.out) m i.known stands c.print_framed.ensures.frame
    ∙ ap (λ o. written (step_print (length out) m (standing i.report o)).0 out) (sym c.requires)

pub returns-in-Err-clause-step : goal.returns-in-Err-clause-step
returns-in-Err-clause-step g c = λ file.
    let i = c.args.self.now in
    let out = c.args.out.now in
    let m = model_of file i in
    let s = setting_of i in
    let stands = subst (λ o. ∥ Reported s.rule s.means s.nodes s.constants o i.report ∥₁) c.requires i.reported in
    ap (λ r. (as_ours r, c.print_framed.new.out)) (sym c.in-Err.is)
    ∙ print_written s c.args.mark i.report out (c.print_framed.result, c.print_framed.new.out) m i.known stands c.print_framed.ensures.frame
    ∙ ap (λ o. written (step_print (length out) m (standing i.report o)).0 out) (sym c.requires)

-- the report that stands prints its row
pub returns-in-Ok-clause-row : goal.returns-in-Ok-clause-row
returns-in-Ok-clause-row g c =
    let i = c.args.self.now in
    prints_its_row (setting_of i) (model_of [] i) (standing i.report i.standing) (Ok c.in-Ok.length) c.args.out.now c.print_framed.new.out i.known (g.met.F.Family.lawful i.family) refl (returns-in-Ok-clause-step g c [])

pub returns-in-Err-clause-row : goal.returns-in-Err-clause-row
returns-in-Err-clause-row g c =
    let i = c.args.self.now in
    prints_its_row (setting_of i) (model_of [] i) (standing i.report i.standing) (Err BufferTooShort) c.args.out.now c.print_framed.new.out i.known (g.met.F.Family.lawful i.family) refl (returns-in-Err-clause-step g c [])
