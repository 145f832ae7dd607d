-- The number of a choice's line is that of its branch.
use Rattle.std.proofs.Common.{ap, ◌∙◌, vec_items, w64, rules}
use Rattle.std.proofs.lemmas.Int.{to_z-of_z}
use Rattle.report.specs.declared.outcome.Outcome.TheVariants.{Good}
use Rattle.reader.specs.declared.open.Told.TheVariants.{Clean}
use Rattle.reader.specs.Turns.{state, completed}
use Rattle.reader.specs.Models.{stack_in, pending_of}
use Rattle.reader.proofs.reader.Reader.choose.Goals as goal

pub returns-clause-after : goal.returns-clause-after
returns-clause-after c nodes constants =
    let m = c.args.self.now in
    let fs = stack_in nodes constants m in
    ap (λ ls. state fs ls m.place Clean m.reach) (c.complete.ensures.after nodes constants)
    ∙ ap (λ z. state fs (completed (pending_of nodes constants c.args.f) (vec_items c.args.lines.now) m.place Good z) m.place Clean m.reach) (to_z-of_z w64 c.from.result (search rules) ∙ c.from.ensures)
