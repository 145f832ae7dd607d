-- With no part left, the node is completed.
use Rattle.std.proofs.Common.{sym, ap, ◌∙◌, vec_items, w64}
use Rattle.std.proofs.lemmas.Int.{to_z-of_z}
use Rattle.report.specs.declared.outcome.Outcome.TheVariants.{Good}
use Rattle.reader.specs.declared.open.Told.TheVariants.{Clean}
use Rattle.reader.specs.Turns.{state, completed, next_tried}
use Rattle.reader.specs.Models.{nodes_of, constants_of, node_in, stack_in, parts_from}
use Rattle.reader.proofs.reader.Reader.next_tried.Goals as goal

pub returns-in_default-clause-after : goal.returns-in_default-clause-after
returns-in_default-clause-after g c =
    let s = c.args.source.now in
    let nodes = nodes_of s in
    let constants = constants_of s in
    let m = c.args.self.now in
    let means = g.F.Family.means s.family.now in
    ap (λ ls. state (stack_in nodes constants m) ls m.place Clean m.reach) (c.complete.ensures.after nodes constants)
    ∙ ap (λ z. state (stack_in nodes constants m) (completed (node_in s c.args.f) (vec_items c.args.lines.now) m.place Good z) m.place Clean m.reach) (to_z-of_z w64 c.args.number c.ranges.number)
    ∙ sym (ap (λ o. next_tried means nodes s.row.now c.args.number (node_in s c.args.f) (stack_in nodes constants m) (vec_items c.args.lines.now) m.place m.reach (parts_from nodes constants o)) c.in_default.is)
