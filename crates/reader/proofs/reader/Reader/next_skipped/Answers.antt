-- With no part left, the sequence breaks.
use Rattle.std.proofs.Common.{sym, ap, ◌∙◌, vec_items}
use Rattle.reader.specs.declared.open.Told.TheVariants.{Fault}
use Rattle.reader.specs.Turns.{state, next_skipped}
use Rattle.reader.specs.Models.{nodes_of, constants_of, node_in, stack_in, parts_from}
use Rattle.reader.proofs.reader.Reader.next_skipped.Goals as goal

pub returns-in_default-clause-after : goal.returns-in_default-clause-after
returns-in_default-clause-after g c =
    let s = c.args.source.now in
    let nodes = nodes_of s in
    let constants = constants_of s in
    let m = c.args.self.now in
    let means = g.F.Family.means s.family.now in
    ap (λ ls. state (stack_in nodes constants m) ls m.place Fault m.reach) (c.shut.ensures.after nodes constants)
    ∙ sym (ap (λ o. next_skipped means nodes s.row.now (node_in s c.args.f) (stack_in nodes constants m) (vec_items c.args.lines.now) m.place m.reach (parts_from nodes constants o)) c.in_default.is)
