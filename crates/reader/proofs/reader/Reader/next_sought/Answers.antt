-- With no part left, the sequence breaks.
use Rattle.std.proofs.Common.{sym, ap, ap₂, ◌∙◌, vec_items}
use Rattle.layout.specs.declared.node.Node.{Node}
use Rattle.report.specs.Leaves.{first_from}
use Rattle.reader.specs.declared.open.Told.TheVariants.{Fault}
use Rattle.reader.specs.Turns.{state, sought, hunted, next_sought}
use Rattle.reader.specs.Models.{nodes_of, constants_of, node_in, part_in, later_in, stack_in, parts_from}
use Rattle.reader.proofs.Numbers.{number_is, byte_is}
use Rattle.reader.proofs.reader.Reader.next_sought.Goals as goal

pub returns-in_default-clause-after : goal.returns-in_default-clause-after
returns-in_default-clause-after g c =
    let s = c.args.source.now in
    let nodes = nodes_of s in
    let constants = constants_of s in
    let m = c.args.self.now in
    let means = g.F.Family.means s.family.now in
    ap (λ ls. state (stack_in nodes constants m) ls m.place Fault m.reach) (c.shut.ensures.after nodes constants)
    ∙ sym (ap (λ o. next_sought means nodes s.row.now (node_in s c.args.f) (stack_in nodes constants m) (vec_items c.args.lines.now) m.place m.reach (parts_from nodes constants o)) c.in_default.is)

pub returns-in-Mark-clause-after : goal.returns-in-Mark-clause-after
returns-in-Mark-clause-after g c =
    let s = c.args.source.now in
    let nodes = nodes_of s in
    let constants = constants_of s in
    let m = c.args.self.now in
    let means = g.F.Family.means s.family.now in
    let f = node_in s c.args.f in
    let fs = stack_in nodes constants m in
    let ls = vec_items c.args.lines.now in
    let i = c.in-Some.part in
    let q = part_in s i in
    let found = first_from s.row.now c.in-Mark.byte m.place in
    let shape = sym (ap (λ (n : Node). n.shape) c.node.ensures) ∙ c.in-Mark.is in
    c.seek_mark.ensures.after
    ∙ ap₂ (λ k g. sought k f g fs ls m.place m.reach found) (sym (number_is nodes constants i)) c.behind-met.ensures
    ∙ sym (ap (λ o. hunted means nodes s.row.now f fs ls m.place m.reach q (later_in s i) o) (byte_is nodes constants i c.in-Mark.byte shape))
    ∙ sym (ap (λ o. next_sought means nodes s.row.now f fs ls m.place m.reach (parts_from nodes constants o)) c.in-Some.is)
