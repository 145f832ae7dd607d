-- With no branch left, the choice is a fault.
use Rattle.std.proofs.Common.{take, sym, ap, ◌∙◌, vec_items, pos, ◌+◌}
use Rattle.report.specs.declared.outcome.Outcome.TheVariants.{SyntaxFault}
use Rattle.reader.specs.declared.open.Told.TheVariants.{Fault}
use Rattle.reader.specs.Turns.{undone, next_branch}
use Rattle.reader.specs.Models.{nodes_of, constants_of, node_in, stack_in, stack_of, parts_from}
use Rattle.reader.proofs.Stacks.{states}
use Rattle.reader.proofs.reader.Reader.next_branch.Goals as goal

pub returns-in_default-clause-after : goal.returns-in_default-clause-after
returns-in_default-clause-after g c =
    let s = c.args.source.now in
    let nodes = nodes_of s in
    let constants = constants_of s in
    let m = c.args.self.now in
    let means = g.F.Family.means s.family.now in
    let st = c.undo.ensures.stays in
    states Fault (ap (λ v. stack_of nodes constants (vec_items v)) st.0)
    (c.undo.ensures.after nodes constants ∙ ap (λ ls. undone (node_in s c.args.f) ls SyntaxFault (pos 5)) c.truncate.ensures.items)
    c.undo.ensures.place
    st.2
    ∙ sym (ap (λ o. next_branch means nodes s.row.now (node_in s c.args.f) (stack_in nodes constants m) (take (c.args.f.at + 1) (vec_items c.args.lines.now)) m.reach (parts_from nodes constants o)) c.in_default.is)
