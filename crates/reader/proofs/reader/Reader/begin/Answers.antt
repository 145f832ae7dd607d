-- A node with parts is opened.
use Rattle.std.proofs.Common.{sym, refl, ap, ◌∙◌}
use Rattle.layout.specs.declared.node.Shape.TheVariants.{Sequence, Choice, Optional}
use Rattle.layout.specs.declared.node.Node.{Node}
use Rattle.reader.specs.Models.{nodes_of, constants_of}
use Rattle.reader.proofs.Tables.{child_set}
use Rattle.reader.proofs.Begun.{begun_sequence, begun_choice, begun_option}
use Rattle.reader.proofs.reader.Reader.begin.Goals as goal

pub open_node-requires-clause-some : goal.open_node-requires-clause-some
open_node-requires-clause-some g c =
    let l = c.args.source.now.layout.now in
    let e = sym (ap (λ (n : Node). n.shape) c.node.ensures) ∙ c.in-Sequence.is in
    child_set (nodes_of c.args.source.now) (constants_of c.args.source.now) l.hangs l.numbered c.args.node c.in-Sequence.child (Sequence c.in-Sequence.child) e refl

pub open_node-requires-in-Choice-clause-some : goal.open_node-requires-in-Choice-clause-some
open_node-requires-in-Choice-clause-some g c =
    let l = c.args.source.now.layout.now in
    let e = sym (ap (λ (n : Node). n.shape) c.node.ensures) ∙ c.in-Choice.is in
    child_set (nodes_of c.args.source.now) (constants_of c.args.source.now) l.hangs l.numbered c.args.node c.in-Choice.child (Choice c.in-Choice.child) e refl

pub open_node-requires-in-Optional-clause-some : goal.open_node-requires-in-Optional-clause-some
open_node-requires-in-Optional-clause-some g c =
    let l = c.args.source.now.layout.now in
    let e = sym (ap (λ (n : Node). n.shape) c.node.ensures) ∙ c.in-Optional.is in
    child_set (nodes_of c.args.source.now) (constants_of c.args.source.now) l.hangs l.numbered c.args.node c.in-Optional.child (Optional c.in-Optional.child) e refl

pub returns-in-Sequence-clause-after : goal.returns-in-Sequence-clause-after
returns-in-Sequence-clause-after g c =
    let l = c.args.source.now.layout.now in
    let nodes = nodes_of c.args.source.now in
    let constants = constants_of c.args.source.now in
    let e = sym (ap (λ (n : Node). n.shape) c.node.ensures) ∙ c.in-Sequence.is in
    c.open_node.ensures.after nodes constants
    ∙ begun_sequence (g.F.Family.means c.args.source.now.family.now) nodes constants c.args.source.now.row.now l.hangs l.numbered c.args.trial c.args.node c.in-Sequence.child _ _ _ _ _ c.of_sequence.ensures e

pub returns-in-Choice-clause-after : goal.returns-in-Choice-clause-after
returns-in-Choice-clause-after g c =
    let l = c.args.source.now.layout.now in
    let nodes = nodes_of c.args.source.now in
    let constants = constants_of c.args.source.now in
    let e = sym (ap (λ (n : Node). n.shape) c.node.ensures) ∙ c.in-Choice.is in
    c.open_node-in-Choice.ensures.after nodes constants
    ∙ begun_choice (g.F.Family.means c.args.source.now.family.now) nodes constants c.args.source.now.row.now l.hangs l.numbered c.args.trial c.args.node c.in-Choice.child _ _ _ _ e

pub returns-in-Optional-clause-after : goal.returns-in-Optional-clause-after
returns-in-Optional-clause-after g c =
    let l = c.args.source.now.layout.now in
    let nodes = nodes_of c.args.source.now in
    let constants = constants_of c.args.source.now in
    let e = sym (ap (λ (n : Node). n.shape) c.node.ensures) ∙ c.in-Optional.is in
    c.open_node-in-Optional.ensures.after nodes constants
    ∙ begun_option (g.F.Family.means c.args.source.now.family.now) nodes constants c.args.source.now.row.now l.hangs l.numbered c.args.trial c.args.node c.in-Optional.child _ _ _ _ e
