-- Behind a part stand its later siblings, whose numbers are above its own.
use Rattle.std.proofs.Common.{ap, ◌∙◌, arith}
use Rattle.std.specs.Option.{unwrap_or}
use Rattle.layout.specs.declared.node.Node.{Node}
use Rattle.reader.specs.Turns.{moved}
use Rattle.reader.specs.Models.{nodes_of, constants_of, node_in, part_in, parts_from}
use Rattle.reader.proofs.Tables.{next_is, next_later}
use Rattle.reader.proofs.source.Source.behind.Goals as goal

pub moved-requires : goal.moved-requires
moved-requires g c =
    let l = c.args.self.now.layout.now in
    let later = next_later (nodes_of c.args.self.now) (constants_of c.args.self.now) l.hangs l.numbered c.args.part (c.ranges.part.fits) in
    omega (arith, later, ap (λ (n : Node). unwrap_or n.next 65536) c.node.ensures, c.args.f.counted, ap (λ o. unwrap_or o 65536) c.requires.next, c.requires.count)

pub returns : goal.returns
returns g c =
    let s = c.args.self.now in
    let nodes = nodes_of s in
    let constants = constants_of s in
    let is = ap (λ (n : Node). parts_from nodes constants n.next) c.node.ensures ∙ next_is nodes constants s.layout.now.hangs s.layout.now.numbered c.args.part in
    c.moved.ensures nodes constants ∙ ap (λ qs. moved (node_in s c.args.f) (part_in s c.args.part) qs c.args.branch) is
