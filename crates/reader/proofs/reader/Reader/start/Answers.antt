-- The root's beginning.
use Rattle.std.proofs.Common.{false, [], ◌∷◌, ◌++◌, sym, refl, ap, ap₂, ◌∙◌, subst, vec_items, arith}
use Rattle.layout.specs.declared.node.Node.{Node}
use Rattle.layout.specs.Trees.{tree_of}
use Rattle.layout.proofs.LoadLaws.{sound_tree}
use Rattle.reader.specs.declared.open.Way.TheVariants as ways
use Rattle.report.specs.Lines.{begun}
use Rattle.reader.specs.Turns.{State, begin}
use Rattle.reader.specs.Plain.{Plain}
use Rattle.reader.proofs.PlainLines.{begun_plain}
use Rattle.reader.specs.Models.{nodes_of, constants_of, stack_of}
use Rattle.reader.specs.Resuming.{Going}
use Rattle.reader.proofs.Begun.{begun_sequence}
use Rattle.reader.proofs.Whole.{begins}
use Rattle.reader.proofs.reader.Reader.start.Goals as goal

pub read_straight-requires-clause-going : goal.read_straight-requires-clause-going
read_straight-requires-clause-going g c =
    let s = c.args.source.now in
    let l = s.layout.now in
    let nodes = nodes_of s in
    let constants = constants_of s in
    let means = g.F.Family.means s.family.now in
    let e = sym (ap (λ (n : Node). n.shape) c.node.ensures) ∙ c.in-Sequence.is in
    let is =
    c.hold_node-f.ensures.after nodes constants
    ∙ begun_sequence means nodes constants s.row.now l.hangs l.numbered false 1 c.in-Sequence.child (stack_of nodes constants (vec_items c.clear.new.self)) (vec_items c.args.lines.now) 0 0 ways.Sequence refl e
    ∙ ap₂ (λ fs ls. begin means nodes s.row.now false (tree_of nodes constants) fs ls 0 0) (ap (stack_of nodes constants) c.clear.ensures.items) c.requires.none in
    subst (Going means nodes s.row.now constants) (sym is)
    (begins means nodes constants s.row.now (g.met.F.Family.lawful s.family.now) c.requires.bytes (sound_tree 16 nodes constants (omega (arith, l.few.0, l.nodes.ok.0)) l.hangs).shallow)

pub read_straight-requires-clause-plain : goal.read_straight-requires-clause-plain
read_straight-requires-clause-plain g c =
    let s = c.args.source.now in
    let nodes = nodes_of s in
    let is = ap (λ (x : State). x.lines) (c.hold_node-f.ensures.after nodes (constants_of s)) ∙ ap (λ ls. ls ++ begun 1 0 ∷ []) c.requires.none in
    subst (Plain (g.F.Family.means s.family.now) nodes) (sym is) (begun_plain (g.F.Family.means s.family.now) nodes 1 0)

pub begin_root-requires-clause-nest : goal.begin_root-requires-clause-nest
begin_root-requires-clause-nest g c =
    let l = c.args.source.now.layout.now in
    omega (arith, c.clear.ensures.len, (sound_tree 16 (nodes_of c.args.source.now) (constants_of c.args.source.now) (omega (arith, l.few.0, l.nodes.ok.0)) l.hangs).shallow)

pub returns-in_default-clause-going : goal.returns-in_default-clause-going
returns-in_default-clause-going g c =
    let s = c.args.source.now in
    let l = s.layout.now in
    let nodes = nodes_of s in
    let constants = constants_of s in
    let means = g.F.Family.means s.family.now in
    let is =
    c.begin_root.ensures.after
    ∙ ap₂ (λ fs ls. begin means nodes s.row.now false (tree_of nodes constants) fs ls 0 0) (ap (stack_of nodes constants) c.clear.ensures.items) c.requires.none in
    subst (Going means nodes s.row.now constants) (sym is)
    (begins means nodes constants s.row.now (g.met.F.Family.lawful s.family.now) c.requires.bytes (sound_tree 16 nodes constants (omega (arith, l.few.0, l.nodes.ok.0)) l.hangs).shallow)
