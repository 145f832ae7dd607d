-- Below a node and behind it, numbers rise; its outline is made of its own entry, of what is below, and of its later siblings.
use Rattle.std.proofs.Common.{◌≡◌, ℕ, ◌-◌, ◌<◌, false, Some, ◌∷◌, [], ◌++◌, Option, length, vec_items, sym, ap, ◌∙◌, subst, arith}
use Rattle.std.proofs.lemmas.Result.{IfOk-weaker}
use Rattle.layout.specs.declared.node.Node.{Node}
use Rattle.layout.specs.Shapes.{names_none}
use Rattle.layout.specs.Trees.{or_zero, node_at, child_of, child_number, next_number, blank, entry}
use Rattle.layout.proofs.Any.{lacks}
use Rattle.layout.proofs.Rising.{Above, positive}
use Rattle.layout.proofs.TreeLaws.{child_above, child_named, next_above}
use Rattle.layout.proofs.LoadLaws.{sound_rising, left_from, link_falls, outline_more}
use Rattle.layout.proofs.table.Layout.+add_from.Goals as goal

-- a number that is one
set_number : (o : Option ℕ) (i : ℕ) → o ≡ Some i → names_none o ≡ false → 0 < or_zero o
set_number o i e h = subst (λ p. 0 < or_zero p) (sym e) (positive i (subst (λ p. names_none p ≡ false) e h))

pub add_from-requires : goal.add_from-requires
add_from-requires t c =
    let l = c.args.self.now in
    let nodes = vec_items l.nodes in
    let rises = sound_rising 16 nodes l.hangs in
    let i = or_zero c.args.number in
    let e = ap or_zero c.in-Some.is in
    let o = set_number c.args.number c.in-Some.number c.in-Some.is c.requires.named in
    let child = c.child.result in
    let is = c.child.ensures ∙ ap (λ (n : Node). child_of n.shape) (c.node-node.ensures ∙ ap (node_at nodes) (sym e)) in
    let up : Above (length nodes) i (or_zero child) = subst (λ q. Above (length nodes) i (or_zero q)) (sym is) (child_above nodes (vec_items l.constants) rises i o c.requires.inside) in (
      subst (λ m. left_from (length nodes) (or_zero child) < m) c.decreases (link_falls (length nodes) i (or_zero child) o c.requires.inside up),
      (up.0, ((λ p. omega (arith, up.1 p, c.requires.low o)), ap names_none is ∙ child_named nodes (vec_items l.constants) rises i o c.requires.inside)),
    )

pub add_from-requires-2 : goal.add_from-requires-2
add_from-requires-2 t c =
    let l = c.args.self.now in
    let nodes = vec_items l.nodes in
    let i = or_zero c.args.number in
    let e = ap or_zero c.in-Some.is in
    let o = set_number c.args.number c.in-Some.number c.in-Some.is c.requires.named in
    let after = c.node-node.result.next in
    let is = ap (λ (n : Node). n.next) (c.node-node.ensures ∙ ap (node_at nodes) (sym e)) in
    let up : Above (length nodes) i (or_zero after) = subst (λ q. Above (length nodes) i (or_zero q)) (sym is) (next_above nodes (vec_items l.constants) (sound_rising 16 nodes l.hangs) i o c.requires.inside) in (
      subst (λ m. left_from (length nodes) (or_zero after) < m) c.decreases (link_falls (length nodes) i (or_zero after) o c.requires.inside up),
      (up.0, ((λ p. omega (arith, up.1 p, c.requires.low o)), ap names_none is ∙ lacks (λ (n : Node). names_none n.next) nodes l.numbered (i - 1) blank (omega (arith, c.requires.inside)))),
    )

pub returns : goal.returns
returns t c =
    let l = c.args.self.now in
    let nodes = vec_items l.nodes in
    let out = vec_items c.args.out.now in
    let d = c.args.depth in
    let i = or_zero c.args.number in
    let e = ap or_zero c.in-Some.is in
    let o = set_number c.args.number c.in-Some.number c.in-Some.is c.requires.named in
    let node-is = c.node-node.ensures ∙ ap (node_at nodes) (sym e) in
    IfOk-weaker c.add_from-2.result _ _ (λ _ rest.
    outline_more 16 nodes (vec_items l.constants) out d i (or_zero c.child.result) (or_zero c.node-node.result.next) l.hangs o c.requires.inside
    (ap or_zero c.child.ensures ∙ ap (λ (n : Node). child_number n.shape) node-is)
    (ap next_number node-is)
    (c.in_ok-push.ensures.items ∙ ap (λ k. out ++ entry k d ∷ []) (sym e))
    c.in_ok-add_from.ensures
    rest) c.add_from-2.ensures
