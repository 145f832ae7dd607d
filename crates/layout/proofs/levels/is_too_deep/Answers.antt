-- One node more, one that lies too deep, and the end.
use Rattle.std.proofs.Common.{◌≡◌, ℕ, ◌+◌, ◌<◌, ◌≤◌, List, length, get_or, set, sym, refl, ap, ◌∙◌, subst, arith}
use Rattle.std.proofs.lemmas.List.{length-map, length-set}
use Rattle.packed.specs.declared.record.NodeRecord.{NodeRecord}
use Rattle.layout.specs.Links.{Link, link_at}
use Rattle.layout.specs.Shapes.{link_in, links_in}
use Rattle.layout.proofs.Once.{OneTree, tree_in}
use Rattle.layout.proofs.Views.{blank, link_next}
use Rattle.layout.proofs.DepthLoop.{Noted, noted_none, noted_more, noted_deep, noted_all}
use Rattle.layout.proofs.levels.is_too_deep.Goals as goal

-- the links of a record stay in a table that has room for its nodes
stays : (rs : List NodeRecord) → OneTree (links_in rs) → length rs ≤ 200 → (i : ℕ) → i < length rs → ((get_or rs i blank).child < 201) × ((get_or rs i blank).next < 201)
stays rs tree few i h =
    let long = length-map rs link_in in
    let node = tree.rises (i + 1) (omega arith) (omega arith) in
    let link = link_next rs i in
    (omega (arith, node.child.0, ap (λ (l : Link). l.child) link), omega (arith, node.next.0, ap (λ (l : Link). l.next) link))

pub loop-i-init : goal.loop-i-init
loop-i-init c =
    let rs = c.args.nodes.now in
    let tree = tree_in rs c.requires.some c.requires.rising c.requires.once in
    (refl, noted_none 16 (links_in rs) tree _ (omega (arith, length-map rs link_in, c.requires.few)) refl)

pub returns-then-depth-gt-DEEPEST : goal.returns-then-depth-gt-DEEPEST
returns-then-depth-gt-DEEPEST c =
    let rs = c.args.nodes.now in
    let tree = tree_in rs c.requires.some c.requires.rising c.requires.once in
    sym (noted_deep 16 (links_in rs) tree c.loop-i.depths c.loop-i.i c.loop-i.invariant.1 (omega (arith, length-map rs link_in, c.loop-i-test.true)) c.if-depth-gt-DEEPEST.true)

pub bounds-depths-from : goal.bounds-depths-from
bounds-depths-from c =
    let rs = c.args.nodes.now in
    omega (arith, c.from.ensures, (stays rs (tree_in rs c.requires.some c.requires.rising c.requires.once) c.requires.few c.loop-i.i c.loop-i-test.true).0)

pub bounds-depths-from-in-loop-i : goal.bounds-depths-from-in-loop-i
bounds-depths-from-in-loop-i c =
    let rs = c.args.nodes.now in
    omega (arith, c.from-in-loop-i.ensures, (stays rs (tree_in rs c.requires.some c.requires.rising c.requires.once) c.requires.few c.loop-i.i c.loop-i-test.true).1)

pub offset_bounds-depths-from : goal.offset_bounds-depths-from
offset_bounds-depths-from c = omega (arith, bounds-depths-from c)

pub offset_bounds-depths-from-in-loop-i : goal.offset_bounds-depths-from-in-loop-i
offset_bounds-depths-from-in-loop-i c = omega (arith, bounds-depths-from-in-loop-i c)

pub loop-i-preserved : goal.loop-i-preserved
loop-i-preserved c =
    let rs = c.args.nodes.now in
    let ls = links_in rs in
    let ds = c.loop-i.depths in
    let i = c.loop-i.i in
    let d = get_or ds (i + 1) 0 in
    let tree = tree_in rs c.requires.some c.requires.rising c.requires.once in
    let link = link_next rs i in
    let first = length-set ds c.from.result (d + 1) in
    let child : (link_at ls (i + 1)).child ≡ c.from.result = ap (λ (l : Link). l.child) link ∙ sym c.from.ensures in
    let next : (link_at ls (i + 1)).next ≡ c.from-in-loop-i.result = ap (λ (l : Link). l.next) link ∙ sym c.from-in-loop-i.ensures in
    let more = noted_more 16 ls tree ds i c.loop-i.invariant.1 (omega (arith, length-map rs link_in, c.loop-i-test.true)) c.if-depth-gt-DEEPEST.false in (
      length-set (set ds c.from.result (d + 1)) c.from-in-loop-i.result d ∙ first ∙ c.loop-i.invariant.0,
      subst (λ x. Noted 16 ls (set (set ds c.from.result (d + 1)) x d) (i + 1)) next (subst (λ k. Noted 16 ls (set (set ds k (d + 1)) (link_at ls (i + 1)).next d) (i + 1)) child more),
    )

pub returns : goal.returns
returns c =
    let rs = c.args.nodes.now in
    let tree = tree_in rs c.requires.some c.requires.rising c.requires.once in
    sym (noted_all 16 (links_in rs) tree c.loop-i.depths c.loop-i.i c.loop-i.invariant.1 (omega (arith, length-map rs link_in, c.loop-i-test.false)))
