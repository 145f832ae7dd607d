-- Each part that is read is one turn.
use Rattle.std.proofs.Common.{rules, ◌≡◌, ◌<◌, [], ◌∷◌, ◌++◌, length, max, w64, sym, refl, ap, ap₂, ◌∙◌, subst, vec_items, vec_len, arith}
use Rattle.std.proofs.lemmas.Bool.{false≢true, not-true}
use Rattle.std.proofs.lemmas.Int.{to_z-of_z}
use Rattle.std.specs.Option.{unwrap_or}
use Rattle.report.specs.declared.outcome.Outcome.TheVariants.{Good}
use Rattle.report.specs.Lines.{line}
use Rattle.reader.specs.declared.open.Way.TheVariants.{Sequence}
use Rattle.reader.specs.Turns.{Pending, moved, leaf_begun}
use Rattle.reader.specs.Models.{nodes_of, constants_of, node_in, part_in, later_in, parts_from, stack_in, stack_of, under_node}
use Rattle.reader.specs.Resuming.{GoingIn}
use Rattle.reader.specs.Plain.{Plain}
use Rattle.reader.proofs.Tables.{next_is, next_later}
use Rattle.reader.proofs.PlainLines.{plain_more}
use Rattle.reader.proofs.Loads.{sizes, some}
use Rattle.reader.proofs.Straight.{going_on, leaf_on, good_on, under_leaf}
use Rattle.reader.proofs.reader.Reader.read_leaves.Goals as goal

pub returns-in_default-reading-clause-going : goal.returns-in_default-reading-clause-going
returns-in_default-reading-clause-going g c =
    let s = c.args.source.now in
    let nodes = nodes_of s in
    let constants = constants_of s in
    let m = c.loop-rest.self in
    let f = c.args.f in
    let ls = vec_items c.loop-rest.lines in
    let part = c.in-Some.part in
    let p = c.loop-rest.place in
    let x = c.in-Some-leaf.field-0.reading in
    let r = max m.reach (length ls) in
    let way : f.way ≡ Sequence = search rules in
    let before = subst (λ o. GoingIn g.F.Family s (going_on s m f c.loop-rest.last o ls p)) c.in-Some.is c.loop-rest.invariant.0 in
    let behind = c.behind-behind.ensures ∙ ap (λ (h : Pending). moved h (part_in s part) (later_in s part) f.branch) (c.moved.ensures nodes constants) in
    let there = c.go_to.ensures in
    let long : vec_len c.loop-rest.lines ≡ length ls = omega (arith, c.loop-rest.lines.ok.0) in
    let new = c.go_to.new.self in
    subst (GoingIn g.F.Family s)
    (sym (ap (under_node (node_in s c.behind-behind.result)) (c.begin_leaf.ensures.after nodes constants)
    ∙ under_leaf (node_in s c.behind-behind.result) part (stack_in nodes constants new) ls new.place new.reach x
    ∙ ap (λ h. leaf_begun part (h ∷ stack_in nodes constants new) ls new.place new.reach x) behind
    ∙ ap (λ v. leaf_begun part (moved (node_in s f) (part_in s part) (later_in s part) f.branch ∷ stack_of nodes constants (vec_items v)) ls new.place new.reach x) there.0
    ∙ ap₂ (λ q y. leaf_begun part (moved (node_in s f) (part_in s part) (later_in s part) f.branch ∷ stack_in nodes constants m) ls q y x) there.1 (there.3 ∙ ap (max m.reach) (c.len-in_default-reading.ensures ∙ long))))
    (leaf_on s m f g.F.Family (g.met.F.Family.lawful s.family.now) c.requires.bytes way c.loop-rest.last part ls p x c.in-Some-leaf.ensures.begun before)

pub loop-rest-smaller-then-plain : goal.loop-rest-smaller-then-plain
loop-rest-smaller-then-plain g c =
    let s = c.args.source.now in
    let l = s.layout.now in
    let nodes = nodes_of s in
    let constants = constants_of s in
    let part = c.in-Some.part in
    let later = ap (parts_from nodes constants) c.in-Some-leaf.ensures.next ∙ next_is nodes constants l.hangs l.numbered part in
    omega (arith, some (part_in s part), ap sizes later, ap (λ o. sizes (parts_from nodes constants o)) c.in-Some.is)

pub loop-rest-smaller : goal.loop-rest-smaller
loop-rest-smaller g c =
    let s = c.args.source.now in
    let l = s.layout.now in
    let nodes = nodes_of s in
    let constants = constants_of s in
    let part = c.in-Some.part in
    let later = ap (parts_from nodes constants) c.in-Some-leaf.ensures.next ∙ next_is nodes constants l.hangs l.numbered part in
    omega (arith, some (part_in s part), ap sizes later, ap (λ o. sizes (parts_from nodes constants o)) c.in-Some.is)

pub loop-rest-preserved-then-plain : goal.loop-rest-preserved-then-plain
loop-rest-preserved-then-plain g c =
    let s = c.args.source.now in
    let l = s.layout.now in
    let nodes = nodes_of s in
    let constants = constants_of s in
    let means = g.F.Family.means s.family.now in
    let m = c.loop-rest.self in
    let f = c.args.f in
    let ls = vec_items c.loop-rest.lines in
    let part = c.in-Some.part in
    let n = c.in-Ok.length in
    let z = c.in-Ok.number in
    let way : f.way ≡ Sequence = search rules in
    let fits : part < 65536 = search rules in
    let above = next_later nodes constants l.hangs l.numbered part fits in
    let later = ap (parts_from nodes constants) c.in-Some-leaf.ensures.next ∙ next_is nodes constants l.hangs l.numbered part in
    let items = c.push_reserved.ensures.items ∙ ap (λ z. ls ++ line part Good c.loop-rest.place n z ∷ []) (to_z-of_z w64 z (search rules)) in
    let before = subst (λ o. GoingIn g.F.Family s (going_on s m f c.loop-rest.last o ls c.loop-rest.place)) c.in-Some.is c.loop-rest.invariant.0 in (
      good_on s m f g.F.Family (g.met.F.Family.lawful s.family.now) c.requires.bytes way c.loop-rest.last part ls c.loop-rest.place c.in-Some-leaf.field-0.reading c.in-Some-leaf.ensures.begun before n z (vec_items c.push_reserved.new.self) c.in-Some-leaf.field-0.next c.in-Ok.is items later,
      omega (arith, above, c.loop-rest.invariant.1, ap (λ o. unwrap_or o 65536) c.in-Some.is, ap (λ o. unwrap_or o 65536) c.in-Some-leaf.ensures.next),
      λ quiet first.
          subst (Plain means nodes) (sym items)
          (plain_more means nodes ls _ (c.loop-rest.invariant.2 c.if-plain.true first) (record { sound = refl; textless = c.in-Some-leaf.ensures.textless (not-true c.in-Some-leaf.field-0.keeps quiet) n z })),
      c.push_reserved.ensures.capacity ∙ c.loop-rest.invariant.3,
    )

pub loop-rest-preserved : goal.loop-rest-preserved
loop-rest-preserved g c =
    let s = c.args.source.now in
    let l = s.layout.now in
    let nodes = nodes_of s in
    let constants = constants_of s in
    let means = g.F.Family.means s.family.now in
    let m = c.loop-rest.self in
    let f = c.args.f in
    let ls = vec_items c.loop-rest.lines in
    let part = c.in-Some.part in
    let n = c.in-Ok.length in
    let z = c.in-Ok.number in
    let way : f.way ≡ Sequence = search rules in
    let fits : part < 65536 = search rules in
    let above = next_later nodes constants l.hangs l.numbered part fits in
    let later = ap (parts_from nodes constants) c.in-Some-leaf.ensures.next ∙ next_is nodes constants l.hangs l.numbered part in
    let items = c.push_reserved.ensures.items ∙ ap (λ z. ls ++ line part Good c.loop-rest.place n z ∷ []) (to_z-of_z w64 z (search rules)) in
    let before = subst (λ o. GoingIn g.F.Family s (going_on s m f c.loop-rest.last o ls c.loop-rest.place)) c.in-Some.is c.loop-rest.invariant.0 in (
      good_on s m f g.F.Family (g.met.F.Family.lawful s.family.now) c.requires.bytes way c.loop-rest.last part ls c.loop-rest.place c.in-Some-leaf.field-0.reading c.in-Some-leaf.ensures.begun before n z (vec_items c.push_reserved.new.self) c.in-Some-leaf.field-0.next c.in-Ok.is items later,
      omega (arith, above, c.loop-rest.invariant.1, ap (λ o. unwrap_or o 65536) c.in-Some.is, ap (λ o. unwrap_or o 65536) c.in-Some-leaf.ensures.next),
      λ plain first. absurd (false≢true (sym c.if-plain.false ∙ plain)),
      c.push_reserved.ensures.capacity ∙ c.loop-rest.invariant.3,
    )
