-- From turn to turn, to the last.
use Rattle.std.proofs.Common.{◌≡◌, false, true, Some, None, Option, sym, ap, ◌∙◌, subst, vec_items, arith}
use Rattle.std.proofs.lemmas.Bool.{false≢true}
use Rattle.reader.specs.declared.open.Open.{Open}
use Rattle.reader.specs.Models.{nodes_of, constants_of, node_in, stack_of, state_in, innermost_in}
use Rattle.reader.specs.Resuming.{Going}
use Rattle.reader.proofs.Whole.{goes, reach_kept}
use Rattle.reader.proofs.Loads.{load, turn_less}
use Rattle.reader.proofs.Stacks.{reach_of}
use Rattle.reader.proofs.reader.Reader.read_root.Goals as goal

none_some : (f : Open) → ◌≡◌ {A = Option Open} None (Some f) → ⊥
none_some f e = false≢true (ap (λ (o : Option Open). elim o [ None ↦ false | Some g ↦ true ]) e)

pub loop-self-smaller : goal.loop-self-smaller
loop-self-smaller g c =
    let s = c.args.source.now in
    let nodes = nodes_of s in
    let m = c.loop-self.self in
    let ls = vec_items c.loop-self.lines in
    let less = turn_less (g.F.Family.means s.family.now) nodes s.row.now (node_in s c.in-Some.f) (stack_of nodes (constants_of s) (vec_items m.stack)) ls m.place m.reach c.in-Some.f.way m.told in
    omega (arith, less, ap load c.step-innermost.ensures.after, ap (λ o. load (innermost_in s o (state_in s m ls))) c.in-Some.is)

pub loop-self-preserved : goal.loop-self-preserved
loop-self-preserved g c =
    let s = c.args.source.now in
    let nodes = nodes_of s in
    let constants = constants_of s in
    let means = g.F.Family.means s.family.now in
    let m = c.loop-self.self in
    let ls = vec_items c.loop-self.lines in
    let fs = stack_of nodes constants (vec_items m.stack) in
    let before = subst (λ o. Going means nodes s.row.now constants (innermost_in s o (state_in s m ls))) c.in-Some.is c.loop-self.invariant.0 in (
      subst (Going means nodes s.row.now constants) (sym c.step-innermost.ensures.after)
          (goes means nodes constants s.row.now (g.met.F.Family.lawful s.family.now) c.requires.bytes (node_in s c.in-Some.f) fs ls m.place m.reach m.told before),
      c.step-innermost.ensures.capacity ∙ c.loop-self.invariant.1,
      λ plain. absurd (none_some c.in-Some.f (sym (c.loop-self.invariant.2 plain).0 ∙ c.in-Some.is)),
    )

pub returns-clause-cases : goal.returns-clause-cases
returns-clause-cases g c =
    let s = c.args.source.now in
    let nodes = nodes_of s in
    let constants = constants_of s in
    let means = g.F.Family.means s.family.now in
    let x = innermost_in s c.loop-self.innermost (state_in s c.loop-self.self (vec_items c.loop-self.lines)) in
    let high = reach_kept means nodes constants s.row.now x.stack x.lines x.place x.told x.reach in
    let kept = reach_of s c.loop-self.innermost (state_in s c.loop-self.self (vec_items c.loop-self.lines)) in
    omega (arith, c.loop-self-test.false, high, kept, ap (λ d. d.reach) c.loop-self.invariant.0.same)
