-- The last turn of the root, of which all lines are plain.
use Rattle.std.proofs.Common.{◌+◌, [], sym, refl, ap, ◌∙◌, subst, vec_items}
use Rattle.reader.specs.declared.open.Told.TheVariants.{Clean}
use Rattle.reader.specs.Turns.{state}
use Rattle.reader.specs.Models.{nodes_of, constants_of, node_in, stack_of, parts_from}
use Rattle.reader.specs.Plain.{Plain}
use Rattle.reader.specs.Resuming.{Going}
use Rattle.reader.proofs.PlainLines.{plain_set, plain_drop, plain_overall}
use Rattle.reader.proofs.Straight.{ended}
use Rattle.reader.proofs.Whole.{goes}
use Rattle.reader.proofs.reader.Reader.read_straight.Goals as goal

pub returns-then-is_at_end-clause-going : goal.returns-then-is_at_end-clause-going
returns-then-is_at_end-clause-going g c =
    let s = c.args.source.now in
    let nodes = nodes_of s in
    let constants = constants_of s in
    let means = g.F.Family.means s.family.now in
    let m = c.read_leaves-plain.new.self in
    let f = c.read_leaves-plain.result.0 in
    let ls = vec_items c.read_leaves-plain.new.lines in
    let fs = stack_of nodes constants (vec_items m.stack) in
    let plain = c.read_leaves-plain.ensures.plain c.if-plain.true c.requires.plain in
    let end = c.is_at_end.ensures c.if-is_at_end.true in
    let good = plain_overall means nodes _ (plain_drop means nodes (f.at + 1) ls plain) in
    subst (Going means nodes s.row.now constants)
    (ended means nodes s.row.now (node_in s f) fs ls m.place m.reach end.0 (ap (parts_from nodes constants) end.1) (ap (stack_of nodes constants) end.2) good m.told end.3
    ∙ sym (ap (λ xs. state [] xs m.place Clean m.reach) (c.complete.ensures.after nodes constants)))
    (goes means nodes constants s.row.now (g.met.F.Family.lawful s.family.now) c.requires.bytes (node_in s f) fs ls m.place m.reach m.told c.read_leaves-plain.ensures.going)

pub returns-then-is_at_end-clause-plain : goal.returns-then-is_at_end-clause-plain
returns-then-is_at_end-clause-plain g c = λ _.
    let s = c.args.source.now in
    let nodes = nodes_of s in
    let constants = constants_of s in
    let means = g.F.Family.means s.family.now in
    let f = c.read_leaves-plain.result.0 in
    let ls = vec_items c.read_leaves-plain.new.lines in
    let plain = c.read_leaves-plain.ensures.plain c.if-plain.true c.requires.plain in
    let end = c.is_at_end.ensures c.if-is_at_end.true in
    (refl, subst (Plain means nodes) (sym (c.complete.ensures.after nodes constants)) (plain_set means nodes ls f.at _ plain (record { sound = refl; textless = end.4 })))
