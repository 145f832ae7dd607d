-- What comes of the open nodes is the reading of the root, and each turn leaves less to do.
use Rattle.std.proofs.Common.{◌≡◌, None, true, vec_capacity, vec_items}
use Rattle.reader.specs.Models.{nodes_of, constants_of, state_in, innermost_in}
use Rattle.reader.specs.Resuming.{Going}
use Rattle.reader.specs.Plain.{PlainIn}
use Rattle.reader.proofs.Loads.{load}
use Rattle.reader.proofs.reader.Reader.read_root.Given as goal

abbrev pub invariant-loop-self : goal.invariant-loop-self
invariant-loop-self g l =
    Going (g.F.Family.means l.source.family.now) (nodes_of l.source) l.source.row.now (constants_of l.source) (innermost_in l.source l.innermost (state_in l.source l.self (vec_items l.lines)))
    × (vec_capacity l.lines ≡ vec_capacity l.initial.lines)
    × (l.plain ≡ true → (l.innermost ≡ None) × PlainIn g.F.Family l.source (vec_items l.lines))

abbrev pub decreases-loop-self : goal.decreases-loop-self
decreases-loop-self g l = load (innermost_in l.source l.innermost (state_in l.source l.self (vec_items l.lines)))
