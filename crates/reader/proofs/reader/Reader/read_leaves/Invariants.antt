-- What comes of the open nodes is the reading of the root, plain lines stay plain, and fewer parts are left.
use Rattle.std.proofs.Common.{◌≡◌, ◌<◌, true, vec_capacity, vec_items}
use Rattle.std.specs.Option.{unwrap_or}
use Rattle.reader.specs.Models.{nodes_of, constants_of, parts_from}
use Rattle.reader.specs.Resuming.{GoingIn}
use Rattle.reader.specs.Plain.{PlainIn}
use Rattle.reader.proofs.Loads.{sizes}
use Rattle.reader.proofs.Straight.{going_on}
use Rattle.reader.proofs.reader.Reader.read_leaves.Given as goal

abbrev pub invariant-loop-rest : goal.invariant-loop-rest
invariant-loop-rest g l =
    GoingIn g.F.Family l.source (going_on l.source l.self l.f l.last l.rest (vec_items l.lines) l.place)
    × (l.f.branch < unwrap_or l.rest 65536)
    × (l.plain ≡ true → PlainIn g.F.Family l.source (vec_items l.initial.lines) → PlainIn g.F.Family l.source (vec_items l.lines))
    × (vec_capacity l.lines ≡ vec_capacity l.initial.lines)

abbrev pub decreases-loop-rest : goal.decreases-loop-rest
decreases-loop-rest g l = sizes (parts_from (nodes_of l.source) (constants_of l.source) l.rest)
