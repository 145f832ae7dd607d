-- The depths of what hangs on the nodes so far are noted.
use Rattle.std.proofs.Common.{◌≡◌, length}
use Rattle.layout.specs.Shapes.{links_in}
use Rattle.layout.proofs.DepthLoop.{Noted}
use Rattle.layout.proofs.levels.is_too_deep.Given as goal

abbrev pub invariant-loop-i : goal.invariant-loop-i
invariant-loop-i l = (length l.depths ≡ 201) × Noted 16 (links_in l.nodes) l.depths l.i
