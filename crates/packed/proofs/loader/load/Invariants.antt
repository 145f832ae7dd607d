-- The records so far stand before what the slice held.
use Rattle.std.proofs.Common.{◌≡◌, ◌≤◌, ◌++◌, take, drop}
use Rattle.packed.specs.Pieces.{records}
use Rattle.packed.proofs.loader.load.Given as goal

abbrev pub invariant-loop-i : goal.invariant-loop-i
invariant-loop-i g l = (l.i ≤ l.count) × (l.out ≡ take l.i (records g.T.Packed.decode l.bytes) ++ drop l.i l.initial.out)
