-- The places written so far stand at the end.
use Rattle.std.proofs.Common.{◌≡◌, ◌++◌, length, drop}
use Rattle.fields.specs.Places.{places_from}
use Rattle.fields.proofs.digits.fill.Given as goal

abbrev pub invariant-loop-i : goal.invariant-loop-i
invariant-loop-i g l = (length l.out ≡ length l.fn.out) × (places_from g.row.BASE g.row.FIRST (length l.fn.out) l.n ≡ places_from g.row.BASE g.row.FIRST l.i l.left ++ drop l.i l.out)
