-- No byte before this one is 0A.
use Rattle.memchr.specs.Find.{Nowhere, Passes, is_byte}
use Rattle.rows.proofs.newline.near_newline.Given as goal

abbrev pub invariant-loop-i : goal.invariant-loop-i
invariant-loop-i l = Nowhere (Passes (is_byte 10) l.rest) 0 l.i
