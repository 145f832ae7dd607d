-- The cause that a line's number stands for.
use Rattle.std.specs.Prelude.{cond, ℤ, pos, int_le}
use Rattle.fields.specs.declared.cause.Cause.{Cause}
use Rattle.fields.specs.declared.cause.Cause.TheVariants.{Short, Form, Range, SecondSpelling}

-- 1 to 4; every number has a meaning here, also one that no line has
abbrev pub cause_of : ℤ → Cause
cause_of z = cond (int_le z (pos 1)) Short (cond (int_le z (pos 2)) Form (cond (int_le z (pos 3)) Range SecondSpelling))
