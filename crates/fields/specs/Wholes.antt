-- Whole numbers: a run of digits.
use Rattle.std.specs.Prelude.{ℕ, Bool, ◌&&◌, List, [], ◌∷◌, length, take, ℤ, pos, decimal, ◌==◌, nat_lt, slice_index, unsigned_abs}
use Rattle.fields.specs.declared.cause.Cause.{Cause}
use Rattle.fields.specs.declared.cause.Cause.TheVariants.{Short, Form, Range, SecondSpelling}
use Rattle.fields.specs.declared.cause.Sort.TheVariants.{Numeric}
use Rattle.fields.specs.Meanings.{Meaning, kind}
use Rattle.fields.specs.Digits.{run, value}

-- a zero leads a run of more than one digit
abbrev pub leads : List ℕ → Bool
leads bs = nat_lt 1 (run bs) && slice_index bs 0 == 48

-- no bytes; no digit first; above 12 digits; a leading zero in a longer run
abbrev pub whole_tests : List ℕ → List (Bool × Cause)
whole_tests bs = ((length bs == 0), Short) ∷ ((run bs == 0), Form) ∷ (nat_lt 12 (run bs), Range) ∷ (leads bs, SecondSpelling) ∷ []

-- the run, and the number that it writes
abbrev pub whole_gives : List ℕ → ℕ × ℤ
whole_gives bs = (run bs, pos (value (take (run bs) bs)))

-- decimal digits without a leading zero
abbrev pub whole_spells : ℤ → List ℕ
whole_spells z = decimal (unsigned_abs z)

abbrev pub whole : Meaning
whole = kind Numeric whole_tests whole_gives whole_spells
