-- Dates of ten bytes, YYYY-MM-DD.
use Rattle.std.specs.Prelude.{ℕ, ◌+◌, ◌*◌, ◌/◌, ◌%◌, Bool, not, ◌&&◌, List, [], ◌∷◌, ◌++◌, length, ℤ, pos, ◌==◌, nat_lt, slice_index, unsigned_abs}
use Rattle.fields.specs.declared.cause.Cause.{Cause}
use Rattle.fields.specs.declared.cause.Cause.TheVariants.{Short, Form, Range}
use Rattle.fields.specs.declared.cause.Sort.TheVariants.{Numeric}
use Rattle.fields.specs.Meanings.{Meaning, kind}
use Rattle.fields.specs.Digits.{value, padded, digits_at, all_at}
use Rattle.fields.specs.Calendar.{is_date}

-- four digits, 2D, two digits, 2D, two digits
abbrev pub formed : List ℕ → Bool
formed bs = all_at 0 4 bs && (slice_index bs 4 == 45 && (all_at 5 2 bs && (slice_index bs 7 == 45 && all_at 8 2 bs)))

abbrev pub year : List ℕ → ℕ
year bs = value (digits_at 0 4 bs)

abbrev pub month : List ℕ → ℕ
month bs = value (digits_at 5 2 bs)

abbrev pub day : List ℕ → ℕ
day bs = value (digits_at 8 2 bs)

-- fewer than ten bytes; another form; no such date
abbrev pub date_tests : List ℕ → List (Bool × Cause)
date_tests bs = (nat_lt (length bs) 10, Short) ∷ (not (formed bs), Form) ∷ (not (is_date (year bs) (month bs) (day bs)), Range) ∷ []

-- 10,000 × year + 100 × month + day
abbrev pub date_gives : List ℕ → ℕ × ℤ
date_gives bs = (10, pos (10000 * year bs + 100 * month bs + day bs))

-- YYYY-MM-DD
abbrev pub date_spells : ℤ → List ℕ
date_spells z = padded 4 (unsigned_abs z / 10000) ++ (45 ∷ []) ++ padded 2 (unsigned_abs z / 100 % 100) ++ (45 ∷ []) ++ padded 2 (unsigned_abs z % 100)

abbrev pub date : Meaning
date = kind Numeric date_tests date_gives date_spells
