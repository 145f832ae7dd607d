-- Amounts: an optional minus, a run of digits and, for p above 0, a point and a run of exactly p digits.
use Rattle.std.specs.Prelude.{ℕ, zero, suc, ◌+◌, ◌*◌, ◌/◌, ◌%◌, ◌^◌, Bool, true, false, cond, not, ◌&&◌, ◌||◌, List, [], ◌∷◌, ◌++◌, length, take, drop, ℤ, pos, negsuc, neg_ℤ, decimal, ◌==◌, nat_lt, slice_index, unsigned_abs}
use Rattle.fields.specs.declared.cause.Cause.{Cause}
use Rattle.fields.specs.declared.cause.Cause.TheVariants.{Short, Form, Range, SecondSpelling}
use Rattle.fields.specs.declared.cause.Sort.TheVariants.{Numeric}
use Rattle.fields.specs.Meanings.{Meaning, kind}
use Rattle.fields.specs.Digits.{run, value, padded}
use Rattle.fields.specs.Wholes.{leads}

-- a byte 2D stands first
abbrev pub minus : List ℕ → Bool
minus bs = slice_index bs 0 == 45

-- how long the sign is
abbrev pub sign : List ℕ → ℕ
sign bs = cond (minus bs) 1 0

-- what follows the sign
abbrev pub body : List ℕ → List ℕ
body bs = drop (sign bs) bs

-- what follows the first run
abbrev pub rest : List ℕ → List ℕ
rest bs = drop (run bs) bs

-- a point and a run of exactly p digits, or nothing where p is 0
abbrev pub pointed : ℕ → List ℕ → Bool
pointed zero bs = true
pointed (suc p) bs = slice_index bs 0 == 46 && run (drop 1 bs) == suc p

-- how long the point and its digits are
abbrev pub point_len : ℕ → ℕ
point_len zero = 0
point_len (suc p) = suc (suc p)

-- a run of digits, and the decimals
abbrev pub formed : ℕ → List ℕ → Bool
formed p bs = nat_lt 0 (run bs) && pointed p (rest bs)

-- the digits as one number, in units of the last decimal
abbrev pub units : ℕ → List ℕ → ℕ
units p bs = value (take (run bs) bs) * 10 ^ p + value (take p (drop 1 (rest bs)))

-- a number with its sign
abbrev pub signed : Bool → ℕ → ℤ
signed true n = neg_ℤ (pos n)
signed false n = pos n

-- no bytes; another form; above 12 digits in all; a leading zero in a longer first run, or minus zero
abbrev pub amount_tests : ℕ → List ℕ → List (Bool × Cause)
amount_tests p bs =
    ((length bs == 0), Short)
    ∷ (not (formed p (body bs)), Form)
    ∷ (nat_lt 12 (run (body bs) + p), Range)
    ∷ (leads (body bs) || (minus bs && units p (body bs) == 0), SecondSpelling)
    ∷ []

-- the sign, the run and the decimals, and the number that they write
abbrev pub amount_gives : ℕ → List ℕ → ℕ × ℤ
amount_gives p bs = (sign bs + (run (body bs) + point_len p), signed (minus bs) (units p (body bs)))

-- a sign for a number below zero
abbrev pub minus_of : ℤ → List ℕ
minus_of (pos n) = []
minus_of (negsuc n) = 45 ∷ []

-- the point and the last p digits
abbrev pub point_of : ℕ → ℕ → List ℕ
point_of zero n = []
point_of (suc p) n = 46 ∷ padded (suc p) (n % 10 ^ suc p)

-- the sign, the digits before the point, and the decimals
abbrev pub amount_spells : ℕ → ℤ → List ℕ
amount_spells p z = minus_of z ++ (decimal (unsigned_abs z / 10 ^ p) ++ point_of p (unsigned_abs z))

abbrev pub amount : ℕ → Meaning
amount p = kind Numeric (amount_tests p) (amount_gives p) (amount_spells p)
