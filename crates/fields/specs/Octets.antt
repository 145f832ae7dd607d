-- The kinds of the binary family: numbers of a fixed count of bytes, most significant first, and kept bytes.
use Rattle.std.specs.Prelude.{ℕ, suc, ◌-◌, ◌*◌, ◌^◌, Bool, cond, ◌&&◌, List, [], ◌∷◌, length, take, ℤ, pos, negsuc, ◌==◌, nat_le, nat_lt, unsigned_abs}
use Rattle.fields.specs.Places.{number_from, places_from}
use Rattle.fields.specs.declared.cause.Cause.{Cause}
use Rattle.fields.specs.declared.cause.Cause.TheVariants.{Short}
use Rattle.fields.specs.declared.cause.Sort.TheVariants.{Numeric, Kept}
use Rattle.fields.specs.Meanings.{Meaning, kind, unknown}

-- the number that bytes make
abbrev pub big : List ℕ → ℕ
big bs = number_from 256 0 0 bs

-- the last w bytes of n
abbrev pub octets : ℕ → ℕ → List ℕ
octets w n = places_from 256 0 w n

-- two's complement below a power of two, and back
abbrev pub twos : ℕ → ℕ → ℤ
twos full n = cond (nat_lt (2 * n) full) (pos n) (negsuc (full - suc n))

abbrev pub of_twos : ℕ → ℤ → ℕ
of_twos full (pos n) = n
of_twos full (negsuc n) = full - suc n

-- fewer than p bytes
abbrev pub lacking : ℕ → List ℕ → List (Bool × Cause)
lacking p bs = (nat_lt (length bs) p, Short) ∷ []

abbrev pub unsigned : ℕ → Meaning
unsigned p = kind Numeric (lacking p) (λ bs. (p, pos (big (take p bs)))) (λ z. octets p (unsigned_abs z))

abbrev pub complement : ℕ → Meaning
complement p = kind Numeric (lacking p) (λ bs. (p, twos (256 ^ p) (big (take p bs)))) (λ z. octets p (of_twos (256 ^ p) z))

abbrev pub stored : ℕ → Meaning
stored p = kind Kept (lacking p) (λ _. (p, pos p)) (λ _. [])

-- one to four bytes
abbrev pub few : ℕ → Bool
few p = nat_le 1 p && nat_le p 4

-- 1 unsigned, 2 two's complement, 3 kept bytes
abbrev pub binary_means : ℕ → ℕ → Meaning
binary_means k p =
    cond (k == 1 && few p) (unsigned p)
    (cond (k == 2 && few p) (complement p)
    (cond (k == 3 && (nat_le 1 p && nat_le p 255)) (stored p) unknown))
