-- Runs of decimal digits, the number that digits write, and digits of a fixed width.
use Rattle.std.specs.Prelude.{◌≡◌, ℕ, Bool, ◌&&◌, List, length, take, drop, nat_le}
use Rattle.std.specs.List.{prefix_len}
use Rattle.fields.specs.Places.{number_from, places_from}

abbrev pub is_digit : ℕ → Bool
is_digit b = nat_le 48 b && nat_le b 57

-- how long the longest run of digits at the beginning is
abbrev pub run : List ℕ → ℕ
run bs = prefix_len is_digit bs

-- every byte is a digit
abbrev pub AreDigits : List ℕ → Type 0
AreDigits ds = run ds ≡ length ds

-- the number that digits write, after those of n
abbrev pub value_on : ℕ → List ℕ → ℕ
value_on n ds = number_from 10 48 n ds

abbrev pub value : List ℕ → ℕ
value ds = value_on 0 ds

-- the last w digits of n
abbrev pub padded : ℕ → ℕ → List ℕ
padded w n = places_from 10 48 w n

-- n bytes at a place
abbrev pub digits_at : ℕ → ℕ → List ℕ → List ℕ
digits_at at n bs = take n (drop at bs)

-- at least n digits stand at a place
abbrev pub all_at : ℕ → ℕ → List ℕ → Bool
all_at at n bs = nat_le n (run (drop at bs))
