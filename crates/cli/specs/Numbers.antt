-- The number that decimal digits stand for.
use Rattle.std.specs.Prelude.{ℕ, ◌+◌, ◌-◌, ◌*◌, Bool, cond, ◌&&◌, List, [], ◌∷◌, Some, None, Option, nat_le, fold}
use Rattle.std.specs.List.{list_all}
use Rattle.rows.specs.Frames.{measured}

-- `0` to `9`
abbrev pub is_digit : ℕ → Bool
is_digit b = nat_le 48 b && nat_le b 57

abbrev pub all_digits : List ℕ → Bool
all_digits = list_all is_digit

-- digits behind a number that is read already
abbrev pub value_from : ℕ → List ℕ → ℕ
value_from = fold (λ v b. v * 10 + (b - 48))

-- one digit or more, and nothing else; a number above the greatest of 64 bits is told as that
abbrev pub number_in : List ℕ → Option ℕ
number_in [] = None
number_in (b ∷ bs) = cond (all_digits (b ∷ bs)) (Some (measured (value_from 0 (b ∷ bs)))) None
