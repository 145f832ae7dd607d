-- Numbers side by side in one number, each of so many bits, the most significant first.
use Rattle.std.specs.Prelude.{ℕ, ◌+◌, ◌*◌, ◌/◌, ◌%◌, ◌^◌, Bool, true, ◌&&◌, List, [], ◌∷◌, nat_lt}

-- how many bits widths make together
abbrev pub total : List ℕ → ℕ
total [] = 0
total (w ∷ ws) = w + total ws

-- the fields of n: each has w bits, above those of the fields that follow
abbrev pub split : List ℕ → ℕ → List ℕ
split [] n = []
split (w ∷ ws) n = n / 2 ^ total ws % 2 ^ w ∷ split ws n

-- the number whose fields these are
abbrev pub joined : List ℕ → List ℕ → ℕ
joined [] vs = 0
joined (w ∷ ws) [] = 0
joined (w ∷ ws) (v ∷ vs) = v * 2 ^ total ws + joined ws vs

-- whether each fits its bits
abbrev pub fitting : List ℕ → List ℕ → Bool
fitting [] vs = true
fitting (w ∷ ws) [] = true
fitting (w ∷ ws) (v ∷ vs) = nat_lt v (2 ^ w) && fitting ws vs
