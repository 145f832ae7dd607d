-- Numbers written with places in a base, most significant first.
use Rattle.std.specs.Prelude.{ℕ, zero, suc, ◌+◌, ◌-◌, ◌*◌, ◌/◌, ◌%◌, List, [], ◌∷◌, ◌++◌}

-- the number that bytes make, after those of n; each byte stands for what `worth` says
abbrev pub number_on : ℕ → (ℕ → ℕ) → ℕ → List ℕ → ℕ
number_on base worth n [] = n
number_on base worth n (b ∷ bs) = number_on base worth (n * base + worth b) bs

-- the last w places of n, each as the byte that `byte` says
abbrev pub places : ℕ → (ℕ → ℕ) → ℕ → ℕ → List ℕ
places base byte zero n = []
places base byte (suc w) n = places base byte w (n / base) ++ (byte (n % base) ∷ [])

-- the same where the bytes follow one another from `first` on, the byte of place 0
abbrev pub number_from : ℕ → ℕ → ℕ → List ℕ → ℕ
number_from base first = number_on base (λ b. b - first)

abbrev pub places_from : ℕ → ℕ → ℕ → ℕ → List ℕ
places_from base first = places base (λ d. first + d)
