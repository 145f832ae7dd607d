-- Bytes as a person reads them.
use Rattle.std.specs.Prelude.{ℕ, ◌-◌, Bool, cond, not, ◌&&◌, List, [], ◌∷◌, ◌++◌, length, take, codes, ◌==◌, nat_le}
use Rattle.std.specs.List.{flat_map}
use Rattle.cli.specs.Listings.{plural}
use Rattle.outlines.specs.Words.{hex}

-- from the space to the tilde, the backslash apart
abbrev pub is_plain : ℕ → Bool
is_plain b = nat_le 32 b && (nat_le b 126 && not (b == 92))

-- as it is, or as \xHH
abbrev pub shown_byte : ℕ → List ℕ
shown_byte b = cond (is_plain b) (b ∷ []) (92 ∷ 120 ∷ hex b)

-- how many bytes are not shown
abbrev pub more_words : ℕ → List ℕ
more_words n = cond (n == 0) [] (codes " and " ++ (plural n (codes "byte") ++ codes " more"))

-- the first 64 bytes between quotes, and how many more follow
abbrev pub shown : List ℕ → List ℕ
shown bytes = codes "'" ++ (flat_map shown_byte (take 64 bytes) ++ (codes "'" ++ more_words (length bytes - 64)))
