-- Bytes in hexadecimal digits.
use Rattle.std.specs.Prelude.{ℕ, ◌/◌, ◌%◌, false, List, [], ◌∷◌, ◌++◌, codes}
use Rattle.std.specs.List.{flat_map}
use Rattle.std.specs.Fmt.{digit_glyph}

-- a byte as two digits
abbrev pub hex : ℕ → List ℕ
hex byte = digit_glyph false (byte / 16) ∷ digit_glyph false (byte % 16) ∷ []

-- behind the word `kept-text`: a space and the bytes, or nothing
abbrev pub kept_words : List ℕ → List ℕ
kept_words [] = []
kept_words (b ∷ bs) = codes " " ++ flat_map hex (b ∷ bs)
