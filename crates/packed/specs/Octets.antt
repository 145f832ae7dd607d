-- Eight bytes as a number, the most significant first, and back.
use Rattle.std.specs.Prelude.{ℕ, List}
use Rattle.fields.specs.Octets.{big as big_of, octets as octets_of}

-- the number that bytes make
abbrev pub big : List ℕ → ℕ
big bytes = big_of bytes

-- the eight bytes of a number
abbrev pub octets : ℕ → List ℕ
octets n = octets_of 8 n
