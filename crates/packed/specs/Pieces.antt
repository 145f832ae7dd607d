-- Bytes cut into pieces of eight, and a slice that records are loaded into.
use Rattle.std.specs.Prelude.{ℕ, ◌/◌, List, ◌++◌, map, length, take, drop}
use Rattle.std.specs.Simd.{first_chunks}

-- each eight bytes, in order; a shorter rest is left out
abbrev pub pieces : List ℕ → List (List ℕ)
pieces bytes = first_chunks 8 (length bytes / 8) bytes

-- the records that bytes stand for
abbrev pub records : {R : Type 0} → (List ℕ → R) → List ℕ → List R
records decode bytes = map decode (pieces bytes)

-- a slice whose first elements are written over, as many as it has room for
abbrev pub loaded : {R : Type 0} → List R → List R → List R
loaded rs out = take (length out) rs ++ drop (length rs) out
