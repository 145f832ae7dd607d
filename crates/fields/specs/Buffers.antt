-- Bytes written into a buffer.
use Rattle.std.specs.Prelude.{ℕ, cond, List, ◌++◌, length, drop, Ok, Err, Result, nat_le, take}
use Rattle.fields.specs.declared.family.TooShort.{TooShort}

-- a buffer whose beginning is written over with w
abbrev pub laid : List ℕ → List ℕ → List ℕ
laid w buffer = w ++ drop (length w) buffer

-- the same from a place on
abbrev pub over : ℕ → List ℕ → List ℕ → List ℕ
over at w buffer = take at buffer ++ laid w (drop at buffer)

-- what writing w answers and leaves: its length and the buffer with w at its beginning, or a refusal and the buffer as it was where w has no room
abbrev pub written : List ℕ → List ℕ → Result ℕ TooShort × List ℕ
written w buffer = cond (nat_le (length w) (length buffer)) (Ok (length w), laid w buffer) (Err record {}, buffer)
