-- What measuring a frame answers, and what writing one into a buffer answers and leaves.
use Rattle.std.specs.Prelude.{ℕ, min, if◌then◌else◌, ◌&&◌, List, ◌++◌, length, take, drop, Ok, Err, Result, nat_le}
use Rattle.rows.specs.declared.refusal.Refusal.{Refusal}
use Rattle.rows.specs.declared.refusal.Refusal.TheVariants.{BufferTooShort}

-- a length as a number of 64 bits: one above the greatest is told as the greatest
abbrev pub measured : ℕ → ℕ
measured n = min n 18446744073709551615

-- a buffer whose beginning is written over
abbrev pub laid : List ℕ → List ℕ → List ℕ
laid bytes buffer = bytes ++ drop (length bytes) buffer

-- The answer, and what the buffer holds then: the row is the buffer's first n bytes, and its frame goes to the buffer's beginning;
-- a buffer too short for row or frame stays as it was.
abbrev pub framed : (List ℕ → List ℕ) → ℕ → List ℕ → Result ℕ Refusal × List ℕ
framed frame n buffer =
    let bytes = frame (take n buffer) in
    if nat_le n (length buffer) && nat_le (length bytes) (length buffer) then (Ok (length bytes), laid bytes buffer) else (Err BufferTooShort, buffer)
