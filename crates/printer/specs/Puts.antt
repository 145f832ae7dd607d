-- Bytes put at the beginning of a buffer.
use Rattle.std.specs.Prelude.{◌≡◌, ℕ, ◌+◌, ◌<◌, ◌≤◌, if◌then◌else◌, List, length, Some, None, Option, Ok, Err, Result, nat_le}
use Rattle.rows.specs.declared.refusal.Refusal.{Refusal}
use Rattle.rows.specs.declared.refusal.Refusal.TheVariants.{BufferTooShort}
use Rattle.rows.specs.Frames.{laid}
use Rattle.fields.specs.Buffers.{over}

-- an answer, and what the buffer holds then: the bytes' count, with them over the buffer's beginning
abbrev pub filled : List ℕ → List ℕ → Result ℕ Refusal × List ℕ
filled bytes buffer = (Ok (length bytes), laid bytes buffer)

-- or a refusal, and the buffer as it was
abbrev pub refused : List ℕ → Result ℕ Refusal × List ℕ
refused buffer = (Err BufferTooShort, buffer)

-- the bytes are put there if they have room
abbrev pub put : List ℕ → List ℕ → Result ℕ Refusal × List ℕ
put bytes buffer = if nat_le (length bytes) (length buffer) then filled bytes buffer else refused buffer

-- the same without a refusal: none where they have no room, and nothing is said of the buffer then
abbrev pub PutsFirst : List ℕ → List ℕ → Option ℕ → List ℕ → Type 0
PutsFirst bytes old None new = length old < length bytes
PutsFirst bytes old (Some n) new = (n ≡ length bytes) × (length bytes ≤ length old) × (new ≡ laid bytes old)

-- the same from a place on; the answer is the place behind the bytes
abbrev pub PutsAt : List ℕ → ℕ → List ℕ → Option ℕ → List ℕ → Type 0
PutsAt bytes at old None new = length old < at + length bytes
PutsAt bytes at old (Some n) new = (n ≡ at + length bytes) × (n ≤ length old) × (new ≡ over at bytes old)
