-- The number of each refusal, and what it means in words.
use Rattle.std.specs.Prelude.{ℕ, List, codes}
use Rattle.rows.specs.declared.refusal.Refusal.{Refusal}
use Rattle.rows.specs.declared.refusal.Refusal.TheVariants.{FileTooLong, OutOfRange, BufferTooShort}

abbrev pub number_of : Refusal → ℕ
number_of FileTooLong = 8
number_of OutOfRange = 11
number_of BufferTooShort = 15

abbrev pub reason : Refusal → List ℕ
reason FileTooLong = codes "a file has more than 16777216 bytes"
reason OutOfRange = codes "a width is not 1 to 4096, or a sample is not 0 to 16777216"
reason BufferTooShort = codes "a buffer is too short"
