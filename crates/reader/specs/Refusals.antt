-- Which rows are not read, and why.
use Rattle.std.specs.Prelude.{ℕ, Bool, true, false, List, length, ℤ, Some, None, Ok, Err, Option, Result, nat_lt, codes}
use Rattle.fields.specs.Meanings.{Meaning}
use Rattle.layout.specs.declared.node.Node.{Node}
use Rattle.report.specs.Reports.{reach}
use Rattle.reader.specs.declared.refusal.Refusal.{Refusal}
use Rattle.reader.specs.declared.refusal.Refusal.TheVariants.{RowTooLong, TooManyLines}

abbrev pub number_of : Refusal → ℕ
number_of RowTooLong = 9
number_of TooManyLines = 10

-- what is printed of each
abbrev pub text_of : Refusal → List ℕ
text_of RowTooLong = codes "a row has more than 4096 bytes"
text_of TooManyLines = codes "a report would have more than 512 lines at one time"

-- where the test holds, that refusal; else what the later ones say
abbrev pub or_else : Bool → Refusal → Option Refusal → Option Refusal
or_else true e later = Some e
or_else false e later = later

-- a row above 4,096 bytes, and then one whose reading reaches above 512 lines
abbrev pub refusal : (ℕ → ℕ → Meaning) → List Node → List ℤ → List ℕ → Option Refusal
refusal means nodes constants row = or_else (nat_lt 4096 (length row)) RowTooLong (or_else (nat_lt 512 (reach means nodes constants row)) TooManyLines None)

-- done, or the refusal
abbrev pub answer : Option Refusal → Result (Unit {0}) Refusal
answer None = Ok tt
answer (Some e) = Err e
