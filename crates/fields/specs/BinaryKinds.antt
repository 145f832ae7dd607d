-- The kinds of the binary family, told apart.
use Rattle.std.specs.Prelude.{ℕ, ◌^◌, List, ℤ, pos, Some, None, Option}
use Rattle.fields.specs.declared.binary.BinaryKind.{BinaryKind}
use Rattle.fields.specs.declared.binary.BinaryKind.TheVariants.{Unsigned, Signed, Stored}
use Rattle.fields.specs.declared.cause.Sort.{Sort}
use Rattle.fields.specs.Meanings.{Meaning, unknown}
use Rattle.fields.specs.Octets.{big, twos, unsigned, complement, stored}

-- the same of a kind that is told apart already, or of none
abbrev pub means_as : Option BinaryKind → Meaning
means_as None = unknown
means_as (Some (Unsigned w)) = unsigned w.bytes
means_as (Some (Signed w)) = complement w.bytes
means_as (Some (Stored n)) = stored n

abbrev pub sort_of : Option BinaryKind → Sort
sort_of k = (means_as k).sort

-- how many bytes a field takes, and the number of these bytes
abbrev pub taken_by : BinaryKind → ℕ
taken_by (Unsigned w) = w.bytes
taken_by (Signed w) = w.bytes
taken_by (Stored n) = n

abbrev pub number_as : BinaryKind → List ℕ → ℤ
number_as (Unsigned w) field = pos (big field)
number_as (Signed w) field = twos (256 ^ w.bytes) (big field)
number_as (Stored n) field = pos n
