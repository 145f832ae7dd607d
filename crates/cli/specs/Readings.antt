-- What `neskvaru field` writes: the number or the kept bytes of a field, or the cause in words.
use Rattle.std.specs.Prelude.{ℕ, List, ◌++◌, ℤ, codes, decimal}
use Rattle.std.specs.Fmt.{signed_decimal}
use Rattle.fields.specs.Causes.{number_of, reason}
use Rattle.fields.specs.declared.cause.Cause.{Cause}
use Rattle.cli.specs.declared.readings.Reading.{Reading}
use Rattle.cli.specs.declared.readings.Reading.TheVariants.{Number, Kept, Fault}

abbrev pub number_line : List ℕ → ℤ → ℕ → ℕ → List ℕ
number_line name number len size = name ++ (codes " " ++ (signed_decimal number ++ (codes ", " ++ (decimal len ++ (codes " of " ++ (decimal size ++ codes " bytes read"))))))

abbrev pub kept_line : List ℕ → ℕ → ℕ → List ℕ
kept_line name len size = name ++ (codes ", " ++ (decimal len ++ (codes " of " ++ (decimal size ++ codes " bytes kept"))))

abbrev pub cause_line : List ℕ → Cause → List ℕ
cause_line name cause = name ++ (codes ": cause " ++ (decimal (number_of cause) ++ (codes ", " ++ reason cause)))

-- how a reading is told
abbrev pub reading_line : Reading → List ℕ
reading_line (Number name number len size) = number_line name.now number len size
reading_line (Kept name len size) = kept_line name.now len size
reading_line (Fault name cause) = cause_line name.now cause
