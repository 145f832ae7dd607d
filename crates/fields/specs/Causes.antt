-- The number of a cause, and the cause in words.
use Rattle.std.specs.Prelude.{ℕ, List, codes}
use Rattle.fields.specs.declared.cause.Cause.{Cause}
use Rattle.fields.specs.declared.cause.Cause.TheVariants.{Short, Form, Range, SecondSpelling}

abbrev pub number_of : Cause → ℕ
number_of Short = 1
number_of Form = 2
number_of Range = 3
number_of SecondSpelling = 4

-- a cause in words
abbrev pub reason : Cause → List ℕ
reason Short = codes "the bytes end too soon"
reason Form = codes "the bytes have another form"
reason Range = codes "too large, or no such date"
reason SecondSpelling = codes "a second spelling of the number"
