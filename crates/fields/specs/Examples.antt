-- Worked readings: an amount, and two second spellings.
use Rattle.std.specs.Prelude.{◌≡◌, ℕ, List, pos, Ok, Err, codes}
use Rattle.fields.specs.declared.cause.Cause.TheVariants.{SecondSpelling}
use Rattle.fields.specs.Meanings.{Reading}
use Rattle.fields.specs.Kinds.{ascii_means}

-- what the ASCII family reads
abbrev pub read : ℕ → ℕ → List ℕ → Reading
read k p bs = (ascii_means k p).reads bs

pub record ReadExamples : Type 0 where
  pub cents : read 2 2 (codes "0.05") ≡ Ok (4, pos 5)
  pub minus_zero : read 2 2 (codes "-0.00") ≡ Err SecondSpelling
  pub leading_zeros : read 1 0 (codes "007") ≡ Err SecondSpelling
