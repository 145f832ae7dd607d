-- What a kind with its parameter means: its sort, what reading gives, and how a number is spelled.
use Rattle.std.specs.Prelude.{ℕ, ◌+◌, Bool, true, false, List, [], ◌∷◌, ℤ, Ok, Err, Result}
use Rattle.fields.specs.declared.cause.Cause.{Cause}
use Rattle.fields.specs.declared.cause.Cause.TheVariants.{Form}
use Rattle.fields.specs.declared.cause.Sort.{Sort}
use Rattle.fields.specs.declared.cause.Sort.TheVariants.{Unknown}

-- a length and a number, or a cause
abbrev pub Reading : Type 0
Reading = Result (ℕ × ℤ) Cause

pub record Meaning : Type 0 where
  pub sort : Sort
  -- what reading at the start of some bytes gives
  pub reads : List ℕ → Reading
  -- the bytes of a number
  pub spells : ℤ → List ℕ

-- where the place is after a reading: behind the field, or, where it faults, as it was
abbrev pub moved : ℕ → Reading → ℕ
moved at (Ok x) = at + x.0
moved at (Err c) = at

-- the first test that holds answers its cause, and if none does, the reading is good
abbrev pub refuse : Bool → Cause → Reading → Reading
refuse true c r = Err c
refuse false c r = r

abbrev pub tried : List (Bool × Cause) → ℕ × ℤ → Reading
tried [] good = Ok good
tried (t ∷ ts) good = refuse t.0 t.1 (tried ts good)

-- a kind that is read by tests in order
abbrev pub kind : Sort → (List ℕ → List (Bool × Cause)) → (List ℕ → ℕ × ℤ) → (ℤ → List ℕ) → Meaning
kind sort tests gives spells = record { sort = sort; reads = λ bs. tried (tests bs) (gives bs); spells = spells }

-- a kind that the family does not know
abbrev pub unknown : Meaning
unknown = record { sort = Unknown; reads = λ _. Err Form; spells = λ _. [] }
