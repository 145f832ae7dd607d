-- What every family owes of each of its kinds, on bytes.
use Rattle.std.specs.Prelude.{◌≡◌, ℕ, ◌<◌, ◌≤◌, List, length, take, ℤ, pos, Ok, slice_index, unsigned_abs}
use Rattle.fields.specs.declared.cause.Sort.TheVariants.{Numeric, Kept}
use Rattle.fields.specs.Meanings.{Meaning}

-- every element is a byte
abbrev pub Bytes : List ℕ → Type 0
Bytes bs = (i : ℕ) → slice_index bs i < 256

pub record Lawful (m : Meaning) : Type 0 where
  -- it takes no more bytes than there are
  pub within : (bs : List ℕ) (n : ℕ) (z : ℤ) → Bytes bs → m.reads bs ≡ Ok (n, z) → n ≤ length bs
  -- its numbers are of size at most 999,999,999,999
  pub small : (bs : List ℕ) (n : ℕ) (z : ℤ) → Bytes bs → m.reads bs ≡ Ok (n, z) → unsigned_abs z ≤ 999999999999
  -- a numeric kind spells a number that it has read with exactly the bytes read
  pub spelled : (bs : List ℕ) (n : ℕ) (z : ℤ) → Bytes bs → m.reads bs ≡ Ok (n, z) → m.sort ≡ Numeric → m.spells z ≡ take n bs
  -- the number of a kept kind is the length
  pub kept : (bs : List ℕ) (n : ℕ) (z : ℤ) → Bytes bs → m.reads bs ≡ Ok (n, z) → m.sort ≡ Kept → z ≡ pos n

-- the same of one reading: a length and a number that were read
pub record Owed (m : Meaning) (bs : List ℕ) (n : ℕ) (z : ℤ) : Type 0 where
  pub within : n ≤ length bs
  pub small : unsigned_abs z ≤ 999999999999
  pub spelled : m.sort ≡ Numeric → m.spells z ≡ take n bs
  pub kept : m.sort ≡ Kept → z ≡ pos n
