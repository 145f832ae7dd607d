-- The numeric kinds in the rules' own terms: a number is read exactly where its one spelling stands and the field ends behind it.
use Rattle.std.specs.Prelude.{◌≡◌, ℕ, suc, ◌+◌, ◌*◌, ◌^◌, ◌<◌, ◌≤◌, List, ◌++◌, length, ℤ, pos, negsuc, Ok, unsigned_abs}
use Rattle.fields.specs.Meanings.{Meaning}
use Rattle.fields.specs.Laws.{Bytes}
use Rattle.fields.specs.Digits.{run}
use Rattle.fields.specs.Calendar.{days}
use Rattle.fields.specs.Wholes.{whole}
use Rattle.fields.specs.Amounts.{amount}
use Rattle.fields.specs.Dates.{date}
use Rattle.fields.specs.Octets.{unsigned, complement}

-- the bytes begin with the spelling of a number that the kind has, it is n bytes long, and the field ends there
pub record Stands (m : Meaning) (Has : ℤ → Type 0) (Ends : List ℕ → Type 0) (bs : List ℕ) (n : ℕ) (z : ℤ) : Type 0 where
  pub number : Has z
  pub rest : List ℕ
  pub begins : bs ≡ m.spells z ++ rest
  pub long : n ≡ length (m.spells z)
  pub ends : Ends rest

-- reading gives a length and a number exactly then
pub record ReadsSpelling (m : Meaning) (Has : ℤ → Type 0) (Ends : List ℕ → Type 0) : Type 0 where
  pub only : (bs : List ℕ) (n : ℕ) (z : ℤ) → Bytes bs → m.reads bs ≡ Ok (n, z) → Stands m Has Ends bs n z
  pub each : (bs : List ℕ) (n : ℕ) (z : ℤ) → Stands m Has Ends bs n z → m.reads bs ≡ Ok (n, z)

-- a run ends where no digit follows; a field of a fixed width ends anywhere
abbrev pub NoDigit : List ℕ → Type 0
NoDigit rest = run rest ≡ 0

abbrev pub Anywhere : List ℕ → Type 0
Anywhere rest = Unit {0}

-- the numbers of each kind
abbrev pub WholeNumber : ℤ → Type 0
WholeNumber z = (z ≡ pos (unsigned_abs z)) × (unsigned_abs z ≤ 999999999999)

abbrev pub Units : ℤ → Type 0
Units z = unsigned_abs z ≤ 999999999999

pub record DateNumber (z : ℤ) : Type 0 where
  pub year : ℕ
  pub month : ℕ
  pub day : ℕ
  pub is : z ≡ pos (10000 * year + 100 * month + day)
  pub years : (1900 ≤ year) × (year ≤ 2199)
  pub days_of : (1 ≤ day) × (day ≤ days year month)

-- what p bytes hold, without a sign and as two's complement
abbrev pub Unsigned : ℕ → ℤ → Type 0
Unsigned p z = (z ≡ pos (unsigned_abs z)) × (unsigned_abs z < 256 ^ p)

abbrev pub Complement : ℕ → ℤ → Type 0
Complement p (pos n) = 2 * n < 256 ^ p
Complement p (negsuc n) = 2 * suc n ≤ 256 ^ p

pub record SpellingRules : Type 0 where
  pub wholes : ReadsSpelling whole WholeNumber NoDigit
  pub amounts : (p : ℕ) → p ≤ 4 → ReadsSpelling (amount p) Units NoDigit
  pub dates : ReadsSpelling date DateNumber Anywhere
  pub unsigneds : (p : ℕ) → 1 ≤ p → p ≤ 4 → ReadsSpelling (unsigned p) (Unsigned p) Anywhere
  pub complements : (p : ℕ) → 1 ≤ p → p ≤ 4 → ReadsSpelling (complement p) (Complement p) Anywhere
