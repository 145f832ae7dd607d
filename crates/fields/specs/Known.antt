-- Which kinds with which parameters each family knows, and whether they are numeric or kept.
use Rattle.std.specs.Prelude.{◌≡◌, ℕ, ◌-◌, ◌<◌, ◌≤◌, cond, ◌&&◌, List, [], ◌∷◌, ◌==◌, nat_le}
use Rattle.fields.specs.declared.cause.Sort.{Sort}
use Rattle.fields.specs.declared.cause.Sort.TheVariants.{Unknown, Numeric, Kept}

-- one line: a kind, its least and its greatest parameter, and its sort
pub record Line : Type 0 where
  pub kind : ℕ
  pub least : ℕ
  pub greatest : ℕ
  pub sort : Sort

abbrev pub line : ℕ → ℕ → ℕ → Sort → Line
line k l g s = record { kind = k; least = l; greatest = g; sort = s }

-- whole numbers, amounts, text, dates
abbrev pub ascii_table : List Line
ascii_table = line 1 0 0 Numeric ∷ line 2 0 4 Numeric ∷ line 4 0 255 Kept ∷ line 6 0 0 Numeric ∷ []

-- unsigned numbers, two's complement, bytes
abbrev pub binary_table : List Line
binary_table = line 1 1 4 Numeric ∷ line 2 1 4 Numeric ∷ line 3 1 255 Kept ∷ []

-- what a table says of a kind with its parameter: all that it does not list is unknown
abbrev pub listed : List Line → ℕ → ℕ → Sort
listed [] k p = Unknown
listed (l ∷ ls) k p = cond (k == l.kind && (nat_le l.least p && nat_le p l.greatest)) l.sort (listed ls k p)

-- a pair's sort of a kind: the first's below 32, from there to 63 the second's less 32, and unknown above
pub record Halves (first second : ℕ → ℕ → Sort) (k p : ℕ) (r : Sort) : Type 0 where
  pub lower : k < 32 → r ≡ first k p
  pub upper : 32 ≤ k → k < 64 → r ≡ second (k - 32) p
  pub above : 64 ≤ k → r ≡ Unknown
