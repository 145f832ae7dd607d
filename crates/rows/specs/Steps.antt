-- What setting a rule on a file and asking it for the next piece do, by what the rule means and has ahead before and after.
use Rattle.std.specs.Prelude.{◌≡◌, ℕ, List, []}
use Rattle.rows.specs.Cuts.{Cut}
use Rattle.rows.specs.Rules.{Meaning}
use Rattle.rows.specs.Told.{Told, piece_of, behind, Of}

-- set on a file, a rule has all its rows to come; what it means stays
pub record SetOn (file : List ℕ) (m n : Meaning) (after : List ℕ → Cut) : Type 0 where
  pub all : after file ≡ m.cut file
  pub kept : n ≡ m

-- Asked for the next piece, a rule tells the first row to come, or else the tail: that part of the file itself.
-- That row alone is then gone; where there is none, nothing changes; what the rule means stays.
pub record Asked (file : List ℕ) (told : Told) (m n : Meaning) (before after : List ℕ → Cut) : Type 0 where
  pub tells : told ≡ piece_of (before file)
  pub part : Of file told
  pub leaves : after file ≡ behind (before file)
  pub stays : (before file).rows ≡ [] → (other : List ℕ) → after other ≡ before other
  pub kept : n ≡ m
