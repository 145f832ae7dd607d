-- What the two imports of a matcher go by.
use Rattle.std.specs.Prelude.{ℕ}
use Rattle.rows.specs.declared.rule.RowRule as RowRule
use Rattle.fields.specs.Meanings as fields
use Rattle.fields.specs.declared.family.Family as Family
use Rattle.import.specs.declared.import.matching.Matcher.{Matcher}

module _ {F R : Type 0} {f : Family.Ghosts F} {r : RowRule.Ghosts R} where
  -- what the family of each side means
  abbrev pub first_means : Matcher F R f r → ℕ → ℕ → fields.Meaning
  first_means m = f.means m.first.family

  abbrev pub resent_means : Matcher F R f r → ℕ → ℕ → fields.Meaning
  resent_means m = f.means m.resent.family
