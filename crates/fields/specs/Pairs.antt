-- A pair of families: kinds 0 to 31 are the first's, 32 to 63 the second's less 32.
use Rattle.std.specs.Prelude.{ℕ, ◌-◌, cond, nat_lt}
use Rattle.fields.specs.Meanings.{Meaning, unknown}

abbrev pub pair_means : (ℕ → ℕ → Meaning) → (ℕ → ℕ → Meaning) → ℕ → ℕ → Meaning
pair_means first second k p = cond (nat_lt k 32) (first k p) (cond (nat_lt k 64) (second (k - 32) p) unknown)
