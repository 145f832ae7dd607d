-- What a sample means, and what it has ahead at a moment.
use Rattle.std.specs.Prelude.{List, ℕ}
use Rattle.rows.specs.Cuts.{Cut}
use Rattle.rows.specs.Rules.{Meaning}
use Rattle.rows.specs.Samples.{sample_from, sampled}
use Rattle.rows.specs.declared.sample.Sample.{Sample}

abbrev pub sample_means : {R : Type 0} → (R → Meaning) → Sample R → Meaning
sample_means means s = sampled s.limit (means s.below)

-- `left` rows more of the rule below, and frames handed out that end at a place
abbrev pub sample_ahead : {R : Type 0} → (R → Meaning) → (R → List ℕ → Cut) → Sample R → List ℕ → Cut
sample_ahead means ahead s file = sample_from (means s.below).frame s.left s.end file (ahead s.below file)
