-- The rule that a command's words choose.
use Rattle.std.specs.Prelude.{ℕ, ◌≤◌, Some, None, Option}
use Rattle.rows.specs.Rules.{Meaning}
use Rattle.rows.specs.Newlines.{newline_meaning}
use Rattle.rows.specs.Widths.{fixed_meaning}
use Rattle.rows.specs.Samples.{sampled}
use Rattle.either.specs.Either.{either}
use Rattle.either.specs.declared.Either.{Either}
use Rattle.rows.specs.declared.newline.Newline.{Newline}
use Rattle.rows.specs.declared.sample.Sample.{Sample}
use Rattle.rows.specs.declared.width.FixedWidth.{FixedWidth}

-- newline, or a width
abbrev pub plain_meaning : Option ℕ → Meaning
plain_meaning None = newline_meaning
plain_meaning (Some w) = fixed_meaning w

abbrev pub PlainRange : Option ℕ → Type 0
PlainRange None = Unit {0}
PlainRange (Some w) = (1 ≤ w) × (w ≤ 4096)

-- all rows, or the first so many
abbrev pub chosen_meaning : Option ℕ → Meaning → Meaning
chosen_meaning None m = m
chosen_meaning (Some n) m = sampled n m

abbrev pub SampleRange : Option ℕ → Type 0
SampleRange None = Unit {0}
SampleRange (Some n) = n ≤ 16777216

-- what the rules of the program mean
abbrev pub means_plain : Either Newline FixedWidth → Meaning
means_plain = either (λ _. newline_meaning) (λ f. fixed_meaning f.width)

abbrev pub means_any : Either (Either Newline FixedWidth) (Sample (Either Newline FixedWidth)) → Meaning
means_any = either means_plain (λ s. sampled s.limit (means_plain s.below))
