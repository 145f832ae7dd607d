-- What a call leaves under the rule and the family that its words stand for, whichever these are; or its words stand for nothing.
use Rattle.std.specs.Prelude.{◌≡◌, ◌⊎◌, ℕ, List, Result}
use Rattle.rows.specs.Rules as rules
use Rattle.rows.specs.declared.newline.Newline.{Newline}
use Rattle.rows.specs.declared.sample.Sample.{Sample}
use Rattle.rows.specs.declared.width.FixedWidth.{FixedWidth}
use Rattle.fields.specs.Meanings as fields
use Rattle.fields.specs.declared.pair.Pair.{Pair}
use Rattle.either.specs.declared.Either.{Either}
use Rattle.import.specs.declared.refusal.Refusal.{Refusal}
use Rattle.import.specs.Matching.{export}
use Rattle.cli.specs.Chosen.{means_any}
use Rattle.cli.specs.Kinds.{Plain, family_means}
use Rattle.calls.specs.declared.matching.Answer.{Answer}
use Rattle.calls.specs.declared.matching.RefusedAt.{RefusedAt}
use Rattle.calls.specs.declared.words.NoWords.{NoWords}
use Rattle.calls.specs.declared.status.Status.{Status}
use Rattle.calls.specs.declared.status.Status.TheVariants.{NoFamily}
use Rattle.calls.specs.Statuses.{number_of}
use Rattle.calls.specs.Lefts.{Left, LayoutTold, Leaves, of_words}
use Rattle.calls.specs.Matches as matches

-- a rule and a family of the program
abbrev pub AnyRule : Type 0
AnyRule = Either (Either Newline FixedWidth) (Sample (Either Newline FixedWidth))

abbrev pub AnyFamily : Type 0
AnyFamily = Either Plain (Pair Plain Plain)

-- of a status that is told by its number
abbrev pub Numbered : ℕ → (Status → Type 0) → Type 0
Numbered n leaves = (s : Status) × (n ≡ number_of s) × leaves s

abbrev pub LayoutNamed : List ℕ → Status → Type 0
LayoutNamed layout s = ((family : AnyFamily) × LayoutTold (family_means family) layout s) ⊎ (s ≡ NoFamily)

abbrev pub LeavesNamed : (rules.Meaning → (ℕ → ℕ → fields.Meaning) → Result (List ℕ) Refusal) → Left → List ℕ → ℕ → Type 0
LeavesNamed want left out n =
    ((fault : NoWords) × (left ≡ (of_words fault, out, n))) ⊎ ((rule : AnyRule) × (family : AnyFamily) × Leaves (want (means_any rule) (family_means family)) left out n)

-- the words are read once for each side
abbrev pub MatchesNamed : List ℕ → List ℕ → List ℕ → matches.Left → Answer → RefusedAt → Type 0
MatchesNamed layout one other left a r =
    ((fault : NoWords) × (left ≡ (of_words fault, a, r)))
    ⊎ ((rule : AnyRule) × (family : AnyFamily) × (again : AnyRule) × (other_family : AnyFamily) ×
    matches.Matches layout (export (means_any rule) (family_means family) one) (export (means_any again) (family_means other_family) other) left a r)
