-- Families as the words of a command name them, and their kinds in words.
use Rattle.std.specs.Prelude.{ℕ, ◌-◌, cond, List, Some, None, codes, ◌==◌, nat_le}
use Rattle.either.specs.Either.{either}
use Rattle.either.specs.declared.Either.{Either}
use Rattle.either.specs.declared.Either.TheVariants.{Left, Right}
use Rattle.fields.specs.Kinds.{ascii_means}
use Rattle.fields.specs.Octets.{binary_means}
use Rattle.fields.specs.Meanings.{Meaning}
use Rattle.fields.specs.Pairs.{pair_means}
use Rattle.fields.specs.declared.ascii.Ascii.{Ascii}
use Rattle.fields.specs.declared.binary.Binary.{Binary}
use Rattle.fields.specs.declared.pair.Pair.{Pair}
use Rattle.cli.specs.declared.families.FamilyWords.{FamilyWords}

-- ASCII or binary
abbrev pub Plain : Type 0
Plain = Either Ascii Binary

abbrev pub plain_means : Plain → ℕ → ℕ → Meaning
plain_means = either (λ _. ascii_means) (λ _. binary_means)

-- a plain family, or a pair of two
abbrev pub family_means : Either Plain (Pair Plain Plain) → ℕ → ℕ → Meaning
family_means = either plain_means (λ s. pair_means (plain_means s.first) (plain_means s.second))

abbrev pub words_mean : FamilyWords → ℕ → ℕ → Meaning
words_mean w = elim w.second [ Some f ↦ pair_means (plain_means w.first) (plain_means f) | None ↦ plain_means w.first ]

abbrev pub ascii_word : ℕ → List ℕ
ascii_word k = cond (k == 1) (codes "whole number") (cond (k == 2) (codes "amount") (cond (k == 4) (codes "text") (cond (k == 6) (codes "date") (codes "field"))))

abbrev pub binary_word : ℕ → List ℕ
binary_word k = cond (k == 1) (codes "unsigned") (cond (k == 2) (codes "signed") (cond (k == 3) (codes "bytes") (codes "field")))

abbrev pub kind_word : Plain → ℕ → List ℕ
kind_word (Left a) k = ascii_word k
kind_word (Right b) k = binary_word k

-- in a pair, kinds 32 and above are those of the second family less 32
abbrev pub kind_name : FamilyWords → ℕ → List ℕ
kind_name w k = elim w.second [ Some f ↦ cond (nat_le 32 k) (kind_word f (k - 32)) (kind_word w.first k) | None ↦ kind_word w.first k ]
