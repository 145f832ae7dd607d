-- Kept text takes no more than there is, and its number is its length.
use Rattle.std.specs.Prelude.{ℕ, not, [], pos, ◌==◌, refl}
use Rattle.std.proofs.Common.{arith}
use Rattle.fields.specs.declared.cause.Sort.TheVariants.{Kept}
use Rattle.fields.specs.Laws.{Lawful}
use Rattle.fields.specs.Texts.{text_length, text}
use Rattle.fields.specs.Fairs.{kind_lawful}
use Rattle.std.proofs.lemmas.List.Sums.{prefix_len-le-length}

pub text_lawful : (p : ℕ) → Lawful (text p)
text_lawful p = kind_lawful Kept (λ _. []) (λ bs. (text_length p bs, pos (text_length p bs))) (λ _. []) λ bs r h.
    let l = prefix_len-le-length (λ b. not (b == p)) bs in
    (omega arith, omega arith, refl)
