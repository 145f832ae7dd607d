-- Every ASCII kind is lawful.
use Rattle.std.specs.Prelude.{ℕ, ◌&&◌, Some, None, Option, ◌==◌, nat_le}
use Rattle.std.proofs.lemmas.Bool.{cond_both}
use Rattle.fields.specs.declared.ascii.AsciiKind.{AsciiKind}
use Rattle.fields.specs.declared.ascii.AsciiKind.TheVariants.{Whole, Amount, Text, Date}
use Rattle.fields.specs.Laws.{Lawful}
use Rattle.fields.specs.Kinds.{ascii_means, means_as}
use Rattle.fields.specs.Fairs.{unknown_lawful}
use Rattle.fields.specs.WholeLaw.{whole_lawful}
use Rattle.fields.specs.AmountLaw.{amount_lawful}
use Rattle.fields.specs.TextLaw.{text_lawful}
use Rattle.fields.specs.DateLaw.{date_lawful}

pub ascii_lawful : (k p : ℕ) → Lawful (ascii_means k p)
ascii_lawful k p =
    cond_both (k == 1 && p == 0) _ _ Lawful (λ _. whole_lawful)
    (λ _. cond_both (k == 2 && nat_le p 4) _ _ Lawful (λ _. amount_lawful p)
    (λ _. cond_both (k == 4) _ _ Lawful (λ _. text_lawful p)
    (λ _. cond_both (k == 6 && p == 0) _ _ Lawful (λ _. date_lawful) (λ _. unknown_lawful))))

-- each kind that is told apart, and none
pub known_lawful : (k : Option AsciiKind) → Lawful (means_as k)
known_lawful None = unknown_lawful
known_lawful (Some Whole) = whole_lawful
known_lawful (Some (Amount d)) = amount_lawful d.count
known_lawful (Some (Text stop)) = text_lawful stop
known_lawful (Some Date) = date_lawful
