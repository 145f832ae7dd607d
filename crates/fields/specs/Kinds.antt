-- The kinds of the ASCII family.
use Rattle.std.specs.Prelude.{ℕ, cond, ◌&&◌, Some, None, Option, ◌==◌, nat_le}
use Rattle.fields.specs.declared.ascii.AsciiKind.{AsciiKind}
use Rattle.fields.specs.declared.ascii.AsciiKind.TheVariants.{Whole, Amount, Text, Date}
use Rattle.fields.specs.declared.cause.Sort.{Sort}
use Rattle.fields.specs.Meanings.{Meaning, unknown}
use Rattle.fields.specs.Wholes.{whole}
use Rattle.fields.specs.Amounts.{amount}
use Rattle.fields.specs.Texts.{text}
use Rattle.fields.specs.Dates.{date}

-- 1 whole number, 2 amount, 4 text, 6 date
abbrev pub ascii_means : ℕ → ℕ → Meaning
ascii_means k p =
    cond (k == 1 && p == 0) whole
    (cond (k == 2 && nat_le p 4) (amount p)
    (cond (k == 4) (text p)
    (cond (k == 6 && p == 0) date unknown)))

-- the same of a kind that is told apart already, or of none
abbrev pub means_as : Option AsciiKind → Meaning
means_as None = unknown
means_as (Some Whole) = whole
means_as (Some (Amount d)) = amount d.count
means_as (Some (Text stop)) = text stop
means_as (Some Date) = date

abbrev pub sort_of : Option AsciiKind → Sort
sort_of k = (means_as k).sort
