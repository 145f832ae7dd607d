-- What is said of a resent export that was matched against the first, and of one that cannot be.
use Rattle.std.specs.Prelude.{ℕ, List, ◌++◌, codes, decimal}
use Rattle.import.specs.declared.answer.Difference.{Difference}
use Rattle.import.specs.declared.answer.Difference.TheVariants.{Report, Mark, MissingInFirst, MissingInResent, Tail}
use Rattle.import.specs.declared.answer.Matched.{Matched}
use Rattle.import.specs.declared.answer.Matched.TheVariants.{Same, Differs}

abbrev pub of_row : ℕ → List ℕ → List ℕ
of_row row words = codes "row " ++ (decimal row ++ (codes ": " ++ words))

-- the first difference; a tail has no row
abbrev pub difference_line : ℕ → Difference → List ℕ
difference_line row Report = of_row row (codes "another report; the row has other bytes in the resent export")
difference_line row Mark = of_row row (codes "another mark; in one export the row has a newline at its end, in the other it has none")
difference_line row MissingInFirst = of_row row (codes "missing in the first export")
difference_line row MissingInResent = of_row row (codes "missing in the resent export")
difference_line row Tail = codes "another tail; the bytes behind all rows differ"

abbrev pub matched_line : Matched → List ℕ
matched_line Same = codes "the same: rows, marks and tail are those of the first export"
matched_line (Differs row how) = difference_line row how
