-- What is still to be written of an export.
use Rattle.std.specs.Prelude.{ℕ, ◌+◌, List, ◌++◌, length, Option}
use Rattle.rows.specs.Cuts.{RowAt, TailAt}
use Rattle.rows.specs.declared.piece.Mark.{Mark}
use Rattle.cli.specs.declared.families.FamilyWords.{FamilyWords}
use Rattle.cli.specs.Listings.{last_after, closes_unended}
use Rattle.import.specs.declared.answer.Counts.{Counts}
use Rattle.import.specs.Models.{Setting, Model}
use Rattle.passes.specs.Walks.{tail_told}
use Rattle.tracing.specs.Traces.{counts_behind}
use Rattle.explaining.specs.Explanations.{rows_text, end_told}

-- the explanation of these rows to come and of this tail, behind rows that were counted, the last of them with the mark `last`
abbrev pub from_rows : FamilyWords → Setting → ℕ → Counts → Option Mark → TailAt → List RowAt → List ℕ
from_rows family s size c last t rs =
    rows_text family s c.opened rs ++ end_told (counts_behind s c rs) (tail_told size (c.opened + length rs) t) (closes_unended (last_after last rs))

abbrev pub explanation_from : FamilyWords → Option Mark → Model → List ℕ
explanation_from family last m = from_rows family m.setting m.size m.counts last m.ahead.tail m.ahead.rows
