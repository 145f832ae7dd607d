-- What is written of an export: for each row in order why it is set aside, if it is; behind them the counts, the tail, and a notice if the closing row is unended.
use Rattle.std.specs.Prelude.{ℕ, ◌+◌, Bool, List, [], ◌∷◌, ◌++◌, length, Some, None, Option}
use Rattle.std.specs.List.{flat_map}
use Rattle.rows.specs.Cuts.{RowAt, TailAt}
use Rattle.rows.specs.Words.{last_unended}
use Rattle.rows.specs.declared.piece.Mark.{Mark}
use Rattle.cli.specs.declared.families.FamilyWords.{FamilyWords}
use Rattle.cli.specs.Listings.{tail_line, notice_if, closes_unended}
use Rattle.import.specs.declared.answer.Counts.{Counts}
use Rattle.import.specs.declared.stage.Stage.{Stage}
use Rattle.import.specs.declared.stage.Stage.TheVariants.{Empty, Between, Unread, Read, End}
use Rattle.import.specs.Models.{Setting, Standing}
use Rattle.import.specs.Calls.{Answer, refused}
use Rattle.import.specs.News.{no_counts}
use Rattle.import.specs.Tells.{read_says}
use Rattle.passes.specs.Walks.{stands_behind, tail_told}
use Rattle.tracing.specs.Traces.{on_a_line, counts_behind}
use Rattle.explaining.specs.declared.row.Row.{Row}
use Rattle.explaining.specs.declared.texts.Fate.TheVariants.{NotRead}
use Rattle.explaining.specs.Lines.{aside_line, counts_line}
use Rattle.explaining.specs.Reports.{report_text}

abbrev pub row_at : ℕ → ℕ → ℕ → Mark → Row
row_at number start n mark = record { number = number; start = start; length = n; mark = mark }

-- by the report that stands, if one does
abbrev pub standing_text : FamilyWords → Setting → Row → List ℕ → Option Standing → List ℕ
standing_text family s row bytes None = []
standing_text family s row bytes (Some r) = report_text family s.nodes s.constants bytes row r.report

-- a row of these bytes, by what its read answers and the report that stands then: the refusal, or what its report says
abbrev pub over_text : FamilyWords → Setting → Row → List ℕ → Answer → Option Standing → List ℕ
over_text family s row bytes (refused why) r = on_a_line (aside_line row (NotRead why))
over_text family s row bytes a r = standing_text family s row bytes r

-- rows, numbered on from n
abbrev pub rows_text : FamilyWords → Setting → ℕ → List RowAt → List ℕ
rows_text family s n [] = []
rows_text family s n (r ∷ rs) = over_text family s (row_at (n + 1) r.start (length r.bytes) r.mark) r.bytes (read_says s r.bytes) (stands_behind s r) ++ rows_text family s (n + 1) rs

abbrev pub notice_text : Bool → ℕ → List ℕ
notice_text last n = flat_map on_a_line (notice_if last n)

-- the counts, the tail's place, and whether the closing row is unended
abbrev pub closing_text : Counts → ℕ → ℕ → Bool → List ℕ
closing_text c start n last = on_a_line (counts_line c.opened c.kept c.set_aside) ++ (on_a_line (tail_line start n) ++ notice_text last c.opened)

abbrev pub end_told : Counts → TailAt → Bool → List ℕ
end_told c t last = closing_text c t.start (length t.bytes) last

-- of an import at the end, whose last row had the mark `last`
abbrev pub end_text : Stage → Counts → Option Mark → List ℕ
end_text Empty c last = []
end_text Between c last = []
end_text (Unread start n mark) c last = []
end_text Read c last = []
end_text (End start n) c last = closing_text c start n (closes_unended last)

-- the explanation of a file: of all its rows, and of what they come to
abbrev pub explanation_text : FamilyWords → Setting → List ℕ → List ℕ
explanation_text family s file =
    let c = s.rule.cut file in
    rows_text family s 0 c.rows ++ end_told (counts_behind s no_counts c.rows) (tail_told (length file) (length c.rows) c.tail) (last_unended c.rows)
