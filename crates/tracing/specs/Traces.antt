-- The trace of an export: for each row in order a record that opens it, those of its report, or of its refusal, and one of how it is filed; behind them the tail, and the counts.
use Rattle.std.specs.Prelude.{ℕ, ◌+◌, Bool, true, false, List, [], ◌∷◌, ◌++◌, length, Some, None, Option}
use Rattle.std.specs.List.{flat_map, filter}
use Rattle.rows.specs.Cuts.{RowAt, TailAt}
use Rattle.rows.specs.declared.piece.Mark.{Mark}
use Rattle.report.specs.declared.line.Line.{Line}
use Rattle.report.specs.Reports.{Report, fault_count}
use Rattle.import.specs.declared.answer.Counts.{Counts}
use Rattle.import.specs.declared.stage.How.{How}
use Rattle.import.specs.declared.stage.How.TheVariants.{Kept, SetAside}
use Rattle.import.specs.declared.stage.Stage.{Stage}
use Rattle.import.specs.declared.stage.Stage.TheVariants.{Empty, Between, Unread, Read, End}
use Rattle.import.specs.Refusals.{number_of}
use Rattle.import.specs.Models.{Setting, Standing, Model}
use Rattle.import.specs.Calls.{Answer, refused, counted}
use Rattle.import.specs.News.{fresh}
use Rattle.import.specs.Tells.{read_says}
use Rattle.passes.specs.Walks.{stands_behind, files, tail_told}
use Rattle.records.specs.declared.record.Filing.{Filing}
use Rattle.records.specs.declared.record.Filing.TheVariants.{Kept as KeptRecord, SetAside as SetAsideRecord}
use Rattle.records.specs.Records.{row_text, line_text, kept_text, faults_text, refused_text, filed_text, tail_text, counts_text}

-- a record on a line of its own
abbrev pub on_a_line : List ℕ → List ℕ
on_a_line record_text = record_text ++ 10 ∷ []

abbrev pub lines_text : List Line → List ℕ
lines_text ls = flat_map (λ l. on_a_line (line_text l)) ls

-- a report's lines, its kept text, and its fault count
abbrev pub report_text : Report → List ℕ
report_text r = lines_text r.lines ++ (on_a_line (kept_text r.text) ++ on_a_line (faults_text (fault_count r)))

abbrev pub standing_text : Option Standing → List ℕ
standing_text None = []
standing_text (Some r) = report_text r.report

-- by what a read answers: the refusal, or else the report that stands then
abbrev pub read_text : Answer → Option Standing → List ℕ
read_text (refused why) r = on_a_line (refused_text (number_of why))
read_text a r = standing_text r

abbrev pub same_how : How → How → Bool
same_how Kept Kept = true
same_how Kept SetAside = false
same_how SetAside Kept = false
same_how SetAside SetAside = true

abbrev pub filing_of : How → Filing
filing_of Kept = KeptRecord
filing_of SetAside = SetAsideRecord

-- a row by its number, place and mark, what its read answers, how it is filed, and the report that stands then
abbrev pub over_text : ℕ → ℕ → ℕ → Mark → Answer → How → Option Standing → List ℕ
over_text number start n mark read filed r = on_a_line (row_text number start n mark) ++ (read_text read r ++ on_a_line (filed_text (filing_of filed)))

-- the tail's place, and the counts
abbrev pub tail_line : ℕ → ℕ → List ℕ
tail_line start n = on_a_line (tail_text start n)

abbrev pub counts_line : Counts → List ℕ
counts_line c = on_a_line (counts_text c.opened c.kept c.set_aside)

-- of an import at the end, by where it stands and what counts answers
abbrev pub stage_text : Stage → List ℕ
stage_text Empty = []
stage_text Between = []
stage_text (Unread start n mark) = []
stage_text Read = []
stage_text (End start n) = tail_line start n

abbrev pub counted_text : Answer → List ℕ
counted_text (counted c) = counts_line c
counted_text a = []

module _ (s : Setting) where
  -- rows, numbered on from n
  abbrev pub rows_text : ℕ → List RowAt → List ℕ
  rows_text n [] = []
  rows_text n (r ∷ rs) = over_text (n + 1) r.start (length r.bytes) r.mark (read_says s r.bytes) (files s r) (stands_behind s r) ++ rows_text (n + 1) rs

  -- how many rows are filed so
  abbrev pub filed_so : How → List RowAt → ℕ
  filed_so how rs = length (filter (λ r. same_how how (files s r)) rs)

-- the counts, with these rows opened and filed on top
abbrev pub counts_behind : Setting → Counts → List RowAt → Counts
counts_behind s c rs = record { opened = c.opened + length rs; kept = c.kept + filed_so s Kept rs; set_aside = c.set_aside + filed_so s SetAside rs }

abbrev pub end_told : TailAt → Counts → List ℕ
end_told t c = tail_line t.start (length t.bytes) ++ counts_line c

-- the trace of the rows to come, of the tail and of the counts
abbrev pub trace_from : Model → List ℕ
trace_from m =
    rows_text m.setting m.counts.opened m.ahead.rows ++ end_told (tail_told m.size (m.counts.opened + length m.ahead.rows) m.ahead.tail) (counts_behind m.setting m.counts m.ahead.rows)

-- the trace of a file under a setting: all its rows are to come, and nothing is counted
abbrev pub trace_text : Setting → List ℕ → List ℕ
trace_text s file = trace_from (fresh s 1 file)
