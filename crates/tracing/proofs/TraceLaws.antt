-- The trace of one row more, and of none.
use Rattle.std.proofs.Common.{◌≡◌, ℕ, ◌+◌, List, [], ◌∷◌, ◌++◌, length, cond, Option, refl, sym, ap, ◌∙◌, arith, append_assoc}
use Rattle.rows.specs.Cuts.{RowAt}
use Rattle.import.specs.declared.answer.Counts.{Counts}
use Rattle.import.specs.declared.stage.How.{How}
use Rattle.import.specs.declared.stage.How.TheVariants.{Kept, SetAside}
use Rattle.import.specs.Models.{Setting, Standing, Model}
use Rattle.import.specs.Calls.{counts}
use Rattle.import.specs.Steps.{opened_one, filed_one, step}
use Rattle.import.specs.Tells.{read_says}
use Rattle.passes.specs.Passes.{Went, over, ended, stopped}
use Rattle.passes.specs.Walks.{stands_behind, files, tail_told, at_end, behind_row}
use Rattle.passes.proofs.WalkLaws.{still_opened}
use Rattle.tracing.specs.Traces.{same_how, over_text, tail_line, counts_line, stage_text, counted_text, rows_text, filed_so, counts_behind, end_told, trace_from}
use Rattle.tracing.proofs.Rows.{OneRow}

same_counts : (c d : Counts) → c.opened ≡ d.opened → c.kept ≡ d.kept → c.set_aside ≡ d.set_aside → c ≡ d
same_counts c d e f g =
    ap (λ x. record { opened = x; kept = c.kept; set_aside = c.set_aside }) e
    ∙ ap (λ x. record { opened = d.opened; kept = x; set_aside = c.set_aside }) f
    ∙ ap (λ x. record { opened = d.opened; kept = d.kept; set_aside = x }) g

one_kept : (how : How) (c : Counts) (r : RowAt) (rs : List RowAt) → c.kept + length (cond (same_how Kept how) (r ∷ rs) rs) ≡ (filed_one how (opened_one c)).kept + length rs
one_kept Kept c r rs = omega arith
one_kept SetAside c r rs = refl

one_aside : (how : How) (c : Counts) (r : RowAt) (rs : List RowAt) → c.set_aside + length (cond (same_how SetAside how) (r ∷ rs) rs) ≡ (filed_one how (opened_one c)).set_aside + length rs
one_aside Kept c r rs = refl
one_aside SetAside c r rs = omega arith

pub none_counted : (s : Setting) (c : Counts) → counts_behind s c [] ≡ c
none_counted s c = same_counts (counts_behind s c []) c (omega arith) (omega arith) (omega arith)

pub one_counted : (s : Setting) (c : Counts) (r : RowAt) (rs : List RowAt) → counts_behind s c (r ∷ rs) ≡ counts_behind s (filed_one (files s r) (opened_one c)) rs
one_counted s c r rs =
    same_counts (counts_behind s c (r ∷ rs)) (counts_behind s (filed_one (files s r) (opened_one c)) rs)
    (omega (arith, still_opened (files s r) (opened_one c)))
    (one_kept (files s r) c r _)
    (one_aside (files s r) c r _)

-- what is written of a row that was gone over
abbrev pub went_text : Went → Option Standing → List ℕ
went_text (over number start n mark read filed) r = over_text number start n mark read filed r
went_text ended r = []
went_text (stopped why) r = []

module _ (m n : Model) where
  pub one_more : (w : Went) → OneRow m n w → trace_from m ≡ went_text w n.standing ++ trace_from n
  one_more w h =
      let s = m.setting in
      let r = h.row in
      let rs = h.rest in
      let k = m.counts.opened in
      let c = filed_one (files s r) (opened_one m.counts) in
      let opened : c.opened ≡ k + 1 = still_opened (files s r) (opened_one m.counts) in
      let more : k + length (r ∷ rs) ≡ k + 1 + length rs = omega arith in
      let it = over_text (k + 1) r.start (length r.bytes) r.mark (read_says s r.bytes) (files s r) (stands_behind s r) in
      ap (λ x. rows_text s k x ++ end_told (tail_told m.size (k + length x) m.ahead.tail) (counts_behind s m.counts x)) h.is
      ∙ append_assoc it (rows_text s (k + 1) rs) (end_told (tail_told m.size (k + length (r ∷ rs)) m.ahead.tail) (counts_behind s m.counts (r ∷ rs)))
      ∙ ap (λ x. it ++ (rows_text s (k + 1) rs ++ end_told (tail_told m.size x m.ahead.tail) (counts_behind s m.counts (r ∷ rs)))) more
      ∙ ap (λ x. it ++ (rows_text s (k + 1) rs ++ end_told (tail_told m.size (k + 1 + length rs) m.ahead.tail) x)) (one_counted s m.counts r rs)
      ∙ ap (λ x. it ++ (rows_text s x rs ++ end_told (tail_told m.size (x + length rs) m.ahead.tail) (counts_behind s c rs))) (sym opened)
      ∙ ap (λ x. went_text x (stands_behind s r) ++ trace_from (behind_row m r rs)) (sym h.told)
      ∙ ap (λ (x : Model). went_text w x.standing ++ trace_from x) (sym h.left)

  pub no_more : m.ahead.rows ≡ [] → n ≡ at_end m → trace_from m ≡ stage_text n.stage ++ counted_text (step [] n counts).0
  no_more e f =
      let k = m.counts.opened in
      let none : k + 0 ≡ k = omega arith in
      ap (λ x. rows_text m.setting k x ++ end_told (tail_told m.size (k + length x) m.ahead.tail) (counts_behind m.setting m.counts x)) e
      ∙ ap (λ x. end_told (tail_told m.size x m.ahead.tail) (counts_behind m.setting m.counts [])) none
      ∙ ap (λ x. end_told (tail_told m.size k m.ahead.tail) x) (none_counted m.setting m.counts)
      ∙ ap (λ (x : Model). stage_text x.stage ++ counted_text (step [] x counts).0) (sym f)
