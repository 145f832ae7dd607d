-- Going over the rows of an export one after another, and what is still to be written.
use Rattle.std.proofs.Common.{◌≡◌, ℕ, ◌+◌, List, [], ◌∷◌, ◌++◌, length, Some, None, Option, refl, sym, ap, subst, ◌∙◌, arith, append_assoc}
use Rattle.rows.specs.Cuts.{RowAt, Each, PartOf}
use Rattle.rows.specs.declared.piece.Mark.{Mark}
use Rattle.cli.specs.declared.families.FamilyWords.{FamilyWords}
use Rattle.cli.specs.Listings.{last_after, closes_unended}
use Rattle.cli.proofs.Closing.{closing}
use Rattle.import.specs.declared.answer.Counts.{Counts}
use Rattle.import.specs.Models.{Setting, Model}
use Rattle.import.specs.Scans.{Ready}
use Rattle.import.specs.Slips.{part}
use Rattle.import.specs.Steps.{opened_one, filed_one}
use Rattle.import.specs.News.{fresh, no_counts}
use Rattle.import.specs.Tells.{read_says}
use Rattle.passes.specs.Passes.{Went, stopped, ended, over}
use Rattle.passes.specs.Walks.{stands_behind, files, tail_told, walk_over, walk}
use Rattle.passes.proofs.WalkLaws.{still_opened}
use Rattle.tracing.specs.Traces.{counts_behind}
use Rattle.tracing.proofs.TraceLaws.{none_counted, one_counted}
use Rattle.explaining.specs.Rest.{from_rows, explanation_from}
use Rattle.explaining.specs.Explanations.{row_at, over_text, rows_text, end_told, end_text, explanation_text}

-- what a pass leaves to be written: what is said of its row, and the explanation from there on
abbrev pub gone_text : FamilyWords → List ℕ → Option Mark → Went → Model → List ℕ
gone_text family file last (stopped why) n = []
gone_text family file last ended n = end_text n.stage n.counts last
gone_text family file last (over number start len mark read filed) n =
    over_text family n.setting (row_at number start len mark) (part file start len) read n.standing ++ explanation_from family (Some mark) n

module _ (family : FamilyWords) (file : List ℕ) (m : Model) (last : Option Mark) (h : Ready file m) where
  none_left : from_rows family m.setting m.size m.counts last m.ahead.tail [] ≡ gone_text family file last (walk_over m []).0 (walk_over m []).1
  none_left =
      let c = m.counts in
      let same = none_counted m.setting c in
      let none : c.opened + 0 ≡ c.opened = omega arith in
      ap (λ x. end_told x (tail_told m.size (c.opened + 0) m.ahead.tail) (closes_unended last)) same
      ∙ ap (λ n. end_told c (tail_told m.size n m.ahead.tail) (closes_unended last)) none

  row_left : (r : RowAt) (rs : List RowAt) → m.ahead.rows ≡ r ∷ rs → from_rows family m.setting m.size m.counts last m.ahead.tail (r ∷ rs) ≡ gone_text family file last (walk_over m (r ∷ rs)).0 (walk_over m (r ∷ rs)).1
  row_left r rs e =
      let s = m.setting in
      let c = m.counts in
      let d = filed_one (files s r) (opened_one c) in
      let row = row_at (c.opened + 1) r.start (length r.bytes) r.mark in
      let its : PartOf file r.start r.bytes = (subst (Each (λ q. PartOf file q.start q.bytes)) e h.parts.0).0 in
      let more : d.opened ≡ c.opened + 1 = still_opened (files s r) (opened_one c) in
      let long : c.opened + length (r ∷ rs) ≡ d.opened + length rs = omega (arith, more) in
      let end : Counts → ℕ → List ℕ = λ x n. end_told x (tail_told m.size n m.ahead.tail) (closes_unended (last_after (Some r.mark) rs)) in
      let first = over_text family s row r.bytes (read_says s r.bytes) (stands_behind s r) in
      append_assoc first (rows_text family s (c.opened + 1) rs) (end (counts_behind s c (r ∷ rs)) (c.opened + length (r ∷ rs)))
      ∙ ap (λ x. first ++ (rows_text family s (c.opened + 1) rs ++ end x (c.opened + length (r ∷ rs)))) (one_counted s c r rs)
      ∙ ap (λ n. first ++ (rows_text family s (c.opened + 1) rs ++ end (counts_behind s d rs) n)) long
      ∙ ap (λ n. first ++ (rows_text family s n rs ++ end (counts_behind s d rs) (d.opened + length rs))) (sym more)
      ∙ ap (λ bs. over_text family s row bs (read_says s r.bytes) (stands_behind s r) ++ from_rows family s m.size d (Some r.mark) m.ahead.tail rs) its.1

  pub goes : explanation_from family last m ≡ gone_text family file last (walk m).0 (walk m).1
  goes = by_rows m.ahead.rows refl
    where
      by_rows : (rs : List RowAt) → m.ahead.rows ≡ rs → from_rows family m.setting m.size m.counts last m.ahead.tail rs ≡ gone_text family file last (walk_over m rs).0 (walk_over m rs).1
      by_rows [] e = none_left
      by_rows (r ∷ rs) e = row_left r rs e

-- a file that was just taken has its explanation to come
pub whole_explanation : (family : FamilyWords) (s : Setting) (number : ℕ) (file : List ℕ) → explanation_from family None (fresh s number file) ≡ explanation_text family s file
whole_explanation family s number file =
    let c = s.rule.cut file in
    let none : 0 + length c.rows ≡ length c.rows = omega arith in
    ap (λ n. rows_text family s 0 c.rows ++ end_told (counts_behind s no_counts c.rows) (tail_told (length file) n c.tail) (closes_unended (last_after None c.rows))) none
    ∙ ap (λ b. rows_text family s 0 c.rows ++ end_told (counts_behind s no_counts c.rows) (tail_told (length file) (length c.rows) c.tail) b) (closing c.rows)
