-- Two imports: their files are equal exactly when their reports, marks and tails are, and standing reports exactly when their rows are.
use Rattle.std.proofs.Common.{◌≡◌, ℕ, zero, suc, ◌+◌, ◌-◌, ◌<◌, ◌≤◌, true, List, [], ◌∷◌, ◌++◌, map, length, refl, sym, ap, subst, ◌∙◌, arith, append-nil}
use Rattle.std.proofs.lemmas.List.{length-append}
use Rattle.std.proofs.lemmas.Bool.{both_ways}
use Rattle.rows.specs.Cuts.{RowAt, text, texts, frames, Each, PartOf, Bytes, File}
use Rattle.rows.specs.Rules as rules
use Rattle.fields.specs.Meanings as fields
use Rattle.fields.specs.Laws as families
use Rattle.report.specs.Reports.{Report}
use Rattle.report.proofs.AcceptedFiles.{under_file}
use Rattle.import.specs.declared.answer.Opened.{Opened}
use Rattle.import.specs.Slips.{slip, among, slips, rows_at}
use Rattle.import.specs.Models.{Setting, under}
use Rattle.import.specs.Calls.{Call}
use Rattle.import.specs.Steps.{report_of}
use Rattle.import.specs.News.{fresh}
use Rattle.import.specs.Runs.{history, standing_report, made, after}
use Rattle.import.specs.Words.{read_rows}
use Rattle.import.specs.Tells.{rows_in_file, tail_of, marks, bytes_at, defined}
use Rattle.import.specs.Promises.{EveryRowRead, FilesToldApart, ReportsToldApart}
use Rattle.import.proofs.SlipLaws.{all_rows}
use Rattle.import.proofs.Heard.{words_of}
use Rattle.import.proofs.Moments.{Stands}
use Rattle.import.proofs.StepLaws.{Ground, grounded, length-rows, no_rows}
use Rattle.import.proofs.RunLaws.{bytes_part, run_stands}
use Rattle.import.proofs.WholeRuns.{only_opened_read, whole_runs}

-- the defined reports of rows, by their bytes
defined_rows : (s : Setting) (bytes : List ℕ) (os : List Opened) → map (defined s bytes) os ≡ map (λ r. report_of s r.bytes) (rows_at bytes os)
defined_rows s bytes [] = refl
defined_rows s bytes (o ∷ os) = ap (λ x. defined s bytes o ∷ x) (defined_rows s bytes os)

-- every row of a file is bytes
pub rows_are_bytes : (bytes : List ℕ) (rs : List RowAt) → Bytes bytes → Each (λ r. PartOf bytes r.start r.bytes) rs → Each (λ r. Bytes r.bytes) rs
rows_are_bytes bytes [] f h = tt
rows_are_bytes bytes (r ∷ rs) f h = (subst Bytes (sym h.0.1) (bytes_part bytes r.start (length r.bytes) f), rows_are_bytes bytes rs f h.1)

-- rows of which reports and marks are equal
pub same_texts : (report : List ℕ → Report) → ((x y : List ℕ) → Bytes x → Bytes y → report x ≡ report y → x ≡ y) → (rs qs : List RowAt) → Each (λ r. Bytes r.bytes) rs → Each (λ r. Bytes r.bytes) qs →
    map (λ r. report r.bytes) rs ≡ map (λ r. report r.bytes) qs → marks rs ≡ marks qs → texts rs ≡ texts qs
same_texts report apart [] [] h k e m = refl
same_texts report apart [] (q ∷ qs) h k e m = absurd cc
same_texts report apart (r ∷ rs) [] h k e m = absurd cc
same_texts report apart (r ∷ rs) (q ∷ qs) h k e m =
    let a : report r.bytes ≡ report q.bytes = cc in
    let b : map (λ r. report r.bytes) rs ≡ map (λ r. report r.bytes) qs = cc in
    let c : r.mark ≡ q.mark = cc in
    let d : marks rs ≡ marks qs = cc in
    ap (λ x. record { bytes = x; mark = r.mark } ∷ texts rs) (apart r.bytes q.bytes h.0 k.0 a)
    ∙ ap (λ x. record { bytes = q.bytes; mark = x } ∷ texts rs) c
    ∙ ap (λ x. text q ∷ x) (same_texts report apart rs qs h.1 k.1 b d)

-- where every row was read, the rows read are the rows of the file
all_read : (bytes : List ℕ) (s : Setting) (number : ℕ) → Ground bytes (s.rule.cut bytes) → (cs : List Call) → EveryRowRead bytes (fresh s number bytes) cs →
    rows_at bytes (read_rows (history bytes (fresh s number bytes) cs)) ≡ rows_in_file s bytes
all_read bytes s number g cs every =
    let w = words_of (history bytes (fresh s number bytes) cs) in
    let n = after bytes (fresh s number bytes) cs in
    let k : Stands bytes s number w n = run_stands bytes s number g cs in
    let most : length (rows_at bytes w.opened) + length n.ahead.rows ≡ length (rows_in_file s bytes) = sym (length-append (rows_at bytes w.opened) n.ahead.rows) ∙ ap length k.rows in
    let none_more : length n.ahead.rows ≤ 0 = at_most (length w.opened) (length (rows_in_file s bytes)) (length n.ahead.rows)
    (ap (λ x. x + length n.ahead.rows) (sym (length-rows bytes w.opened)) ∙ most)
    (λ l. both_ways (among (slip number (length w.opened + 1)) (slips w.read)) (only_opened_read bytes s number g w n k n.stage refl (slip number (length w.opened + 1)) (omega arith)) (every (length w.opened) l)) in
    let nothing : n.ahead.rows ≡ [] = no_rows n.ahead.rows none_more in
    let all_opened : rows_at bytes w.opened ≡ rows_in_file s bytes = sym (append-nil (rows_at bytes w.opened)) ∙ ap (λ x. rows_at bytes w.opened ++ x) (sym nothing) ∙ k.rows in
    let so_many : length w.opened ≡ length (rows_in_file s bytes) = sym (length-rows bytes w.opened) ∙ ap length all_opened in
    let each : (j : ℕ) → 1 ≤ j → j < 1 + length w.opened → among (slip number j) (slips w.read) ≡ true =
    λ j a b. let back : j - 1 + 1 ≡ j = omega arith in subst (λ x. among (slip number x) (slips w.read) ≡ true) back (every (j - 1) (omega arith)) in
    ap (rows_at bytes) (k.read_once ∙ all_rows number 1 (slips w.read) w.opened k.each_once each) ∙ all_opened
  where
    at_most : (a b c : ℕ) → a + c ≡ b → (a < b → ⊥) → c ≤ 0
    at_most a b zero e h = omega arith
    at_most a b (suc c) e h = absurd (h (omega arith))

module _ (rule : rules.Meaning) (means : ℕ → ℕ → fields.Meaning) (law : rules.Lawful rule) (lawful : (k p : ℕ) → families.Lawful (means k p)) where
  pub files_told_apart : FilesToldApart rule means
  files_told_apart layout a b i j cs ds ok fa fb ra rb =
      let s = under rule means layout in
      let l = under_file means layout lawful ok in
      let all : (bytes : List ℕ) (number : ℕ) (es : List Call) → File bytes → EveryRowRead bytes (fresh s number bytes) es →
      made bytes (fresh s number bytes) es ≡ map (λ r. report_of s r.bytes) (rows_in_file s bytes) =
      λ bytes number es f r.
      (whole_runs rule means law lawful layout bytes number es ok f).reports ∙ defined_rows s bytes (read_rows (history bytes (fresh s number bytes) es)) ∙ ap (map (λ q. report_of s q.bytes)) (all_read bytes s number (grounded rule law bytes f) es r) in
      let is_bytes : (bytes : List ℕ) → File bytes → Each (λ r. Bytes r.bytes) (rows_in_file s bytes) =
      λ bytes f. rows_are_bytes bytes (rows_in_file s bytes) f.bytes (law.parts bytes f).0 in (
        λ e. record {
          reports = all a i cs fa ra ∙ ap (λ x. map (λ r. report_of s r.bytes) (rows_in_file s x)) e ∙ sym (all b j ds fb rb);
          marks_are = ap (λ x. marks (rows_in_file s x)) e;
          tails = ap (tail_of s) e;
        },
        λ t.
            let same : texts (rows_in_file s a) ≡ texts (rows_in_file s b) =
            same_texts (report_of s) (λ x y bx by e. (l.told_apart x y bx by).0 e) (rows_in_file s a) (rows_in_file s b) (is_bytes a fa) (is_bytes b fb)
            (sym (all a i cs fa ra) ∙ t.reports ∙ all b j ds fb rb) t.marks_are in
            sym (law.covers a fa) ∙ ap (λ x. frames rule.frame x ++ tail_of s a) same ∙ ap (λ x. frames rule.frame (texts (rows_in_file s b)) ++ x) t.tails ∙ law.covers b fb,
      )

single : {X : Type 0} (x y : X) → x ∷ [] ≡ y ∷ [] → x ≡ y
single x y e = cc

pub reports_told_apart : (rule other : rules.Meaning) (means : ℕ → ℕ → fields.Meaning) → rules.Lawful rule → rules.Lawful other → ((k p : ℕ) → families.Lawful (means k p)) → ReportsToldApart rule other means
reports_told_apart rule other means law other_law lawful layout a b i j cs ds o p ok fa fb ho hp =
    let s = under rule means layout in
    let t = under other means layout in
    let l = (under_file means layout lawful ok).told_apart (bytes_at a o) (bytes_at b p) (bytes_part a o.start o.length fa.bytes) (bytes_part b p.start p.length fb.bytes) in
    let x : standing_report (after a (fresh s i a) cs).standing ≡ report_of s (bytes_at a o) ∷ [] = (whole_runs rule means law lawful layout a i cs ok fa).stands ∙ ap (map (defined s a)) ho in
    let y : standing_report (after b (fresh t j b) ds).standing ≡ report_of t (bytes_at b p) ∷ [] = (whole_runs other means other_law lawful layout b j ds ok fb).stands ∙ ap (map (defined t b)) hp in
    (λ e. l.0 (single (report_of s (bytes_at a o)) (report_of t (bytes_at b p)) (sym x ∙ e ∙ y)), λ e. x ∙ ap (λ r. r ∷ []) (l.1 e) ∙ sym y)
