-- One row of a file exchanged for a carried one: what stays, and what reads alike.
use Rattle.std.proofs.Common.{◌≡◌, ℕ, suc, ◌+◌, ◌≢◌, List, [], ◌∷◌, ◌++◌, map, length, refl, sym, ap, ◌∙◌, arith, append_assoc}
use Rattle.std.proofs.lemmas.List.{map-append}
use Rattle.rows.specs.Cuts.{RowAt, Text, text, texts}
use Rattle.rows.specs.Rules as rules
use Rattle.fields.specs.Meanings as fields
use Rattle.fields.specs.Laws as families
use Rattle.import.specs.declared.answer.Opened.{Opened}
use Rattle.import.specs.Slips.{row_at, rows_at}
use Rattle.import.specs.Models.{Setting, under, Model}
use Rattle.import.specs.Calls.{Call}
use Rattle.import.specs.News.{fresh}
use Rattle.import.specs.Runs.{history, after}
use Rattle.import.specs.Words.{unread_rows}
use Rattle.import.specs.Tells.{rows_in_file, marks, bytes_at, read_says, read_makes}
use Rattle.import.specs.Promises.{Exchanges}
use Rattle.import.proofs.Heard.{Words, words_of}
use Rattle.import.proofs.Moments.{Stands}
use Rattle.import.proofs.StepLaws.{Ground, grounded, length-rows}
use Rattle.import.proofs.RunLaws.{run_stands}
use Rattle.import.proofs.WholeRuns.{open_unread, whole_runs}

-- two lists have the same at the same place
same_place : {X : Type 0} (xs us ys vs : List X) (x u : X) → length xs ≡ length us → xs ++ x ∷ ys ≡ us ++ u ∷ vs → x ≡ u
same_place [] [] ys vs x u l e = cc
same_place [] (w ∷ us) ys vs x u l e = absurd (omega arith)
same_place (z ∷ xs) [] ys vs x u l e = absurd (omega arith)
same_place (z ∷ xs) (w ∷ us) ys vs x u l e = let t : xs ++ x ∷ ys ≡ us ++ u ∷ vs = cc in same_place xs us ys vs x u (omega arith) t

-- two lists that differ in one place have the same at any other
other_place : {X : Type 0} (before behind xs us ys vs : List X) (old new x u : X) → length xs ≡ length us → (length xs ≢ length before) →
    xs ++ x ∷ ys ≡ before ++ old ∷ behind → us ++ u ∷ vs ≡ before ++ new ∷ behind → x ≡ u
other_place [] behind [] us ys vs old new x u l d e f = absurd (d refl)
other_place [] behind (z ∷ xs) [] ys vs old new x u l d e f = absurd (omega arith)
other_place [] behind (z ∷ xs) (w ∷ us) ys vs old new x u l d e f =
    let a : xs ++ x ∷ ys ≡ behind = cc in
    let b : us ++ u ∷ vs ≡ behind = cc in
    same_place xs us ys vs x u (omega arith) (a ∙ sym b)
other_place (t ∷ before) behind [] [] ys vs old new x u l d e f = cc
other_place (t ∷ before) behind [] (w ∷ us) ys vs old new x u l d e f = absurd (omega arith)
other_place (t ∷ before) behind (z ∷ xs) [] ys vs old new x u l d e f = absurd (omega arith)
other_place (t ∷ before) behind (z ∷ xs) (w ∷ us) ys vs old new x u l d e f =
    let a : xs ++ x ∷ ys ≡ before ++ old ∷ behind = cc in
    let b : us ++ u ∷ vs ≡ before ++ new ∷ behind = cc in
    other_place before behind xs us ys vs old new x u (omega arith) (λ q. d (ap suc q)) a b

marks_of : (rs : List RowAt) → marks rs ≡ map (λ t. t.mark) (texts rs)
marks_of [] = refl
marks_of (r ∷ rs) = ap (λ x. r.mark ∷ x) (marks_of rs)

-- the row that is open and unread, at its place among the rows of the file
record Placed (s : Setting) (bytes : List ℕ) (o : Opened) : Type 0 where
  pub above : List Text
  pub below : List Text
  pub its_number : o.slip.row ≡ length above + 1
  pub there : above ++ text (row_at bytes o) ∷ below ≡ texts (rows_in_file s bytes)

length-texts : (rs : List RowAt) → length (texts rs) ≡ length rs
length-texts [] = refl
length-texts (r ∷ rs) = ap suc (length-texts rs)

module _ (bytes : List ℕ) (s : Setting) (number : ℕ) (g : Ground bytes (s.rule.cut bytes)) (cs : List Call) (o : Opened) where
  placed_in : (w : Words) (n : Model) → Stands bytes s number w n → (os : List Opened) → w.opened ≡ os ++ o ∷ [] → o.slip.row ≡ length os + 1 → Placed s bytes o
  placed_in w n k os e r = record {
    above = texts (rows_at bytes os);
    below = texts n.ahead.rows;
    its_number = r ∙ ap (λ x. x + 1) (sym (length-texts (rows_at bytes os) ∙ length-rows bytes os));
    there =
        let a : rows_at bytes w.opened ≡ rows_at bytes os ++ row_at bytes o ∷ [] = ap (rows_at bytes) e ∙ map-append (row_at bytes) os (o ∷ []) in
        sym (map-append text (rows_at bytes os) (row_at bytes o ∷ n.ahead.rows))
        ∙ ap texts (sym (append_assoc (rows_at bytes os) (row_at bytes o ∷ []) n.ahead.rows) ∙ ap (λ x. x ++ n.ahead.rows) (sym a) ∙ k.rows);
  }

  placed : unread_rows (history bytes (fresh s number bytes) cs) ≡ o ∷ [] → Placed s bytes o
  placed q =
      let w = words_of (history bytes (fresh s number bytes) cs) in
      let n = after bytes (fresh s number bytes) cs in
      let k : Stands bytes s number w n = run_stands bytes s number g cs in
      let x = open_unread bytes s number g w n k n.stage refl o q in
      let u = x.unread in
      placed_in w n k u.os (u.row.opened ∙ ap (λ p. u.os ++ p ∷ []) x.same) (ap (λ p. p.slip.row) (sym x.same) ∙ ap (λ t. t.row) u.row.own)

module _ (rule : rules.Meaning) (means : ℕ → ℕ → fields.Meaning) (law : rules.Lawful rule) (lawful : (k p : ℕ) → families.Lawful (means k p)) where
  pub exchanges : Exchanges rule means
  exchanges layout a b before behind old new ok fa fb ha is_bytes carried joined =
      let s = under rule means layout in
      let x = law.exchange a fa before behind old new b ha is_bytes carried joined fb in
      record {
        marks_stay =
            marks_of (rows_in_file s a) ∙ ap (map (λ t. t.mark)) ha ∙ map-append (λ t. t.mark) before (old ∷ behind)
            ∙ sym (marks_of (rows_in_file s b) ∙ ap (map (λ t. t.mark)) x.0 ∙ map-append (λ t. t.mark) before (rules.swapped old new ∷ behind));
        tail_stays = sym x.1;
        others_read_alike = λ i j cs ds o p ho hp rows other.
            let d = placed a s i (grounded rule law a fa) cs o ho in
            let e = placed b s j (grounded rule law b fb) ds p hp in
            let same : text (row_at a o) ≡ text (row_at b p) =
            other_place before behind d.above e.above d.below e.below old (rules.swapped old new) (text (row_at a o)) (text (row_at b p))
            (omega (arith, d.its_number, e.its_number, rows)) (λ q. other (omega (arith, d.its_number))) (d.there ∙ ha) (e.there ∙ x.0) in
            let bytes_same : bytes_at a o ≡ bytes_at b p = ap (λ t. t.bytes) same in
            let m = whole_runs rule means law lawful layout a i cs ok fa in
            let n = whole_runs rule means law lawful layout b j ds ok fb in
            record {
              answers = m.reads o ho ∙ ap (read_says s) bytes_same ∙ sym (n.reads p hp);
              reports = m.makes o ho ∙ ap (read_makes s) bytes_same ∙ sym (n.makes p hp);
            };
      }
