-- A match answers that two exports are the same exactly where their files are equal.
use Rattle.std.proofs.Common.{◌≡◌, inl, inr, ℕ, ◌+◌, Bool, true, false, List, [], ◌∷◌, ◌++◌, map, None, Ok, Err, Result, refl, sym, ap, subst, ◌∙◌}
use Rattle.rows.specs.Cuts.{RowAt, texts, frames, Each, Bytes, File}
use Rattle.rows.specs.Rules as rules
use Rattle.fields.specs.Meanings as fields
use Rattle.fields.specs.Laws as families
use Rattle.layout.specs.Shapes.{sorts}
use Rattle.layout.specs.Files.{refusal}
use Rattle.report.proofs.AcceptedFiles.{under_file}
use Rattle.import.specs.declared.answer.Matched.{Matched}
use Rattle.import.specs.declared.answer.Matched.TheVariants.{Same, Differs}
use Rattle.import.specs.declared.answer.Difference.{Difference}
use Rattle.import.specs.declared.answer.Difference.TheVariants.{Report, Mark, MissingInFirst, MissingInResent, Tail}
use Rattle.import.specs.declared.answer.Side.TheVariants.{First, Resent}
use Rattle.import.specs.declared.answer.Unmatched.{Unmatched}
use Rattle.import.specs.declared.answer.Unmatched.TheVariants.{NotTaken, Unread}
use Rattle.import.specs.Models.{Setting, under}
use Rattle.import.specs.declared.refusal.Refusal.{Refusal}
use Rattle.import.specs.Calls.{Answer, refused, row, none, done, wrote, found, counted}
use Rattle.import.specs.News.{untakable}
use Rattle.import.specs.Steps.{report_of}
use Rattle.import.specs.Tells.{rows_in_file, tail_of, marks, refusing, says, read_says, new_says}
use Rattle.import.specs.Matching.{Export, told_of, IfRefused, IfUnequal, RowsTold, FilesTold, Told, SameWhereRead, SameExactly}
use Rattle.import.proofs.MatchLaws.{gone_past}
use Rattle.import.proofs.Fresh.{Acceptable, acceptable}
use Rattle.import.proofs.TwoFiles.{rows_are_bytes, same_texts}

abbrev Readable : Setting → List RowAt → Type 0
Readable s rs = Each (λ r. read_says s r.bytes ≡ done) rs

-- a match that is not refused has gone on behind each call
gone_ok : (a : Answer) (told : Refusal → Unmatched) (m : Matched) (on : Type 0) → IfRefused a told (Ok m) on → on
gone_ok (refused why) told m on e = absurd cc
gone_ok (row o) told m on h = h
gone_ok none told m on h = h
gone_ok done told m on h = h
gone_ok (wrote bytes) told m on h = h
gone_ok (found l) told m on h = h
gone_ok (counted c) told m on h = h

-- and a call that has no other answers was done
done_ok : (ts : List (Bool × Refusal)) (told : Refusal → Unmatched) (m : Matched) (on : Type 0) → IfRefused (says ts done) told (Ok m) on → says ts done ≡ done
done_ok [] told m on h = refl
done_ok (t ∷ ts) told m on h = by_test t.0 refl (done_ok ts told m on) h
  where
    by_test : (b : Bool) → t.0 ≡ b → (IfRefused (says ts done) told (Ok m) on → says ts done ≡ done) → IfRefused (refusing b t.1 (says ts done)) told (Ok m) on → refusing t.0 t.1 (says ts done) ≡ done
    by_test true e rest h = absurd cc
    by_test false e rest h = ap (λ x. refusing x t.1 (says ts done)) e ∙ rest h

-- where nothing differs, two are equal, and the match goes on
gone_on : {X : Type 0} (x y : X) (n : ℕ) (how : Difference) (on : Type 0) → IfUnequal x y (Differs n how) (Ok Same) on → (x ≡ y) × on
gone_on x y n how on (inl (d, e)) = absurd cc
gone_on x y n how on (inr w) = w

-- of two that are equal the match goes on
gone_equal : {X : Type 0} (x : X) (m : Matched) (res : Result Matched Unmatched) (on : Type 0) → IfUnequal x x m res on → on
gone_equal x m res on (inl w) = absurd (w.0 refl)
gone_equal x m res on (inr w) = w.1

-- nothing differs in all rows and the tail
told_same : (s : Setting) (t u : List ℕ) (n : ℕ) (rs qs : List RowAt) → RowsTold (Ok Same) n (map (told_of s) rs) t (map (told_of s) qs) u →
    (map (λ r. report_of s r.bytes) rs ≡ map (λ r. report_of s r.bytes) qs) × (marks rs ≡ marks qs) × (t ≡ u)
told_same s t u n [] [] w = (refl, refl, (gone_on t u n Tail (Ok Same ≡ Ok Same) w).0)
told_same s t u n [] (q ∷ qs) w = let e : Ok Same ≡ Ok (Differs n MissingInFirst) = gone_ok (read_says s q.bytes) (Unread Resent n) Same (Ok Same ≡ Ok (Differs n MissingInFirst)) w in absurd cc
told_same s t u n (r ∷ rs) [] w = let e : Ok Same ≡ Ok (Differs n MissingInResent) = gone_ok (read_says s r.bytes) (Unread First n) Same (Ok Same ≡ Ok (Differs n MissingInResent)) w in absurd cc
told_same s t u n (r ∷ rs) (q ∷ qs) w =
    let rest = RowsTold (Ok Same) (n + 1) (map (told_of s) rs) t (map (told_of s) qs) u in
    let by_mark = IfUnequal r.mark q.mark (Differs n Mark) (Ok Same) rest in
    let by_report = IfUnequal (report_of s r.bytes) (report_of s q.bytes) (Differs n Report) (Ok Same) by_mark in
    let past = gone_ok (read_says s q.bytes) (Unread Resent n) Same by_report (gone_ok (read_says s r.bytes) (Unread First n) Same (IfRefused (read_says s q.bytes) (Unread Resent n) (Ok Same) by_report) w) in
    let e = gone_on (report_of s r.bytes) (report_of s q.bytes) n Report by_mark past in
    let d = gone_on r.mark q.mark n Mark rest e.1 in
    let i = told_same s t u (n + 1) rs qs d.1 in (
      ap (λ x. x ∷ map (λ r. report_of s r.bytes) rs) e.0 ∙ ap (λ x. report_of s q.bytes ∷ x) i.0,
      ap (λ x. x ∷ marks rs) d.0 ∙ ap (λ x. q.mark ∷ x) i.1,
      i.2,
    )

-- of the same rows and the same tail nothing differs, where each read is accepted
same_told : (s : Setting) (t : List ℕ) (res : Result Matched Unmatched) (n : ℕ) (rs : List RowAt) → Readable s rs → RowsTold res n (map (told_of s) rs) t (map (told_of s) rs) t → res ≡ Ok Same
same_told s t res n [] h w = gone_equal t (Differs n Tail) res (res ≡ Ok Same) w
same_told s t res n (r ∷ rs) h w =
    let rest = RowsTold res (n + 1) (map (told_of s) rs) t (map (told_of s) rs) t in
    let by_mark = IfUnequal r.mark r.mark (Differs n Mark) res rest in
    let by_report = IfUnequal (report_of s r.bytes) (report_of s r.bytes) (Differs n Report) res by_mark in
    let past = gone_past (read_says s r.bytes) (Unread Resent n) res by_report h.0 (gone_past (read_says s r.bytes) (Unread First n) res (IfRefused (read_says s r.bytes) (Unread Resent n) res by_report) h.0 w) in
    same_told s t res (n + 1) rs h.1 (gone_equal r.mark (Differs n Mark) res rest (gone_equal (report_of s r.bytes) (Differs n Report) res by_mark past))

-- and where the match is not refused
same_ok : (s : Setting) (t : List ℕ) (m : Matched) (n : ℕ) (rs : List RowAt) → RowsTold (Ok m) n (map (told_of s) rs) t (map (told_of s) rs) t → m ≡ Same
same_ok s t m n [] w = let e : Ok m ≡ Ok Same = gone_equal t (Differs n Tail) (Ok m) (Ok m ≡ Ok Same) w in cc
same_ok s t m n (r ∷ rs) w =
    let rest = RowsTold (Ok m) (n + 1) (map (told_of s) rs) t (map (told_of s) rs) t in
    let by_mark = IfUnequal r.mark r.mark (Differs n Mark) (Ok m) rest in
    let by_report = IfUnequal (report_of s r.bytes) (report_of s r.bytes) (Differs n Report) (Ok m) by_mark in
    let past = gone_ok (read_says s r.bytes) (Unread Resent n) m by_report (gone_ok (read_says s r.bytes) (Unread First n) m (IfRefused (read_says s r.bytes) (Unread Resent n) (Ok m) by_report) w) in
    same_ok s t m (n + 1) rs (gone_equal r.mark (Differs n Mark) (Ok m) rest (gone_equal (report_of s r.bytes) (Differs n Report) (Ok m) by_mark past))

module _ (rule : rules.Meaning) (means : ℕ → ℕ → fields.Meaning) (law : rules.Lawful rule) (lawful : (k p : ℕ) → families.Lawful (means k p)) (layout a b : List ℕ) where
  -- equal files, from equal reports, marks and tails
  from_same : refusal (sorts means) layout ≡ None → File a → File b → FilesTold (Ok Same) (under rule means layout) a (under rule means layout) b → a ≡ b
  from_same ok fa fb w =
      let s = under rule means layout in
      let l = under_file means layout lawful ok in
      let is_bytes : (bytes : List ℕ) → File bytes → Each (λ r. Bytes r.bytes) (rows_in_file s bytes) =
      λ bytes f. rows_are_bytes bytes (rows_in_file s bytes) f.bytes (law.parts bytes f).0 in
      let t = told_same s (tail_of s a) (tail_of s b) 1 (rows_in_file s a) (rows_in_file s b) w in
      let same : texts (rows_in_file s a) ≡ texts (rows_in_file s b) =
      same_texts (report_of s) (λ x y bx by e. (l.told_apart x y bx by).0 e) (rows_in_file s a) (rows_in_file s b) (is_bytes a fa) (is_bytes b fb) t.0 t.1 in
      sym (law.covers a fa) ∙ ap (λ x. frames rule.frame x ++ tail_of s a) same ∙ ap (λ x. frames rule.frame (texts (rows_in_file s b)) ++ x) t.2 ∙ law.covers b fb

module _ (layout : List ℕ) (a b : Export) (law : rules.Lawful a.rule) (lawful : (k p : ℕ) → families.Lawful (a.means k p)) (ba : Bytes a.file) (bb : Bytes b.file) (same_rule : a.rule ≡ b.rule) (same_means : a.means ≡ b.means)
    (ta : new_says a.means layout a.file ≡ done) (tb : new_says b.means layout b.file ≡ done) where
  one_setting : under b.rule b.means layout ≡ under a.rule a.means layout
  one_setting = ap (λ r. under r b.means layout) (sym same_rule) ∙ ap (λ x. under a.rule x layout) (sym same_means)

  -- both exports are taken, and their rows told under one setting
  rows_told : (res : Result Matched Unmatched) → Told layout a b res → FilesTold res (under a.rule a.means layout) a.file (under a.rule a.means layout) b.file
  rows_told res told =
      let s = under a.rule a.means layout in
      let files = FilesTold res s a.file (under b.rule b.means layout) b.file in
      subst (λ x. FilesTold res s a.file x b.file) one_setting
      (gone_past (new_says b.means layout b.file) (NotTaken Resent) res files tb (gone_past (new_says a.means layout a.file) (NotTaken First) res (IfRefused (new_says b.means layout b.file) (NotTaken Resent) res files) ta told))

  equal_files : FilesTold (Ok Same) (under a.rule a.means layout) a.file (under a.rule a.means layout) b.file → a.file ≡ b.file
  equal_files w =
      let here : Acceptable a.means layout a.file = acceptable a.means layout a.file ta in
      let there : Acceptable b.means layout b.file = acceptable b.means layout b.file tb in
      from_same a.rule a.means law lawful layout a.file b.file here.accepted (record { bytes = ba; fits = here.fits }) (record { bytes = bb; fits = there.fits }) w

pub same_exactly : (layout : List ℕ) (a b : Export) (res : Result Matched Unmatched) → rules.Lawful a.rule → ((k p : ℕ) → families.Lawful (a.means k p)) → Bytes a.file → Bytes b.file →
    Told layout a b res → SameExactly layout a b res
same_exactly layout a b res law lawful ba bb told same_rule same_means ta tb ra rb =
    let s = under a.rule a.means layout in
    let rows = rows_told layout a b law lawful ba bb same_rule same_means ta tb res told in (
      λ e. equal_files layout a b law lawful ba bb same_rule same_means ta tb (subst (λ x. FilesTold x s a.file s b.file) e rows),
      λ e. same_told s (tail_of s a.file) res 1 (rows_in_file s a.file) ra (subst (λ x. FilesTold res s a.file s x) (sym e) rows),
    )

pub same_where_read : (layout : List ℕ) (a b : Export) (res : Result Matched Unmatched) → rules.Lawful a.rule → ((k p : ℕ) → families.Lawful (a.means k p)) → Bytes a.file → Bytes b.file →
    Told layout a b res → SameWhereRead a b res
same_where_read layout a b (Err why) law lawful ba bb told = tt
same_where_read layout a b (Ok m) law lawful ba bb told = λ same_rule same_means.
    let s = under a.rule a.means layout in
    let files = FilesTold (Ok m) s a.file (under b.rule b.means layout) b.file in
    let second = IfRefused (new_says b.means layout b.file) (NotTaken Resent) (Ok m) files in
    let ta = done_ok (untakable a.means layout a.file) (NotTaken First) m second told in
    let tb = done_ok (untakable b.means layout b.file) (NotTaken Resent) m files (gone_ok (new_says a.means layout a.file) (NotTaken First) m second told) in
    let rows = rows_told layout a b law lawful ba bb same_rule same_means ta tb (Ok m) told in (
      λ e. equal_files layout a b law lawful ba bb same_rule same_means ta tb (subst (λ x. FilesTold (Ok x) s a.file s b.file) e rows),
      λ e. same_ok s (tail_of s a.file) m 1 (rows_in_file s a.file) (subst (λ x. FilesTold (Ok m) s a.file s x) (sym e) rows),
    )
