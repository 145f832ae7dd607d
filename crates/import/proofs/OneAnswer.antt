-- What a match answers is one answer.
use Rattle.std.proofs.Common.{◌≡◌, inl, inr, ℕ, ◌+◌, List, [], ◌∷◌, map, Ok, Err, Result, sym, ◌∙◌}
use Rattle.import.specs.declared.answer.Matched.{Matched}
use Rattle.import.specs.declared.answer.Matched.TheVariants.{Same, Differs}
use Rattle.import.specs.declared.answer.Difference.TheVariants.{Report, Mark, MissingInFirst, MissingInResent, Tail}
use Rattle.import.specs.declared.answer.Side.TheVariants.{First, Resent}
use Rattle.import.specs.declared.answer.Unmatched.{Unmatched}
use Rattle.import.specs.declared.answer.Unmatched.TheVariants.{NotTaken, Unread}
use Rattle.import.specs.declared.refusal.Refusal.{Refusal}
use Rattle.import.specs.Calls.{Answer, refused, row, none, done, wrote, found, counted}
use Rattle.import.specs.Models.{under}
use Rattle.import.specs.Tells.{rows_in_file, tail_of, new_says}
use Rattle.import.specs.Matching.{RowTold, told_of, IfRefused, IfUnequal, RowsTold, FilesTold, OneAnswer}

module _ (p q : Result Matched Unmatched) where
  both : (r : Result Matched Unmatched) → p ≡ r → q ≡ r → p ≡ q
  both r d e = d ∙ sym e

  by_refusal : (a : Answer) (told : Refusal → Unmatched) (on_p on_q : Type 0) → (on_p → on_q → p ≡ q) → IfRefused a told p on_p → IfRefused a told q on_q → p ≡ q
  by_refusal (refused why) told on_p on_q on x y = both (Err (told why)) x y
  by_refusal (row o) told on_p on_q on x y = on x y
  by_refusal none told on_p on_q on x y = on x y
  by_refusal done told on_p on_q on x y = on x y
  by_refusal (wrote bytes) told on_p on_q on x y = on x y
  by_refusal (found l) told on_p on_q on x y = on x y
  by_refusal (counted c) told on_p on_q on x y = on x y

  by_unequal : {X : Type 0} (x y : X) (m : Matched) (on_p on_q : Type 0) → (on_p → on_q → p ≡ q) → IfUnequal x y m p on_p → IfUnequal x y m q on_q → p ≡ q
  by_unequal x y m on_p on_q on (inl h) (inl k) = both (Ok m) h.1 k.1
  by_unequal x y m on_p on_q on (inl h) (inr k) = absurd (h.0 k.0)
  by_unequal x y m on_p on_q on (inr h) (inl k) = absurd (k.0 h.0)
  by_unequal x y m on_p on_q on (inr h) (inr k) = on h.1 k.1

  rows_determine : (n : ℕ) (xs : List RowTold) (t : List ℕ) (ys : List RowTold) (u : List ℕ) → RowsTold p n xs t ys u → RowsTold q n xs t ys u → p ≡ q
  rows_determine n [] t [] u x y = by_unequal t u (Differs n Tail) (p ≡ Ok Same) (q ≡ Ok Same) (both (Ok Same)) x y
  rows_determine n [] t (b ∷ ys) u x y = by_refusal b.read (Unread Resent n) (p ≡ Ok (Differs n MissingInFirst)) (q ≡ Ok (Differs n MissingInFirst)) (both (Ok (Differs n MissingInFirst))) x y
  rows_determine n (a ∷ xs) t [] u x y = by_refusal a.read (Unread First n) (p ≡ Ok (Differs n MissingInResent)) (q ≡ Ok (Differs n MissingInResent)) (both (Ok (Differs n MissingInResent))) x y
  rows_determine n (a ∷ xs) t (b ∷ ys) u x y =
      let rest = λ (r : Result Matched Unmatched). RowsTold r (n + 1) xs t ys u in
      let by_mark = λ (r : Result Matched Unmatched). IfUnequal a.mark b.mark (Differs n Mark) r (rest r) in
      let by_report = λ (r : Result Matched Unmatched). IfUnequal a.report b.report (Differs n Report) r (by_mark r) in
      let by_read = λ (r : Result Matched Unmatched). IfRefused b.read (Unread Resent n) r (by_report r) in
      by_refusal a.read (Unread First n) (by_read p) (by_read q)
      (by_refusal b.read (Unread Resent n) (by_report p) (by_report q)
      (by_unequal a.report b.report (Differs n Report) (by_mark p) (by_mark q) (by_unequal a.mark b.mark (Differs n Mark) (rest p) (rest q) (rows_determine (n + 1) xs t ys u)))) x y

pub one_answer : OneAnswer
one_answer layout a b p q x y =
    let s = under a.rule a.means layout in
    let t = under b.rule b.means layout in
    let rows = λ (r : Result Matched Unmatched). FilesTold r s a.file t b.file in
    let resent = λ (r : Result Matched Unmatched). IfRefused (new_says b.means layout b.file) (NotTaken Resent) r (rows r) in
    by_refusal p q (new_says a.means layout a.file) (NotTaken First) (resent p) (resent q)
    (by_refusal p q (new_says b.means layout b.file) (NotTaken Resent) (rows p) (rows q)
    (rows_determine p q 1 (map (told_of s) (rows_in_file s a.file)) (tail_of s a.file) (map (told_of t) (rows_in_file t b.file)) (tail_of t b.file))) x y
