-- What the newline rule hands out, and what is then to come.
use Rattle.std.proofs.Common.{◌≡◌, ℕ, zero, suc, ◌+◌, ◌<◌, ◌≤◌, min, Bool, true, false, not, ◌&&◌, ◌||◌, eqb, List, [], ◌∷◌, ◌++◌, length, get_or, take, drop, sym, refl, ap, ◌∙◌, arith, eq-eqb, ne_eqb, eqb-true}
use borrow.Author.Tests.{eqb-false}
use Rattle.std.proofs.lemmas.List.{drop-drop, drop_more, drop_all, take-append-drop, length-take-le, get_or-take}
use Rattle.std.proofs.lemmas.Bool.{and_from, not_from_false}
use Rattle.std.specs.List.{list_any}
use Rattle.rows.specs.Told.{HandsOut, TellsTail, rest_at}
use Rattle.rows.specs.Newlines.{lines, lacks, newline_from}
use Rattle.rows.specs.declared.piece.Mark.TheVariants.{Ended, Unended}
use Rattle.rows.specs.CutLaws.{hands_out, tells_tail}
use Rattle.rows.specs.NewlineCuts.{line_ended, line_unended}

-- bytes none of which is 0A
pub lacks_all : (bs : List ℕ) → ((k : ℕ) → k < length bs → get_or bs k 0 ≡ 10 → ⊥) → lacks bs ≡ true
lacks_all [] h = refl
lacks_all (b ∷ bs) h = and_from (not (eqb b 10)) (lacks bs) (not_from_false (eqb b 10) (ne_eqb b 10 (h 0 (omega arith)))) (lacks_all bs (λ k l. h (suc k) (omega arith)))

and_none : (t : Bool) → (t && false) ≡ false
and_none true = refl
and_none false = refl

-- bytes one of which is 0A
pub lacks_not : (bs : List ℕ) (k : ℕ) → k < length bs → get_or bs k 0 ≡ 10 → lacks bs ≡ false
lacks_not [] k h e = absurd (omega arith)
lacks_not (b ∷ bs) zero h e = ap (λ t. not t && lacks bs) (eq-eqb b 10 e)
lacks_not (b ∷ bs) (suc k) h e = ap (λ t. not (eqb b 10) && t) (lacks_not bs k (omega arith) e) ∙ and_none (not (eqb b 10))

-- a search for 0A runs to the end exactly where there is none
pub search_ends : (t : Bool) (bs : List ℕ) (r : ℕ) → eqb r (length bs) ≡ t → r ≤ length bs → ((k : ℕ) → 0 ≤ k → k < r → get_or bs k 0 ≡ 10 → ⊥) → (r < length bs → get_or bs r 0 ≡ 10) → t ≡ lacks bs
search_ends true bs r e h before found = let l = eqb-true r (length bs) e in sym (lacks_all bs (λ k less. before k (omega arith) (omega arith)))
search_ends false bs r e h before found = let l = eqb-false r (length bs) e in let less : r < length bs = omega arith in sym (lacks_not bs r less (found less))

not_either : (t u : Bool) → not (t || u) ≡ (not t && not u)
not_either true u = refl
not_either false u = refl

pub lacks_is : (bs : List ℕ) → not (list_any (λ b. eqb b 10) bs) ≡ lacks bs
lacks_is [] = refl
lacks_is (b ∷ bs) = not_either (eqb b 10) _ ∙ ap (λ t. not (eqb b 10) && t) (lacks_is bs)

-- past the file's end no row is to come
pub none_ahead : (p : ℕ) (file : List ℕ) → length file ≤ p → TellsTail (newline_from p file) (rest_at p file)
none_ahead p file h =
    let m : min p (length file) ≡ length file = omega arith in
    tells_tail (newline_from p file) _ (ap (lines p) (drop_all p file h)) (ap (λ k. record { start = k; bytes = drop k file }) m ∙ ap (λ b. record { start = length file; bytes = b }) (drop_all (length file) file (omega arith)))

-- bs is the file from a place on
module _ (p : ℕ) (file bs : List ℕ) (is : bs ≡ drop p file) where
  -- the first 0A stands n bytes behind the place
  pub ended_ahead : (n : ℕ) → n < length bs → get_or bs n 0 ≡ 10 → ((k : ℕ) → k < n → get_or bs k 0 ≡ 10 → ⊥) → HandsOut (newline_from p file) (record { start = p; bytes = take n bs; mark = Ended }) (newline_from (p + n + 1) file)
  ended_ahead n h found before =
      let l : length (take n bs) ≡ n = length-take-le n bs (omega arith) in
      let clean : lacks (take n bs) ≡ true = lacks_all (take n bs) (λ k less e. before k (omega arith) (sym (get_or-take n bs k 0 (omega arith)) ∙ e)) in
      let d : drop n bs ≡ 10 ∷ drop (p + n + 1) file =
      drop_more bs n 0 h ∙ ap (λ b. b ∷ drop (n + 1) bs) found ∙ ap (λ x. 10 ∷ drop (n + 1) x) is ∙ ap (λ x. 10 ∷ x) (drop-drop (n + 1) p file ∙ ap (λ k. drop k file) (let e : p + (n + 1) ≡ p + n + 1 = omega arith in e)) in
      hands_out (newline_from p file) _ _ (
      ap (lines p) (sym is ∙ sym (take-append-drop n bs) ∙ ap (λ x. take n bs ++ x) d)
      ∙ line_ended p (take n bs) (drop (p + n + 1) file) clean
      ∙ ap (λ k. record { start = p; bytes = take n bs; mark = Ended } ∷ lines (p + k + 1) (drop (p + n + 1) file)) l
      )

  -- there is none
  pub unended_ahead : p < length file → ((k : ℕ) → k < length bs → get_or bs k 0 ≡ 10 → ⊥) → HandsOut (newline_from p file) (record { start = p; bytes = bs; mark = Unended }) (newline_from (length file) file)
  unended_ahead h before =
      let d : bs ≡ get_or file p 0 ∷ drop (p + 1) file = is ∙ drop_more file p 0 h in
      hands_out (newline_from p file) _ _ (
      ap (lines p) (sym is ∙ d)
      ∙ line_unended p (get_or file p 0) (drop (p + 1) file) (ap lacks (sym d) ∙ lacks_all bs before)
      ∙ ap (λ x. record { start = p; bytes = x; mark = Unended } ∷ []) (sym d)
      ∙ ap (λ x. record { start = p; bytes = bs; mark = Unended } ∷ lines (length file) x) (sym (drop_all (length file) file (omega arith)))
      )
