-- The rows of the newline rule, in its own words.
use Rattle.std.proofs.Common.{◌≡◌, ℕ, zero, suc, ◌+◌, ◌-◌, ◌<◌, Bool, true, false, cond, not, eqb, List, [], ◌∷◌, ◌++◌, length, get_or, refl, ap, ◌∙◌, arith}
use borrow.Author.Tests.{eqb-false}
use Rattle.std.proofs.lemmas.List.{length-append}
use Rattle.std.proofs.lemmas.Bool.{and_parts, not-true}
use Rattle.rows.specs.Cuts.{RowAt, texts, Each}
use Rattle.rows.specs.Newlines.{put, lines, lacks, some, newline_frame, newline_carries}
use Rattle.rows.specs.Words.{newlines, end_after, ends, last_unended, last_not_0_a, EndedButLast, NewlineRows}
use Rattle.rows.specs.declared.piece.Mark.{Mark}
use Rattle.rows.specs.declared.piece.Mark.TheVariants.{Ended, Unended}
use Rattle.rows.specs.CutLaws.{cons_not_nil}
use Rattle.rows.specs.NewlineCuts.{StartsAt, lines_starts, frames_parts, Good, lines_good}

ends_more : (m : Mark) (p q b : ℕ) (bytes ps : List ℕ) → q ≡ p + 1 → end_after m (p + (length (newline_frame (b ∷ bytes) m) - 1)) ps ≡ end_after m (q + (length (newline_frame bytes m) - 1)) ps
ends_more Ended p q b bytes ps h =
    let l : length (bytes ++ (10 ∷ [])) ≡ length bytes + 1 = length-append bytes (10 ∷ []) in
    let e : p + (suc (length (bytes ++ (10 ∷ []))) - 1) ≡ q + (length (bytes ++ (10 ∷ [])) - 1) = omega arith in
    ap (λ k. k ∷ ps) e
ends_more Unended p q b bytes ps h = refl

put_ends : (t : Bool) (p b : ℕ) (rs : List RowAt) → StartsAt (p + 1) rs → ends (put t p b rs) ≡ cond t (p ∷ ends rs) (ends rs)
put_ends true p b rs h = let e : p + 0 ≡ p = omega arith in ap (λ k. k ∷ ends rs) e
put_ends false p b [] h = refl
put_ends false p b (r ∷ rs) h = ends_more r.mark p r.start b r.bytes (ends rs) h

lines_ends : (p : ℕ) (bs : List ℕ) → ends (lines p bs) ≡ newlines p bs
lines_ends p [] = refl
lines_ends p (b ∷ bs) =
    put_ends (eqb b 10) p b (lines (p + 1) bs) (lines_starts (p + 1) bs) ∙ ap (λ x. cond (eqb b 10) (p ∷ x) x) (lines_ends (p + 1) bs)

-- rows that are carried, all but the last ended
abbrev Clean : List ℕ → Type 0
Clean bytes = (i : ℕ) → i < length bytes → get_or bytes i 0 ≡ 10 → ⊥

lacks_clean : (bytes : List ℕ) → lacks bytes ≡ true → Clean bytes
lacks_clean [] h i l e = absurd (omega arith)
lacks_clean (b ∷ bytes) h zero l e = eqb-false b 10 (not-true (eqb b 10) (and_parts (not (eqb b 10)) (lacks bytes) h).0) e
lacks_clean (b ∷ bytes) h (suc i) l e = lacks_clean bytes (and_parts (not (eqb b 10)) (lacks bytes) h).1 i (omega arith) e

carried_clean : (bytes : List ℕ) (m : Mark) → newline_carries bytes m ≡ true → Clean bytes
carried_clean bytes Ended h = lacks_clean bytes h
carried_clean bytes Unended h = lacks_clean bytes (and_parts (lacks bytes) (some bytes) h).0

good_clean : (rs : List RowAt) → Good (texts rs) → Each (λ r. Clean r.bytes) rs
good_clean [] h = tt
good_clean (r ∷ []) h = (carried_clean r.bytes r.mark h, tt)
good_clean (r ∷ q ∷ rs) h = (carried_clean r.bytes r.mark h.0, good_clean (q ∷ rs) h.2)

good_ended : (rs : List RowAt) → Good (texts rs) → EndedButLast rs
good_ended [] h = tt
good_ended (r ∷ []) h = tt
good_ended (r ∷ q ∷ rs) h = (h.1, good_ended (q ∷ rs) h.2)

put_some : (t : Bool) (p b : ℕ) (rs : List RowAt) → put t p b rs ≡ [] → ⊥
put_some true p b rs = cons_not_nil _ _
put_some false p b [] = cons_not_nil _ _
put_some false p b (r ∷ rs) = cons_not_nil _ _

put_alone : (t : Bool) (p b : ℕ) → last_unended (put t p b []) ≡ not t
put_alone true p b = refl
put_alone false p b = refl

put_last : (t : Bool) (p b : ℕ) (rs : List RowAt) → (rs ≡ [] → ⊥) → last_unended (put t p b rs) ≡ last_unended rs
put_last t p b [] n = absurd (n refl)
put_last true p b (r ∷ rs) n = refl
put_last false p b (r ∷ []) n = refl
put_last false p b (r ∷ q ∷ rs) n = refl

lines_last : (p : ℕ) (bs : List ℕ) → last_unended (lines p bs) ≡ last_not_0_a bs
lines_last p [] = refl
lines_last p (b ∷ []) = put_alone (eqb b 10) p b
lines_last p (b ∷ a ∷ bs) =
    put_last (eqb b 10) p b (lines (p + 1) (a ∷ bs)) (put_some (eqb a 10) (p + 1) a (lines (p + 1 + 1) bs)) ∙ lines_last (p + 1) (a ∷ bs)

pub newline_words : (file : List ℕ) → NewlineRows file
newline_words file = record {
  frames_there = frames_parts file;
  ends_are_newlines = lines_ends 0 file;
  none_inside = good_clean (lines 0 file) (lines_good 0 file);
  ended_but_last = good_ended (lines 0 file) (lines_good 0 file);
  closing = lines_last 0 file;
  no_tail = refl;
}
