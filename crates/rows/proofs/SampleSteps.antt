-- What a sample hands out, and what is then to come.
use Rattle.std.proofs.Common.{◌≡◌, ℕ, zero, suc, ◌+◌, ◌-◌, ◌<◌, min, List, [], ◌∷◌, ◌++◌, length, take, drop, sym, refl, ap, ◌∙◌, arith}
use Rattle.std.proofs.lemmas.List.{length-append}
use Rattle.rows.specs.Cuts.{RowAt, Cut, texts, frames}
use Rattle.rows.specs.Frames.{measured}
use Rattle.rows.specs.Told.{piece_of, rest, behind, rest_at}
use Rattle.rows.specs.Samples.{frames_end, sample_from}
use Rattle.rows.specs.declared.piece.Mark.{Mark}
use Rattle.rows.specs.CutLaws.{tail_told}

pub take_none : (n : ℕ) (rs : List RowAt) → n ≡ 0 → take n rs ≡ []
take_none n rs h = rw h refl

pub take_nil : (n : ℕ) (rs : List RowAt) → rs ≡ [] → take n rs ≡ []
take_nil zero rs h = refl
take_nil (suc n) rs h = rw h refl

take_first : (n : ℕ) (r : RowAt) (rs : List RowAt) → (n ≡ 0 → ⊥) → take n (r ∷ rs) ≡ r ∷ take (n - 1) rs
take_first zero r rs h = absurd (h refl)
take_first (suc n) r rs h = let e : n ≡ suc n - 1 = omega arith in ap (λ k. r ∷ take k rs) e

module _ (frame : List ℕ → Mark → List ℕ) (n p : ℕ) (file : List ℕ) (below : Cut) where
  -- no row is to come: the tail begins where the frames handed out end
  pub tail_ahead : take n below.rows ≡ [] → rest_at p file ≡ piece_of (sample_from frame n p file below)
  tail_ahead none =
      let e : min p (length file) ≡ frames_end frame n p file below =
      ap (λ k. min k (length file)) (let z : p ≡ p + 0 = omega arith in z) ∙ ap (λ rs. min (p + length (frames frame (texts rs))) (length file)) (sym none) in
      tail_told (sample_from frame n p file below) _ none (ap (λ k. record { start = k; bytes = drop k file }) e)

  -- the first row below is handed out
  module _ (some : n ≡ 0 → ⊥) (r : RowAt) (is : below.rows ≡ r ∷ rest below.rows) where
    pub row_ahead : (sample_from frame n p file below).rows ≡ r ∷ take (n - 1) (rest below.rows)
    row_ahead = ap (take n) is ∙ take_first n r (rest below.rows) some

    pub same_tail : (q : ℕ) → length file < 18446744073709551616 → q ≡ min (p + measured (length (frame r.bytes r.mark))) 18446744073709551615 → (sample_from frame (n - 1) q file (behind below)).tail ≡ (sample_from frame n p file below).tail
    same_tail q small e =
        let more = frames frame (texts (take (n - 1) (rest below.rows))) in
        let l : length (frame r.bytes r.mark ++ more) ≡ length (frame r.bytes r.mark) + length more = length-append (frame r.bytes r.mark) more in
        let k : min (q + length more) (length file) ≡ min (p + length (frame r.bytes r.mark ++ more)) (length file) = omega arith in
        ap (λ i. record { start = i; bytes = drop i file }) (k ∙ ap (λ rs. min (p + length (frames frame (texts rs))) (length file)) (sym row_ahead))
