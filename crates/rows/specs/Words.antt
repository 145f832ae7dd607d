-- What the rows of each rule are, in the rule's own words and apart from its cutting.
use Rattle.std.specs.Prelude.{◌≡◌, ℕ, ◌+◌, ◌-◌, ◌<◌, ◌≤◌, Bool, true, false, cond, not, List, [], ◌∷◌, length, take, drop, ◌==◌, ◌≢◌, slice_index, codes}
use Rattle.rows.specs.Cuts.{RowAt, texts, frames, Each, PartOf}
use Rattle.rows.specs.Rules.{Meaning}
use Rattle.rows.specs.Newlines.{newline_frame, newline_meaning}
use Rattle.rows.specs.Widths.{fixed_meaning}
use Rattle.rows.specs.Samples.{sampled}
use Rattle.rows.specs.declared.piece.Mark.{Mark}
use Rattle.rows.specs.declared.piece.Mark.TheVariants.{Ended, Unended}

-- the places of the bytes 0A, the first byte at a place
abbrev pub newlines : ℕ → List ℕ → List ℕ
newlines p [] = []
newlines p (b ∷ bs) = cond (b == 10) (p ∷ newlines (p + 1) bs) (newlines (p + 1) bs)

-- the place of the last byte of a row's frame
abbrev pub last_byte : RowAt → ℕ
last_byte r = r.start + (length (newline_frame r.bytes r.mark) - 1)

-- the places of the last bytes of the frames of ended rows, in order
abbrev pub end_after : Mark → ℕ → List ℕ → List ℕ
end_after Ended p ps = p ∷ ps
end_after Unended p ps = ps

abbrev pub ends : List RowAt → List ℕ
ends [] = []
ends (r ∷ rs) = end_after r.mark (last_byte r) (ends rs)

abbrev pub unended : Mark → Bool
unended Ended = false
unended Unended = true

-- a mark in a word
abbrev pub word : Mark → List ℕ
word Ended = codes "ended"
word Unended = codes "unended"

-- the closing row is unended
abbrev pub last_unended : List RowAt → Bool
last_unended [] = false
last_unended (r ∷ []) = unended r.mark
last_unended (r ∷ s ∷ rs) = last_unended (s ∷ rs)

-- there is a last byte, and it is not 0A
abbrev pub last_not_0_a : List ℕ → Bool
last_not_0_a [] = false
last_not_0_a (b ∷ []) = not (b == 10)
last_not_0_a (b ∷ c ∷ bs) = last_not_0_a (c ∷ bs)

-- all rows but the last are ended
abbrev pub EndedButLast : List RowAt → Type 0
EndedButLast [] = Unit {0}
EndedButLast (r ∷ []) = Unit {0}
EndedButLast (r ∷ s ∷ rs) = (r.mark ≡ Ended) × EndedButLast (s ∷ rs)

-- Newline: each row's frame stands in the file where the row starts; the places of 0A in the file are the last bytes of the frames of ended rows,
-- in order, so that each is the last byte of exactly one; no row holds 0A; all rows but the last are ended, and the last is unended
-- exactly when the file has a last byte other than 0A; the tail is empty.
pub record NewlineRows (file : List ℕ) : Type 0 where
  pub frames_there : Each (λ r. PartOf file r.start (newline_frame r.bytes r.mark)) (newline_meaning.cut file).rows
  pub ends_are_newlines : ends (newline_meaning.cut file).rows ≡ newlines 0 file
  pub none_inside : Each (λ r. (i : ℕ) → i < length r.bytes → slice_index r.bytes i ≢ 10) (newline_meaning.cut file).rows
  pub ended_but_last : EndedButLast (newline_meaning.cut file).rows
  pub closing : last_unended (newline_meaning.cut file).rows ≡ last_not_0_a file
  pub no_tail : (newline_meaning.cut file).tail.bytes ≡ []

-- rows that start one width after another
abbrev pub Stacked : ℕ → ℕ → List RowAt → Type 0
Stacked w p [] = Unit {0}
Stacked w p (r ∷ rs) = (r.start ≡ p) × Stacked w (p + w) rs

-- Fixed width: every row has w bytes and is ended, they start one width after another from 0 on, and the tail has fewer than w bytes.
pub record FixedRows (w : ℕ) (file : List ℕ) : Type 0 where
  pub wide : Each (λ r. (length r.bytes ≡ w) × (r.mark ≡ Ended)) ((fixed_meaning w).cut file).rows
  pub stacked : Stacked w 0 ((fixed_meaning w).cut file).rows
  pub short_tail : length ((fixed_meaning w).cut file).tail.bytes < w

-- Sample: the first n rows below; the tail begins where their frames end, and is the tail below where there are no more rows.
pub record SampleRows (n : ℕ) (m : Meaning) (file : List ℕ) : Type 0 where
  pub first : ((sampled n m).cut file).rows ≡ take n (m.cut file).rows
  pub begins : ((sampled n m).cut file).tail.start ≡ length (frames m.frame (texts (take n (m.cut file).rows)))
  pub goes_on : ((sampled n m).cut file).tail.bytes ≡ drop (length (frames m.frame (texts (take n (m.cut file).rows)))) file
  pub all_rows : length (m.cut file).rows ≤ n → ((sampled n m).cut file).tail.bytes ≡ (m.cut file).tail.bytes
