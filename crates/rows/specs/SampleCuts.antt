-- The first rows of a lawful rule keep its laws.
use Rattle.std.specs.Prelude.{◌≡◌, ℕ, ◌+◌, List, ◌∷◌, ◌++◌, length, take, drop, refl}
use Rattle.std.proofs.Common.{sym, ap, ◌∙◌, arith}
use Rattle.std.proofs.lemmas.Grind.{common_steps}
use Rattle.std.proofs.lemmas.List.{take-map, drop-map, length-map, append_assoc, length-append, drop_at, drop_all}
use Rattle.rows.specs.Cuts.{RowAt, Text, text, texts, frames, File}
use Rattle.rows.specs.Rules.{Meaning, Lawful, ExchangeLeavesTheRest, joined, swapped}
use Rattle.rows.specs.Samples.{frames_end, sampled}
use Rattle.rows.specs.Words.{SampleRows}
use Rattle.rows.specs.CutLaws.{frames_append, texts_split, each_take, rest_part}

front_back : (n : ℕ) (rs : List RowAt) (x : List Text) → length x ≡ length (take n rs) → take n (x ++ texts (drop n rs)) ≡ x
front_back n rs x h = grind (arith, common_steps)

end_back : (n : ℕ) (rs : List RowAt) (x : List Text) → length x ≡ length (take n rs) → drop n (x ++ texts (drop n rs)) ≡ texts (drop n rs)
end_back n rs x h = grind (arith, common_steps)

swap_length : (before after : List Text) (old new : Text) → length (before ++ old ∷ after) ≡ length (before ++ new ∷ after)
swap_length before after old new = simp length-append

module _ (m : Meaning) (law : Lawful m) (n : ℕ) where
  -- what follows the frames of the first n rows: the frames of the others, and the tail below
  abbrev after : List ℕ → List ℕ
  after file = frames m.frame (texts (drop n (m.cut file).rows)) ++ (m.cut file).tail.bytes

  front_and_after : (file : List ℕ) → File file → frames m.frame (texts (take n (m.cut file).rows)) ++ after file ≡ file
  front_and_after file f =
      let rs = (m.cut file).rows in
      sym (append_assoc (frames m.frame (texts (take n rs))) (frames m.frame (texts (drop n rs))) (m.cut file).tail.bytes)
      ∙ ap (λ x. x ++ (m.cut file).tail.bytes) (sym (frames_append m.frame (texts (take n rs)) (texts (drop n rs))) ∙ ap (frames m.frame) (texts_split n rs))
      ∙ law.covers file f

  -- the sample's tail begins where the frames end, and is what follows
  tail_begins : (file : List ℕ) → File file → ((sampled n m).cut file).tail.start ≡ length (frames m.frame (texts (take n (m.cut file).rows)))
  tail_begins file f =
      let front = frames m.frame (texts (take n (m.cut file).rows)) in
      let l : length front + length (after file) ≡ length file = sym (length-append front (after file)) ∙ ap length (front_and_after file f) in
      omega arith

  tail_after : (file : List ℕ) → File file → ((sampled n m).cut file).tail.bytes ≡ after file
  tail_after file f =
      let front = frames m.frame (texts (take n (m.cut file).rows)) in
      ap (λ k. drop k file) (tail_begins file f) ∙ ap (drop (length front)) (sym (front_and_after file f)) ∙ drop_at front (after file) (length front) refl

  sample_exchange : (file : List ℕ) → File file → ExchangeLeavesTheRest (sampled n m) file
  sample_exchange file f before rear old new other e b h oe g =
      let rs = (m.cut file).rows in
      let t = (m.cut file).tail.bytes in
      let more = texts (drop n rs) in
      let mid : Text = swapped old new in
      let x : List Text = before ++ mid ∷ rear in
      let all : texts rs ≡ before ++ old ∷ (rear ++ more) = sym (texts_split n rs) ∙ ap (λ y. y ++ more) e ∙ append_assoc before (old ∷ rear) more in
      let same : x ++ more ≡ before ++ mid ∷ (rear ++ more) = append_assoc before (mid ∷ rear) more in
      let o : other ≡ joined m (before ++ mid ∷ (rear ++ more)) t =
      oe ∙ ap (λ y. frames m.frame x ++ y) (tail_after file f) ∙ sym (append_assoc (frames m.frame x) (frames m.frame more) t) ∙ ap (λ y. y ++ t) (sym (frames_append m.frame x more) ∙ ap (frames m.frame) same) in
      let k = law.exchange file f before (rear ++ more) old new other all b h o g in
      let rs' = (m.cut other).rows in
      let is : texts rs' ≡ x ++ more = k.0 ∙ sym same in
      let l : length x ≡ length (take n rs) = sym (swap_length before rear old mid) ∙ ap length (sym e) ∙ length-map (take n rs) text in
      let d : texts (drop n rs') ≡ more = sym (drop-map text n rs') ∙ ap (drop n) is ∙ end_back n rs x l in (
        sym (take-map text n rs') ∙ ap (take n) is ∙ front_back n rs x l,
        tail_after other g ∙ ap (λ y. frames m.frame y ++ (m.cut other).tail.bytes) d ∙ ap (λ y. frames m.frame more ++ y) k.1 ∙ sym (tail_after file f),
      )

  pub sample_lawful : Lawful (sampled n m)
  sample_lawful = record {
    parts = λ file f. (each_take _ n _ (law.parts file f).0, rest_part file (frames_end m.frame n 0 file (m.cut file)) (omega arith));
    no_empty = λ file f. each_take _ n _ (law.no_empty file f);
    covers = λ file f. ap (λ x. frames m.frame (texts (take n (m.cut file).rows)) ++ x) (tail_after file f) ∙ front_and_after file f;
    exchange = sample_exchange;
  }

  pub sample_words : (file : List ℕ) → File file → SampleRows n m file
  sample_words file f = record {
    first = refl;
    begins = tail_begins file f;
    goes_on = ap (λ k. drop k file) (tail_begins file f);
    all_rows = λ few. tail_after file f ∙ ap (λ rs. frames m.frame (texts rs) ++ (m.cut file).tail.bytes) (drop_all n (m.cut file).rows few);
  }
