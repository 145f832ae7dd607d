-- Writing a frame into a buffer: when it is refused, and what it leaves.
use Rattle.std.proofs.Common.{◌≡◌, ℕ, ◌+◌, ◌<◌, ◌≤◌, leb, true, false, ◌&&◌, List, [], ◌∷◌, ◌++◌, length, take, drop, set, Ok, Err, sym, refl, ap, ◌∙◌, add-one, arith, le-leb}
use borrow.Author.Tests.{lt-leb}
use Rattle.std.proofs.lemmas.Bool.{and_from, and_right}
use Rattle.std.proofs.lemmas.List.{take-append-drop, length-take-le, take_all, length-append, append_assoc, set_split}
use Rattle.rows.specs.declared.refusal.Refusal.TheVariants.{BufferTooShort}
use Rattle.rows.specs.Frames.{laid, framed}

module _ (frame : List ℕ → List ℕ) (n : ℕ) (buffer : List ℕ) where
  -- the frame does not fit
  pub no_room : length buffer < length (frame (take n buffer)) → framed frame n buffer ≡ (Err BufferTooShort, buffer)
  no_room h =
      let full : (leb n (length buffer) && leb (length (frame (take n buffer))) (length buffer)) ≡ false = and_right (leb n (length buffer)) _ (lt-leb (length (frame (take n buffer))) (length buffer) h) in
      rw full refl

  pub fits : n ≤ length buffer → length (frame (take n buffer)) ≤ length buffer → framed frame n buffer ≡ (Ok (length (frame (take n buffer))), laid (frame (take n buffer)) buffer)
  fits h k =
      let room : (leb n (length buffer) && leb (length (frame (take n buffer))) (length buffer)) ≡ true = and_from (leb n (length buffer)) _ (le-leb n (length buffer) h) (le-leb (length (frame (take n buffer))) (length buffer) k) in
      rw room refl

-- a row that is its own frame is there already
pub row_alone : (n : ℕ) (buffer : List ℕ) → n ≤ length buffer → framed (λ row. row) n buffer ≡ (Ok n, buffer)
row_alone n buffer h =
    let l : length (take n buffer) ≡ n = length-take-le n buffer h in
    fits (λ row. row) n buffer h (omega arith) ∙ ap (λ k. (Ok k, take n buffer ++ drop k buffer)) l ∙ ap (λ x. (Ok n, x)) (take-append-drop n buffer)

-- a row and one byte more: that byte is written behind the row
pub row_and_byte : (n b : ℕ) (buffer : List ℕ) → n < length buffer → framed (λ row. row ++ (b ∷ [])) n buffer ≡ (Ok (n + 1), set buffer n b)
row_and_byte n b buffer h =
    let l : length (take n buffer) ≡ n = length-take-le n buffer (omega arith) in
    let k : length (take n buffer ++ (b ∷ [])) ≡ n + 1 = length-append (take n buffer) (b ∷ []) ∙ ap (λ i. i + 1) l in
    fits (λ row. row ++ (b ∷ [])) n buffer (omega arith) (omega arith)
    ∙ ap (λ i. (Ok i, (take n buffer ++ (b ∷ [])) ++ drop i buffer)) k
    ∙ ap (λ x. (Ok (n + 1), x)) (append_assoc (take n buffer) (b ∷ []) (drop (n + 1) buffer) ∙ ap (λ i. take n buffer ++ b ∷ drop i buffer) (add-one n) ∙ sym (set_split buffer n b h))

pub byte_too_many : (n b : ℕ) (buffer : List ℕ) → length buffer ≤ n → framed (λ row. row ++ (b ∷ [])) n buffer ≡ (Err BufferTooShort, buffer)
byte_too_many n b buffer h =
    let l : length (take n buffer ++ (b ∷ [])) ≡ length buffer + 1 = length-append (take n buffer) (b ∷ []) ∙ ap (λ x. length x + 1) (take_all n buffer h) in
    no_room (λ row. row ++ (b ∷ [])) n buffer (omega arith)
