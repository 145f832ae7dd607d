-- A row laid into a buffer and turned into its frame there.
use Rattle.std.proofs.Common.{◌≡◌, ℕ, ◌<◌, ◌≤◌, ◌&&◌, cond, nat_le, List, ◌++◌, length, take, drop, Some, None, Option, Ok, Result, sym, refl, ap, ◌∙◌, ap₂, arith, length-append, length-drop}
use Rattle.std.proofs.lemmas.List.{take_at}
use Rattle.std.proofs.lemmas.Slice.{drop-append-drop}
use Rattle.std.proofs.lemmas.Bool.{le-leb, lt-leb}
use Rattle.std.specs.Option.{ok_or}
use Rattle.rows.specs.declared.refusal.Refusal.{Refusal}
use Rattle.rows.specs.declared.refusal.Refusal.TheVariants.{BufferTooShort}
use Rattle.rows.specs.Frames.{laid, framed}
use Rattle.printer.specs.Frames.{LaysBoth, PutsShorter}
use Rattle.printer.specs.Puts.{filled, refused, put, PutsFirst}

pub put_fits : (bytes buffer : List ℕ) → length bytes ≤ length buffer → put bytes buffer ≡ filled bytes buffer
put_fits bytes buffer h = ap (λ t. cond t (filled bytes buffer) (refused buffer)) (le-leb (length bytes) (length buffer) h)

pub put_full : (bytes buffer : List ℕ) → length buffer < length bytes → put bytes buffer ≡ refused buffer
put_full bytes buffer h = ap (λ t. cond t (filled bytes buffer) (refused buffer)) (lt-leb (length bytes) (length buffer) h)

laid_length : (w buffer : List ℕ) → length w ≤ length buffer → length (laid w buffer) ≡ length buffer
laid_length w buffer h = omega (arith, length-append w (drop (length w) buffer), length-drop (length w) buffer)

pub take_laid : (w buffer : List ℕ) → take (length w) (laid w buffer) ≡ w
take_laid w buffer = take_at w (drop (length w) buffer) (length w) refl

-- more bytes laid over others
pub laid_over : (w v buffer : List ℕ) → length v ≤ length w → laid w (laid v buffer) ≡ laid w buffer
laid_over w v buffer h = ap (λ x. w ++ x) (drop-append-drop (length v) buffer v (length w) h refl)

-- a row that is laid into a buffer is turned into its frame there
pub framed_both : (frame : List ℕ → List ℕ) (row buffer now : List ℕ) (n : ℕ) → PutsFirst row buffer (Some n) now → length (frame row) ≤ length buffer → framed frame n now ≡ filled (frame row) (laid row buffer)
framed_both frame row buffer now n p k =
    let b = laid row buffer in
    let l = laid_length row buffer p.1 in
    ap₂ (framed frame) p.0 p.2
    ∙ ap (λ r. cond (nat_le (length row) (length b) && nat_le (length (frame r)) (length b)) (filled (frame r) b) (refused b)) (take_laid row buffer)
    ∙ ap₂ (λ s t. cond (s && t) (filled (frame row) b) (refused b)) (le-leb (length row) (length b) (omega (arith, p.1, l))) (le-leb (length (frame row)) (length b) (omega (arith, l)))

-- of a frame that is as long as the row, nothing else is left in the buffer
pub framed_longer : (frame : List ℕ → List ℕ) (row buffer now : List ℕ) (n : ℕ) → PutsFirst row buffer (Some n) now → length row ≤ length (frame row) → length (frame row) ≤ length buffer → framed frame n now ≡ put (frame row) buffer
framed_longer frame row buffer now n p h k =
    framed_both frame row buffer now n p k ∙ ap (λ b. (Ok (length (frame row)), b)) (laid_over (frame row) row buffer h) ∙ sym (put_fits (frame row) buffer k)

-- what an answer counts, in a buffer that is filled
counted : (frame was scratch : List ℕ) (n : ℕ) → ◌≡◌ {A = Result ℕ Refusal × List ℕ} (Ok n, scratch) (filled frame was) → take n scratch ≡ frame
counted frame was scratch n e =
    let o : Ok n ≡ Ok (length frame) = ap (λ (x : Result ℕ Refusal × List ℕ). x.0) e in
    let k : n ≡ length frame = cc in
    ap₂ take k (ap (λ (x : Result ℕ Refusal × List ℕ). x.1) e) ∙ take_laid frame was

-- a frame that was made elsewhere, and copied
pub copied : (frame : List ℕ → List ℕ) (row scratch made out new : List ℕ) (n : ℕ) (count : Option ℕ) (answer : Result ℕ Refusal) → LaysBoth frame row scratch (Ok n, made) → length scratch ≡ 4096 →
    PutsFirst (take n made) out count new → answer ≡ ok_or count BufferTooShort → PutsShorter frame row out (answer, new)
copied frame row scratch made out new n None answer both l p v = λ small shorter room.
    absurd (omega (arith, p, room, ap length (counted (frame row) (laid row scratch) made n (both (omega arith) (omega arith)))))
copied frame row scratch made out new n (Some m) answer both l p v = λ small shorter room.
    let t : take n made ≡ frame row = counted (frame row) (laid row scratch) made n (both (omega arith) (omega arith)) in
    let a : answer ≡ Ok (length (frame row)) = v ∙ ap Ok (p.0 ∙ ap length t) in
    let b : new ≡ laid (frame row) out = p.2 ∙ ap (λ x. laid x out) t in
    ap₂ (λ x y. (x, y)) a b ∙ sym (put_fits (frame row) out room)
