-- What one write leaves in a buffer, and what a whole spelling reports.
use Rattle.std.proofs.Common.{◌≡◌, ℕ, ◌+◌, ◌<◌, ◌≤◌, List, [], ◌∷◌, ◌++◌, length, take, drop, Ok, Err, Result, nat_le, slice_set, sym, ap, ◌∙◌, arith, drop-drop}
use Rattle.std.proofs.lemmas.List.{take-append-drop, take-set, drop-set}
use Rattle.std.proofs.lemmas.Bool.{le-leb, lt-leb, cond-true, cond-false}
use Rattle.fields.specs.declared.family.TooShort.{TooShort}
use Rattle.fields.specs.Buffers.{laid, over, written}

-- one byte written at a place
pub set_over : (out : List ℕ) (at b : ℕ) → at < length out → slice_set out at b ≡ over at (b ∷ []) out
set_over out at b h =
    sym (take-append-drop at (slice_set out at b))
    ∙ ap (λ x. x ++ drop at (slice_set out at b)) (take-set out at b)
    ∙ ap (λ x. take at out ++ x) (drop-set out at b h ∙ ap (λ x. b ∷ x) (sym (drop-drop 1 at out)))

-- a part that is known from its place on
pub part_over : (at end : ℕ) (w old new : List ℕ) → at + length w ≡ end → drop at new ≡ w ++ drop end old → take at new ≡ take at old → new ≡ over at w old
part_over at end w old new e d t =
    sym (take-append-drop at new)
    ∙ ap (λ x. x ++ drop at new) t
    ∙ ap (λ x. take at old ++ x) (d ∙ ap (λ x. w ++ x) (ap (λ k. drop k old) (sym e) ∙ sym (drop-drop (length w) at old)))

-- what is written where there is room, and what is refused
pub written_room : (n : ℕ) (w out e : List ℕ) → n ≡ length w → n ≤ length e → out ≡ laid w e → ◌≡◌ {A = Result ℕ TooShort × List ℕ} (Ok n, out) (written w e)
written_room n w out e l h o = ap (λ k. (Ok k, out)) l ∙ ap (λ x. (Ok (length w), x)) o ∙ sym (cond-true (nat_le (length w) (length e)) _ _ (le-leb _ _ (omega arith)))

pub written_none : (n : ℕ) (w e : List ℕ) → n ≡ length w → length e < n → ◌≡◌ {A = Result ℕ TooShort × List ℕ} (Err record {}, e) (written w e)
written_none n w e l h = sym (cond-false (nat_le (length w) (length e)) _ _ (lt-leb _ _ (omega arith)))
