-- Writing one part after another.
use Rattle.std.specs.Prelude.{◌≡◌, ℕ, ◌+◌, ◌≤◌, List, ◌++◌, length, take, drop, refl}
use Rattle.std.proofs.Common.{sym, ap, ◌∙◌, append_assoc, arith, length-append, take_at, drop_at, drop-drop}
use Rattle.std.proofs.lemmas.List.{length-take-le}
use Rattle.fields.specs.Buffers.{laid, over}

-- one part more, laid where the last stopped
laid_more : (j w e : List ℕ) → over (length j) w (laid j e) ≡ laid (j ++ w) e
laid_more j w e =
    let t : take (length j) (laid j e) ≡ j = take_at j (drop (length j) e) (length j) refl in
    let d : drop (length j) (laid j e) ≡ drop (length j) e = drop_at j (drop (length j) e) (length j) refl in
    let r : drop (length w) (drop (length j) e) ≡ drop (length (j ++ w)) e = drop-drop (length w) (length j) e ∙ ap (λ n. drop n e) (sym (length-append j w)) in
    ap (λ x. x ++ laid w (drop (length j) (laid j e))) t ∙ ap (λ x. j ++ laid w x) d ∙ ap (λ x. j ++ (w ++ x)) r ∙ sym (append_assoc j w (drop (length (j ++ w)) e))

-- a buffer e with j written at its beginning, up to a place
pub record Wrote (j e out : List ℕ) (at : ℕ) : Type 0 where
  pub len : at ≡ length j
  pub after : out ≡ laid j e

pub wrote_more : {j e out : List ℕ} {at : ℕ} (w : List ℕ) (out' : List ℕ) (at' : ℕ) → Wrote j e out at → at' ≡ at + length w → out' ≡ over at w out → Wrote (j ++ w) e out' at'
wrote_more {j} {e} {out} w out' at' h l o = record {
  len = l ∙ ap (λ k. k + length w) h.len ∙ sym (length-append j w);
  after = o ∙ ap (λ k. over k w out) h.len ∙ ap (over (length j) w) h.after ∙ laid_more j w e;
}

-- two parts written one after the other, from a place on
pub over_over : (at : ℕ) (v w out : List ℕ) → at ≤ length out → over (at + length v) w (over at v out) ≡ over at (v ++ w) out
over_over at v w out h =
    let j = take at out in
    let l : length j ≡ at = length-take-le at out h in
    let m : at + length v ≡ length (j ++ v) = omega (arith, length-append j v) in
    let s : over at v out ≡ laid (j ++ v) out = sym (append_assoc j v (drop (length v) (drop at out))) ∙ ap (λ x. (j ++ v) ++ x) (drop-drop (length v) at out ∙ ap (λ k. drop k out) m) in
    let r : laid (j ++ (v ++ w)) out ≡ over at (v ++ w) out =
    let q : length (j ++ (v ++ w)) ≡ at + length (v ++ w) = omega (arith, length-append j (v ++ w)) in
    ap (λ k. (j ++ (v ++ w)) ++ drop k out) q ∙ ap (λ x. (j ++ (v ++ w)) ++ x) (sym (drop-drop (length (v ++ w)) at out)) ∙ append_assoc j (v ++ w) (drop (length (v ++ w)) (drop at out)) in
    ap (λ x. over (at + length v) w x) s
    ∙ ap (λ k. over k w (laid (j ++ v) out)) m
    ∙ laid_more (j ++ v) w out
    ∙ ap (λ x. laid x out) (append_assoc j v w)
    ∙ r
