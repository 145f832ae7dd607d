-- Fields of a number, taken apart and put together again.
use Rattle.std.proofs.Common.{◌≡◌, ℕ, ◌+◌, ◌*◌, ◌/◌, ◌%◌, ◌^◌, ◌<◌, true, ltb, List, [], ◌∷◌, length, sym, refl, ap, ◌∙◌, mod-eq_of_lt, mul_assoc, arith}
use native.Mathlib.Nat.{mul-add-div_right, mul-add-mod_self_right}
use Rattle.std.proofs.lemmas.Nat.{pow_pos, pow-add, mod-pow-add, mod_below, div-mul-add, mul-add-lt}
use Rattle.std.proofs.lemmas.Bool.{ltb-true, lt-ltb, and_parts, and_from}
use Rattle.packed.specs.BitFields.{total, split, joined, fitting}

-- what stands above the fields does not matter
pub split_high : (ws : List ℕ) (a n : ℕ) → split ws (a * 2 ^ total ws + n) ≡ split ws n
split_high [] a n = refl
split_high (w ∷ ws) a n =
    let s = 2 ^ total ws in
    let e : a * 2 ^ (w + total ws) + n ≡ a * 2 ^ w * s + n = ap (λ x. a * x + n) (pow-add 2 w (total ws)) ∙ ap (λ x. x + n) (sym (mul_assoc a (2 ^ w) s)) in
    let f : (a * 2 ^ w * s + n) / s % 2 ^ w ≡ n / s % 2 ^ w = ap (λ x. x % 2 ^ w) (mul-add-div_right (pow_pos (total ws)) (a * 2 ^ w) n) ∙ mul-add-mod_self_right a (2 ^ w) (n / s) in
    ap (split (w ∷ ws)) e ∙ ap (λ x. x ∷ split ws (a * 2 ^ w * s + n)) f ∙ ap (λ x. n / s % 2 ^ w ∷ x) (split_high ws (a * 2 ^ w) n)

pub joined_below : (ws vs : List ℕ) → fitting ws vs ≡ true → joined ws vs < 2 ^ total ws
joined_below [] vs h = omega arith
joined_below (w ∷ ws) [] h = pow_pos (w + total ws)
joined_below (w ∷ ws) (v ∷ vs) h =
    let p = and_parts (ltb v (2 ^ w)) (fitting ws vs) h in
    omega (arith, mul-add-lt v (2 ^ total ws) (joined ws vs) (2 ^ w) (ltb-true v (2 ^ w) p.0) (joined_below ws vs p.1), pow-add 2 w (total ws))

-- fields that fit come out of the number that they make
pub split_joined : (ws vs : List ℕ) → length vs ≡ length ws → fitting ws vs ≡ true → split ws (joined ws vs) ≡ vs
split_joined [] [] l h = refl
split_joined [] (v ∷ vs) l h = absurd (omega arith)
split_joined (w ∷ ws) [] l h = absurd (omega arith)
split_joined (w ∷ ws) (v ∷ vs) l h =
    let p = and_parts (ltb v (2 ^ w)) (fitting ws vs) h in
    let j = joined ws vs in
    let first : (v * 2 ^ total ws + j) / 2 ^ total ws % 2 ^ w ≡ v = ap (λ x. x % 2 ^ w) (div-mul-add v (2 ^ total ws) j (joined_below ws vs p.1)) ∙ mod-eq_of_lt (ltb-true v (2 ^ w) p.0) in
    ap (λ x. x ∷ split ws (v * 2 ^ total ws + j)) first ∙ ap (λ x. v ∷ x) (split_high ws v j ∙ split_joined ws vs (omega arith) p.1)

-- the fields of a number fit, and make that number again
pub fitting_split : (ws : List ℕ) (n : ℕ) → fitting ws (split ws n) ≡ true
fitting_split [] n = refl
fitting_split (w ∷ ws) n = and_from _ _ (lt-ltb _ _ (mod_below (n / 2 ^ total ws) (2 ^ w) (pow_pos w))) (fitting_split ws n)

pub joined_split : (ws : List ℕ) (n : ℕ) → joined ws (split ws n) ≡ n % 2 ^ total ws
joined_split [] n = omega arith
joined_split (w ∷ ws) n = ap (λ x. n / 2 ^ total ws % 2 ^ w * 2 ^ total ws + x) (joined_split ws n) ∙ sym (mod-pow-add n w (total ws))
