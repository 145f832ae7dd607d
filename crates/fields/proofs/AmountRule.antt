-- An amount is read exactly where its spelling stands and no digit follows.
use Rattle.std.proofs.Common.{◌≡◌, ℕ, zero, suc, ◌+◌, ◌-◌, ◌*◌, ◌/◌, ◌%◌, ◌^◌, ◌<◌, ◌≤◌, Bool, true, false, cond, ◌&&◌, eqb, List, ◌∷◌, ◌++◌, length, get_or, take, drop, ℤ, pos, negsuc, nat_abs, Ok, decimal, sym, refl, ap, ◌∙◌, append_assoc, mod-lt, div-lt_iff_lt-mul, div-add-mod', div-le_self, arith, length-append, pow-add}
use Rattle.std.proofs.lemmas.List.{take_at, drop_at, drop-drop}
use Rattle.std.proofs.lemmas.Bool.{and_from, and_parts, or_from, eq-eqb, ne_eqb, lt-ltb, eqb-true, not-false}
use Rattle.std.proofs.lemmas.Fmt.{length-decimal-le}
use Rattle.fields.specs.Digits.{run, value, padded}
use Rattle.fields.specs.Wholes.{leads}
use Rattle.fields.specs.Amounts.{minus, sign, body, rest, pointed, point_len, formed, units, signed, amount_tests, amount_gives, amount_spells, amount, point_of}
use Rattle.fields.specs.Spellings.{ReadsSpelling, Units, NoDigit}
use Rattle.fields.specs.Runs.{length_padded}
use Rattle.fields.specs.AmountLaw.{pow_pos, good_amount, length_amount, amount_lawful, body_parts}
use Rattle.fields.proofs.Stand.{tried_inv, stands, run_rest, run_append, pure_padded, value_padded}
use Rattle.fields.proofs.WholeRule.{decimal_before}

-- what follows an amount begins with no digit
after_point : (p : ℕ) (bs : List ℕ) → run bs ≡ 0 → pointed p bs ≡ true → run (drop (point_len p) bs) ≡ 0
after_point zero bs h k = h
after_point (suc p) bs h k =
    let e : run (drop 1 bs) ≡ suc p = eqb-true _ _ (and_parts (eqb (get_or bs 0 0) 46) (eqb (run (drop 1 bs)) (suc p)) k).1 in
    let o : 1 + suc p ≡ suc (suc p) = omega arith in
    let d : drop (suc (suc p)) bs ≡ drop (suc p) (drop 1 bs) = sym (drop-drop (suc p) 1 bs ∙ ap (λ j. drop j bs) o) in
    ap run d ∙ ap (λ j. run (drop j (drop 1 bs))) (sym e) ∙ run_rest (drop 1 bs)

amount_only : (p : ℕ) (bs : List ℕ) (n : ℕ) (z : ℤ) → (amount p).reads bs ≡ Ok (n, z) → run (drop n bs) ≡ 0
amount_only p bs n z e =
    let t = tried_inv (amount_tests p bs) (amount_gives p bs) (n, z) e in
    let b = body bs in
    let f = body_parts p b (not-false _ t.0.1.0) in
    let l : sign bs + (run b + point_len p) ≡ n = ap (λ x. x.0) t.1 in
    let d : drop n bs ≡ drop (point_len p) (rest b) =
    ap (λ k. drop k bs) (sym l) ∙ sym (drop-drop (run b + point_len p) (sign bs) bs) ∙ sym (drop-drop (point_len p) (run b) b) in
    ap run d ∙ after_point p (rest b) (run_rest b) f.point

-- the point and the digits behind it, before bytes that go on with no digit
record Point (p n : ℕ) (rest : List ℕ) : Type 0 where
  none : run (point_of p n ++ rest) ≡ 0
  form : pointed p (point_of p n ++ rest) ≡ true
  worth : value (take p (drop 1 (point_of p n ++ rest))) ≡ n % 10 ^ p

point_before : (p n : ℕ) (rest : List ℕ) → run rest ≡ 0 → Point p n rest
point_before zero n rest h = record { none = h; form = refl; worth = omega arith }
point_before (suc p) n rest h =
    let r = n % 10 ^ suc p in
    let l = length_padded (suc p) r in
    record {
      none = refl;
      form = eq-eqb _ _ (run_append (padded (suc p) r) rest (pure_padded (suc p) r) ∙ omega arith);
      worth = ap value (take_at (padded (suc p) r) rest (suc p) l) ∙ value_padded (suc p) r (mod-lt n (pow_pos (suc p)));
    }

-- an amount without its sign, before bytes that go on with no digit
record Front (p n : ℕ) (b : List ℕ) : Type 0 where
  long : run b ≡ length (decimal (n / 10 ^ p))
  form : formed p b ≡ true
  few : run b + p ≤ 12
  lone : leads b ≡ false
  is : units p b ≡ n
  first : 48 ≤ get_or b 0 0
  some : 0 < length b

front_before : (p n : ℕ) (end : List ℕ) → p ≤ 4 → n ≤ 999999999999 → run end ≡ 0 → Front p n (decimal (n / 10 ^ p) ++ (point_of p n ++ end))
front_before p n end hp hn h =
    let q = n / 10 ^ p in
    let tail = point_of p n ++ end in
    let b = decimal q ++ tail in
    let t = point_before p n end h in
    let m = div-le_self n (10 ^ p) in
    let d = decimal_before q tail (omega arith) t.none in
    let r : rest b ≡ tail = drop_at (decimal q) tail _ (sym d.long) in
    let w : 12 - p + p ≡ 12 = omega arith in
    let s : 10 ^ (12 - p) * 10 ^ p ≡ 10 ^ 12 = sym (pow-add 10 (12 - p) p) ∙ ap (λ k. 10 ^ k) w in
    let k : q < 10 ^ (12 - p) = (div-lt_iff_lt-mul (pow_pos p)).1 (omega arith) in
    record {
      long = d.long;
      form = and_from _ _ (lt-ltb 0 (run b) (omega (arith, d.long, d.some))) (ap (pointed p) r ∙ t.form);
      few = omega (arith, d.long, length-decimal-le (12 - p) q (omega arith) k (omega arith));
      lone = d.lone;
      is = ap (λ v. v * 10 ^ p + value (take p (drop 1 (rest b)))) d.worth ∙ ap (λ x. q * 10 ^ p + value (take p (drop 1 x))) r ∙ ap (λ v. q * 10 ^ p + v) t.worth ∙ div-add-mod' n (10 ^ p);
      first = d.first;
      some = omega (arith, length-append (decimal q) tail, d.some);
    }

-- a sign before it
signed_reads : (p n : ℕ) (t : Bool) (bs b : List ℕ) → Front p n b → minus bs ≡ t → drop (cond t 1 0) bs ≡ b → (length bs ≡ 0 → ⊥) → (t && eqb n 0) ≡ false → (amount p).reads bs ≡ Ok (cond t 1 0 + (run b + point_len p), signed t n)
signed_reads p n t bs b f m e some z =
    let d : body bs ≡ b = ap (λ u. drop (cond u 1 0) bs) m ∙ e in
    let u : units p (body bs) ≡ n = ap (units p) d ∙ f.is in
    let r = good_amount p bs some (ap (formed p) d ∙ f.form) (omega (arith, ap run d, f.few)) (or_from _ _ (ap leads d ∙ f.lone) (ap (λ x. minus bs && eqb x 0) u ∙ ap (λ x. x && eqb n 0) m ∙ z)) in
    sym r
    ∙ ap (λ x. Ok (sign bs + (run x + point_len p), signed (minus bs) (units p x))) d
    ∙ ap (λ x. Ok (cond x 1 0 + (run b + point_len p), signed x (units p b))) m
    ∙ ap (λ k. Ok (cond t 1 0 + (run b + point_len p), signed t k)) f.is

amount_at : (p : ℕ) (z : ℤ) (end : List ℕ) → p ≤ 4 → nat_abs z ≤ 999999999999 → run end ≡ 0 → (amount p).reads (amount_spells p z ++ end) ≡ Ok (length (amount_spells p z), z)
amount_at p (pos n) end hp hn h =
    let b = decimal (n / 10 ^ p) ++ (point_of p n ++ end) in
    let f = front_before p n end hp hn h in
    let a : amount_spells p (pos n) ++ end ≡ b = append_assoc (decimal (n / 10 ^ p)) (point_of p n) end in
    let m : minus b ≡ false = ne_eqb _ _ (λ e. omega (arith, f.first)) in
    ap (amount p).reads a ∙ signed_reads p n false b b f m refl (λ e. omega (arith, f.some)) refl ∙ ap (λ k. Ok (k, pos n)) (omega (arith, length_amount p (pos n), f.long))
amount_at p (negsuc k) end hp hn h =
    let n = suc k in
    let b = decimal (n / 10 ^ p) ++ (point_of p n ++ end) in
    let f = front_before p n end hp hn h in
    let a : amount_spells p (negsuc k) ++ end ≡ 45 ∷ b = ap (λ x. 45 ∷ x) (append_assoc (decimal (n / 10 ^ p)) (point_of p n) end) in
    ap (amount p).reads a ∙ signed_reads p n true (45 ∷ b) b f refl refl (λ e. omega arith) (ne_eqb n 0 (λ e. omega arith)) ∙ ap (λ j. Ok (j, negsuc k)) (omega (arith, length_amount p (negsuc k), f.long))

pub amount_rule : (p : ℕ) → p ≤ 4 → ReadsSpelling (amount p) Units NoDigit
amount_rule p hp = record {
  only = λ bs n z b e. stands (amount p) Units NoDigit (amount_lawful p) refl bs n z b e ((amount_lawful p).small bs n z b e) (amount_only p bs n z e);
  each = λ bs n z s. ap (amount p).reads s.begins ∙ amount_at p z s.rest hp s.number s.ends ∙ ap (λ k. Ok (k, z)) (sym s.long);
}
