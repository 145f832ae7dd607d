-- An amount is spelled with the bytes that it was read from.
use Rattle.std.specs.Prelude.{◌≡◌, ℕ, zero, suc, ◌+◌, ◌-◌, ◌*◌, ◌/◌, ◌%◌, ◌^◌, ◌<◌, ◌≤◌, Bool, true, false, cond, ◌&&◌, ◌||◌, List, [], ◌∷◌, ◌++◌, length, take, drop, ℤ, Ok, Err, decimal, ◌==◌, ◌≢◌, nat_lt, slice_index, unsigned_abs, refl, nat_eq}
use Rattle.std.proofs.Common.{sym, ap, ◌∙◌, mul-le-mul_right, suc-mul, arith, length-append, pow-add, take-add}
use Rattle.std.proofs.Math.Nat.{pow-le-pow_right, one-le-pow}
use Rattle.std.proofs.lemmas.List.{length-take-le, length-drop}
use Rattle.std.proofs.lemmas.Bool.{eqb-true, eqb-false, ltb-true, ltb-false, and_parts, or_parts, and_from, not-false, not_from_true, not_from_false, ne_eqb, lt-ltb, le-ltb, eq-eqb}
use Rattle.std.proofs.lemmas.Bool.Decides.{nat_tests}
use Rattle.fields.specs.declared.cause.Cause.TheVariants.{Form, Range, SecondSpelling}
use Rattle.fields.specs.declared.cause.Sort.TheVariants.{Numeric}
use Rattle.fields.specs.Meanings.{Reading}
use Rattle.fields.specs.Laws.{Lawful}
use Rattle.fields.specs.Digits.{run, value, padded}
use Rattle.fields.specs.Wholes.{leads}
use Rattle.fields.specs.Amounts.{minus, sign, body, rest, pointed, point_len, formed, signed, units, amount_tests, amount_gives, amount_spells, amount, minus_of, point_of}
use Rattle.fields.specs.PlaceValues.{joined_front, joined_back}
use Rattle.fields.specs.Fairs.{kind_lawful, refused, good}
use Rattle.fields.specs.Runs.{run_le, run_take, value_take, padded_value, length_padded}
use Rattle.fields.specs.WholeLaw.{run_decimal}

pub pow_pos : (p : ℕ) → 0 < 10 ^ p
pow_pos p = omega (arith, one-le-pow p 10 (omega arith))

pub joined_small : (a b w p : ℕ) → a < 10 ^ w → b < 10 ^ p → w + p ≤ 12 → a * 10 ^ p + b < 10 ^ 12
joined_small a b w p h k l =
    let m = mul-le-mul_right (10 ^ p) h in
    let s = suc-mul a (10 ^ p) in
    let e = pow-add 10 w p in
    let t : 10 ^ (w + p) ≤ 10 ^ 12 = pow-le-pow_right (omega arith) l in
    omega arith

take_first : (k : ℕ) (bs : List ℕ) → 0 < length bs → take (suc k) bs ≡ slice_index bs 0 ∷ take k (drop 1 bs)
take_first k [] h = absurd (omega arith)
take_first k (b ∷ bs) h = refl

-- the fraction: it stands there, it is small, and it is written with its own digits
pub pointed_len : (p : ℕ) (bs : List ℕ) → pointed p bs ≡ true → point_len p ≤ length bs
pointed_len zero bs h = omega arith
pointed_len (suc p) bs h =
    let t = and_parts (slice_index bs 0 == 46) (run (drop 1 bs) == suc p) h in
    omega (arith, eqb-true _ _ t.1, run_le (drop 1 bs), length-drop 1 bs)

pub point_is : (p r : ℕ) (bs : List ℕ) → (p ≢ 0) → slice_index bs 0 ≡ 46 → r ≡ run (drop 1 bs) → (r == p) ≡ pointed p bs
point_is zero r bs z h e = absurd (z refl)
point_is (suc p) r bs z h e = ap (λ k. nat_eq k (suc p)) e ∙ ap (λ t. t && run (drop 1 bs) == suc p) (sym (eq-eqb (slice_index bs 0) 46 h))

pub point_len_lem : (p : ℕ) → (p ≢ 0) → point_len p ≡ 1 + p
point_len_lem zero z = absurd (z refl)
point_len_lem (suc p) z = omega arith

pub point_none : (p : ℕ) (bs : List ℕ) → p ≡ 0 → (pointed p bs ≡ true) × (0 ≡ value (take p (drop 1 bs))) × (point_len p ≡ 0)
point_none zero bs z = (refl, refl, refl)
point_none (suc p) bs z = absurd (omega arith)

pub pointed_run : (p : ℕ) (bs : List ℕ) → pointed p bs ≡ true → p ≤ run (drop 1 bs)
pointed_run zero bs h = omega arith
pointed_run (suc p) bs h =
    let t = and_parts (slice_index bs 0 == 46) (run (drop 1 bs) == suc p) h in
    omega (arith, eqb-true _ _ t.1)

pointed_spelled : (p a : ℕ) (bs : List ℕ) → pointed p bs ≡ true → point_of p (a * 10 ^ p + value (take p (drop 1 bs))) ≡ take (point_len p) bs
pointed_spelled zero a bs h = refl
pointed_spelled (suc p) a bs h =
    let t = and_parts (slice_index bs 0 == 46) (run (drop 1 bs) == suc p) h in
    let r = pointed_run (suc p) bs h in
    let ds = take (suc p) (drop 1 bs) in
    let l : length ds ≡ suc p = length-take-le (suc p) (drop 1 bs) (omega (arith, run_le (drop 1 bs))) in
    let v : padded (suc p) (value ds) ≡ ds = ap (λ k. padded k (value ds)) (sym l) ∙ padded_value ds (run_take (suc p) (drop 1 bs) r) in
    ap (λ n. 46 ∷ padded (suc p) n) (joined_back a (value ds) (10 ^ suc p) (value_take (suc p) (suc p) (drop 1 bs) r (omega arith)))
    ∙ ap (λ x. 46 ∷ x) v
    ∙ ap (λ b. b ∷ ds) (sym (eqb-true (slice_index bs 0) 46 t.0))
    ∙ sym (take_first (suc p) bs (omega (arith, pointed_len (suc p) bs h)))

signed_abs : (t : Bool) (n : ℕ) → unsigned_abs (signed t n) ≡ n
signed_abs true zero = refl
signed_abs true (suc n) = refl
signed_abs false n = refl

minus_spelled : (t : Bool) (n : ℕ) (bs : List ℕ) → (slice_index bs 0 == 45) ≡ t → (length bs ≢ 0) → (t && n == 0) ≡ false → minus_of (signed t n) ≡ take (cond t 1 0) bs
minus_spelled true zero bs e h k = let z : ◌≡◌ {A = ℕ} 0 1 = grind (arith, nat_tests) in absurd (omega arith)
minus_spelled true (suc n) bs e h k = ap (λ b. b ∷ []) (sym (eqb-true (slice_index bs 0) 45 e)) ∙ sym (take_first 0 bs (omega arith))
minus_spelled false n bs e h k = refl

sign_le : (t : Bool) (n : ℕ) → (n ≢ 0) → cond t 1 0 ≤ n
sign_le true n h = omega arith
sign_le false n h = omega arith

-- what a formed amount without its sign has
pub record Body (p : ℕ) (b : List ℕ) : Type 0 where
  pub some : 0 < run b
  pub point : pointed p (rest b) ≡ true
  pub decimals : value (take p (drop 1 (rest b))) < 10 ^ p
  pub small : run b + p ≤ 12 → units p b < 10 ^ 12
  pub room : run b + point_len p ≤ length b

pub body_parts : (p : ℕ) (b : List ℕ) → formed p b ≡ true → Body p b
body_parts p b h =
    let t = and_parts (nat_lt 0 (run b)) (pointed p (rest b)) h in
    let d : value (take p (drop 1 (rest b))) < 10 ^ p = value_take p p (drop 1 (rest b)) (pointed_run p (rest b) t.1) (omega arith) in
    record {
      some = ltb-true 0 (run b) t.0;
      point = t.1;
      decimals = d;
      small = λ few. joined_small (value (take (run b) b)) _ (run b) p (value_take (run b) (run b) b (omega arith) (omega arith)) d few;
      room = omega (arith, run_le b, pointed_len p (rest b) t.1, length-drop (run b) b);
    }

pub amount_lawful : (p : ℕ) → Lawful (amount p)
amount_lawful p = kind_lawful Numeric (amount_tests p) (amount_gives p) (amount_spells p) λ bs r h.
    let b = body bs in
    let n = units p b in
    let z = signed (minus bs) n in
    let some = eqb-false (length bs) 0 h.0 in
    let f = body_parts p b (not-false _ h.1.0) in
    let few = ltb-false 12 (run b + p) h.1.1.0 in
    let lone = or_parts (leads b) (minus bs && n == 0) h.1.1.1.0 in
    let abs = signed_abs (minus bs) n in
    let len : length b ≡ length bs - sign bs = length-drop (sign bs) bs in (
      omega (arith, sign_le (minus bs) (length bs) some, f.room),
      omega (arith, f.small few),
      ap (λ x. x ++ (decimal (unsigned_abs z / 10 ^ p) ++ point_of p (unsigned_abs z))) (minus_spelled (minus bs) n bs refl some lone.1)
          ∙ ap (λ m. take (sign bs) bs ++ (decimal (m / 10 ^ p) ++ point_of p m)) abs
          ∙ ap (λ m. take (sign bs) bs ++ (decimal m ++ point_of p n)) (joined_front (value (take (run b) b)) _ (10 ^ p) f.decimals)
          ∙ ap (λ x. take (sign bs) bs ++ (x ++ point_of p n)) (run_decimal b f.some (omega arith) lone.0)
          ∙ ap (λ x. take (sign bs) bs ++ (take (run b) b ++ x)) (pointed_spelled p (value (take (run b) b)) (rest b) f.point)
          ∙ ap (λ x. take (sign bs) bs ++ x) (sym (take-add (run b) (point_len p) b))
          ∙ sym (take-add (sign bs) (run b + point_len p) bs),
    )

-- what follows the sign, its first run and what follows that
pub record Split (bs front after : List ℕ) (whole : ℕ) : Type 0 where
  pub body_is : front ≡ body bs
  pub whole_is : whole ≡ run (body bs)
  pub rest_is : after ≡ rest (body bs)

pub split : (bs front after : List ℕ) (whole : ℕ) (t : Bool) → t ≡ minus bs → front ≡ drop (cond t 1 0) bs → whole ≡ run front → after ≡ drop whole front → Split bs front after whole
split bs front after whole t m f w a =
    let b : front ≡ body bs = f ∙ ap (λ u. drop (cond u 1 0) bs) m in
    let r : whole ≡ run (body bs) = w ∙ ap run b in
    record { body_is = b; whole_is = r; rest_is = a ∙ ap (drop whole) b ∙ ap (λ k. drop k (body bs)) r }

pub formed_at : (p : ℕ) (bs front after : List ℕ) (whole : ℕ) → Split bs front after whole → (whole ≢ 0) → pointed p after ≡ true → formed p (body bs) ≡ true
formed_at p bs front after whole s w h = and_from _ _ (lt-ltb 0 _ (omega (arith, s.whole_is))) (sym (ap (pointed p) s.rest_is) ∙ h)

pub units_at : (p : ℕ) (bs front after : List ℕ) (whole v f : ℕ) → Split bs front after whole → v ≡ value (take whole front) → f ≡ value (take p (drop 1 after)) → v * 10 ^ p + f ≡ units p (body bs)
units_at p bs front after whole v f s hv hf =
    let b = body bs in
    let a : v ≡ value (take (run b) b) = hv ∙ ap (λ x. value (take whole x)) s.body_is ∙ ap (λ k. value (take k b)) s.whole_is in
    let c : f ≡ value (take p (drop 1 (rest b))) = hf ∙ ap (λ x. value (take p (drop 1 x))) s.rest_is in
    cc

-- ways that a reading ends
pub no_form : (p : ℕ) (bs : List ℕ) → (length bs ≢ 0) → formed p (body bs) ≡ false → ◌≡◌ {A = Reading} (Err Form) ((amount p).reads bs)
no_form p bs some f = refused 1 (amount_tests p bs) (amount_gives p bs) Form (ne_eqb _ _ some, (not_from_false _ f, refl))

pub no_range : (p : ℕ) (bs : List ℕ) → (length bs ≢ 0) → formed p (body bs) ≡ true → 12 < run (body bs) + p → ◌≡◌ {A = Reading} (Err Range) ((amount p).reads bs)
no_range p bs some f h = refused 2 (amount_tests p bs) (amount_gives p bs) Range (ne_eqb _ _ some, (not_from_true _ f, (lt-ltb 12 _ h, refl)))

pub second_spelling : (p : ℕ) (bs : List ℕ) → (length bs ≢ 0) → formed p (body bs) ≡ true → run (body bs) + p ≤ 12 → (leads (body bs) || (minus bs && units p (body bs) == 0)) ≡ true → ◌≡◌ {A = Reading} (Err SecondSpelling) ((amount p).reads bs)
second_spelling p bs some f h s = refused 3 (amount_tests p bs) (amount_gives p bs) SecondSpelling (ne_eqb _ _ some, (not_from_true _ f, (le-ltb 12 _ h, (s, refl))))

pub good_amount : (p : ℕ) (bs : List ℕ) → (length bs ≢ 0) → formed p (body bs) ≡ true → run (body bs) + p ≤ 12 → (leads (body bs) || (minus bs && units p (body bs) == 0)) ≡ false → ◌≡◌ {A = Reading} (Ok (amount_gives p bs)) ((amount p).reads bs)
good_amount p bs some f h s = good (amount_tests p bs) (amount_gives p bs) (ne_eqb _ _ some, (not_from_true _ f, (le-ltb 12 _ h, (s, tt))))

-- how long a spelling is
length_point : (p n : ℕ) → length (point_of p n) ≡ point_len p
length_point zero n = refl
length_point (suc p) n = ap suc (length_padded (suc p) (n % 10 ^ suc p))

pub length_amount : (p : ℕ) (z : ℤ) → length (amount_spells p z) ≡ length (minus_of z) + length (decimal (unsigned_abs z / 10 ^ p)) + point_len p
length_amount p z =
    omega (arith, length-append (minus_of z) (decimal (unsigned_abs z / 10 ^ p) ++ point_of p (unsigned_abs z)), length-append (decimal (unsigned_abs z / 10 ^ p)) (point_of p (unsigned_abs z)), length_point p (unsigned_abs z))
