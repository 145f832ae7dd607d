-- What a good reading tells of its tests, and runs of digits before other bytes.
use Rattle.std.proofs.Common.{◌≡◌, ℕ, zero, suc, ◌+◌, ◌/◌, ◌%◌, ◌^◌, ◌<◌, Bool, true, false, cond, List, [], ◌∷◌, ◌++◌, length, drop, ℤ, Ok, sym, refl, ap, ◌∙◌, arith, ◌-◌}
use Rattle.std.specs.List.{prefix_len}
use Rattle.std.proofs.lemmas.List.{take-append-drop, length-take-le}
use Rattle.fields.specs.declared.cause.Cause.{Cause}
use Rattle.fields.specs.declared.cause.Sort.TheVariants.{Numeric}
use Rattle.fields.specs.Meanings.{Reading, Meaning, refuse, tried}
use Rattle.fields.specs.Laws.{Bytes, Lawful}
use Rattle.fields.specs.Digits.{is_digit, run, AreDigits, value, padded}
use Rattle.fields.specs.Spellings.{Stands}
use Rattle.fields.specs.Fairs.{Passed}
use Rattle.fields.specs.Runs.{tells, digit_true, length_padded}
use Rattle.fields.specs.PlaceValues.{number_places}

refuse_inv : (t : Bool) (c : Cause) (r : Reading) (y : ℕ × ℤ) → refuse t c r ≡ Ok y → (t ≡ false) × (r ≡ Ok y)
refuse_inv true c r y e = let z : ◌≡◌ {A = ℕ} 0 1 = cc in absurd (omega arith)
refuse_inv false c r y e = (refl, e)

-- a good reading passed every test
pub tried_inv : (ts : List (Bool × Cause)) (x y : ℕ × ℤ) → tried ts x ≡ Ok y → Passed ts × (x ≡ y)
tried_inv [] x y e = (tt, cc)
tried_inv (t ∷ ts) x y e =
    let h = refuse_inv t.0 t.1 (tried ts x) y e in
    let k = tried_inv ts x y h.1 in
    ((h.0, k.0), k.1)

-- a lawful reading stands where its spelling does
pub stands : (m : Meaning) (Has : ℤ → Type 0) (Ends : List ℕ → Type 0) → Lawful m → m.sort ≡ Numeric → (bs : List ℕ) (n : ℕ) (z : ℤ) → Bytes bs → m.reads bs ≡ Ok (n, z) → Has z → Ends (drop n bs) → Stands m Has Ends bs n z
stands m Has Ends law s bs n z b e h k =
    let w = law.spelled bs n z b e s in
    record {
      number = h;
      rest = drop n bs;
      begins = sym (take-append-drop n bs) ∙ ap (λ x. x ++ drop n bs) (sym w);
      long = sym (length-take-le n bs (law.within bs n z b e)) ∙ ap length (sym w);
      ends = k;
    }

-- nothing of the longest beginning that passes a test is left behind it
front_done : (t : ℕ → Bool) (u : Bool) (b : ℕ) (bs : List ℕ) → t b ≡ u → prefix_len t (drop (prefix_len t bs) bs) ≡ 0 → prefix_len t (drop (cond u (1 + prefix_len t bs) 0) (b ∷ bs)) ≡ 0
front_done t true b bs e h = let k : 1 + prefix_len t bs ≡ suc (prefix_len t bs) = omega arith in ap (λ j. prefix_len t (drop j (b ∷ bs))) k ∙ h
front_done t false b bs e h = ap (λ x. cond x (1 + prefix_len t bs) 0) e

pub front_rest : (t : ℕ → Bool) (bs : List ℕ) → prefix_len t (drop (prefix_len t bs) bs) ≡ 0
front_rest t [] = refl
front_rest t (b ∷ bs) = front_done t (t b) b bs refl (front_rest t bs)

pub run_rest : (bs : List ℕ) → run (drop (run bs) bs) ≡ 0
run_rest bs = front_rest is_digit bs

-- digits before other bytes
pub run_append : (ds bs : List ℕ) → AreDigits ds → run (ds ++ bs) ≡ length ds + run bs
run_append [] bs h = omega arith
run_append (d ∷ ds) bs h =
    let t = tells.parts d ds h in
    ap (λ x. cond x (1 + run (ds ++ bs)) 0) (digit_true d t.0) ∙ omega (arith, run_append ds bs t.1)

pub pure_padded : (w n : ℕ) → AreDigits (padded w n)
pure_padded zero n = refl
pure_padded (suc w) n =
    let ds = padded w (n / 10) in
    let d : is_digit (48 + n % 10) ≡ true = digit_true (48 + n % 10) (omega arith, omega arith) in
    run_append ds ((48 + n % 10) ∷ []) (pure_padded w (n / 10))
    ∙ ap (λ x. length ds + cond x 1 0) d
    ∙ omega (arith, length_padded w (n / 10), length_padded (suc w) n)

pub value_padded : (w n : ℕ) → n < 10 ^ w → value (padded w n) ≡ n
value_padded w n h = number_places 10 (λ b. b - 48) (λ d. 48 + d) (λ d k. omega arith) (omega arith) w n h
