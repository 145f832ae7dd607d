-- Runs of digits, step by step, and their numbers.
use Rattle.std.specs.Prelude.{◌≡◌, ℕ, cond, zero, suc, ◌+◌, ◌-◌, ◌*◌, ◌^◌, ◌<◌, ◌≤◌, Bool, true, false, List, [], ◌∷◌, ◌++◌, length, take, drop, nat_le, slice_index, refl, decimal}
use Rattle.std.proofs.Common.{sym, ap, ◌∙◌, add-zero, arith, rules}
use Rattle.std.proofs.lemmas.List.{length-take-le, get_or-drop, get_or-take, get_or_past, drop-drop}
use Rattle.std.proofs.lemmas.List.Sums.{prefix_len-le-length}
use Rattle.std.proofs.lemmas.Bool.{leb-true, and_parts, le-leb, and_from}
use Rattle.std.proofs.lemmas.Str.Parse.{IsNumeralModel, IsDigitsTest, numerals_by_fold, digits_value_short}
use Rattle.std.proofs.lemmas.Fmt.{digits_value-decimal, digits_decimal}
use Rattle.fields.specs.PlaceValues.{EachFrom, number_push, places_number, length_places}
use Rattle.fields.specs.Digits.{is_digit, run, AreDigits, value_on, value, padded}

-- the first byte from a place on
pub first_at : (bs : List ℕ) (at : ℕ) → slice_index (drop at bs) 0 ≡ slice_index bs at
first_at bs at = get_or-drop at bs 0 0 ∙ ap (λ k. slice_index bs k) (add-zero at)

pub first_past : (bs : List ℕ) (at : ℕ) → length bs ≤ at → slice_index (drop at bs) 0 ≡ 0
first_past bs at h = first_at bs at ∙ get_or_past bs at 0 h

-- the bytes at a place behind a start, as the bytes from the start on have them
pub part_at : (bs : List ℕ) (start k at : ℕ) → at ≡ start + k → drop at bs ≡ drop k (drop start bs)
part_at bs start k at e = ap (λ j. drop j bs) e ∙ sym (drop-drop k start bs)

pub byte_at : (bs : List ℕ) (start k at : ℕ) → at ≡ start + k → slice_index (drop at bs) 0 ≡ slice_index (drop start bs) k
byte_at bs start k at e = first_at bs at ∙ ap (λ j. slice_index bs j) e ∙ sym (get_or-drop start bs k 0)

-- the first byte of what follows so many bytes
pub first_of : (bs after : List ℕ) (n : ℕ) → after ≡ drop n bs → slice_index bs n ≡ slice_index after 0
first_of bs after n e = sym (ap (λ x. slice_index x 0) e ∙ get_or-drop n bs 0 0 ∙ ap (λ k. slice_index bs k) (add-zero n))

all_true : (t : Bool) (n m : ℕ) → n ≤ m → cond t (1 + n) 0 ≡ suc m → (t ≡ true) × (n ≡ m)
all_true true n m h e = (refl, omega arith)
all_true false n m h e = absurd (omega arith)

pub run_le : (bs : List ℕ) → run bs ≤ length bs
run_le bs = prefix_len-le-length is_digit bs

pub digit_in : (b : ℕ) → is_digit b ≡ true → (48 ≤ b) × (b ≤ 57)
digit_in b e = let h = and_parts (nat_le 48 b) (nat_le b 57) e in (leb-true 48 b h.0, leb-true b 57 h.1)

pub digit_true : (b : ℕ) → (48 ≤ b) × (b ≤ 57) → is_digit b ≡ true
digit_true b h = and_from (nat_le 48 b) (nat_le b 57) (le-leb 48 b h.0) (le-leb b 57 h.1)

pub tells : IsDigitsTest AreDigits
tells = record {
  empty = refl;
  parts = λ c cs h. let m = all_true (is_digit c) (run cs) (length cs) (run_le cs) h in (digit_in c m.0, m.1);
  more = λ c cs i h. ap (λ t. cond t (1 + run cs) 0) (digit_true c i) ∙ omega (arith, h);
}

pub own : IsNumeralModel AreDigits value
own = numerals_by_fold AreDigits tells value_on (search rules)

run_take_more : (t : Bool) (n : ℕ) (b : ℕ) (bs : List ℕ) → is_digit b ≡ t → (n ≤ run bs → AreDigits (take n bs)) → suc n ≤ cond t (1 + run bs) 0 → AreDigits (take (suc n) (b ∷ bs))
run_take_more true n b bs e k h = ap (λ t. cond t (1 + run (take n bs)) 0) e ∙ omega (arith, k (omega arith))
run_take_more false n b bs e k h = absurd (omega arith)

-- a part of a run is all digits
pub run_take : (n : ℕ) (bs : List ℕ) → n ≤ run bs → AreDigits (take n bs)
run_take zero bs h = refl
run_take (suc n) [] h = refl
run_take (suc n) (b ∷ bs) h = run_take_more (is_digit b) n b bs refl (run_take n bs) h

pub value_push : (n : ℕ) (ds : List ℕ) (d : ℕ) → value_on n (ds ++ d ∷ []) ≡ value_on n ds * 10 + (d - 48)
value_push n ds d = number_push 10 (λ b. b - 48) (λ d. 48 + d) n ds d

pub digit_at : (ds : List ℕ) (i : ℕ) → AreDigits ds → i < length ds → (48 ≤ slice_index ds i) × (slice_index ds i ≤ 57)
digit_at [] i h k = absurd (omega arith)
digit_at (c ∷ ds) zero h k = (tells.parts c ds h).0
digit_at (c ∷ ds) (suc i) h k = digit_at ds i (tells.parts c ds h).1 (omega arith)

-- digits of a fixed width are the digits that the number was read from
pub each_digit : (ds : List ℕ) → AreDigits ds → EachFrom 10 48 ds
each_digit [] h = tt
each_digit (d ∷ ds) h = let t = tells.parts d ds h in ((omega (arith, t.0), omega (arith, t.0)), each_digit ds t.1)

pub padded_value : (ds : List ℕ) → AreDigits ds → padded (length ds) (value ds) ≡ ds
padded_value ds h = places_number 10 (λ b. b - 48) (λ d. 48 + d) ds (each_digit ds h)

pub value_take : (n k : ℕ) (bs : List ℕ) → n ≤ run bs → n ≤ k → value (take n bs) < 10 ^ k
value_take n k bs h l = digits_value_short own (take n bs) k (run_take n bs h) (omega (arith, length-take-le n bs (omega (arith, run_le bs))))

pub length_padded : (w n : ℕ) → length (padded w n) ≡ w
length_padded w n = length_places 10 (λ b. b - 48) (λ d. 48 + d) w n

pub padded_decimal : (n : ℕ) → n < 2 ^ 64 → padded (length (decimal n)) n ≡ decimal n
padded_decimal n h = ap (padded (length (decimal n))) (sym (digits_value-decimal own n h)) ∙ padded_value (decimal n) (digits_decimal own n h)

pub run_digit : (bs : List ℕ) (i : ℕ) → i < run bs → (48 ≤ slice_index bs i) × (slice_index bs i ≤ 57)
run_digit bs i h =
    let e = get_or-take (run bs) bs i 0 h in
    let d = digit_at (take (run bs) bs) i (run_take (run bs) bs (omega arith)) (omega (arith, length-take-le (run bs) bs (run_le bs))) in
    (omega arith, omega arith)
