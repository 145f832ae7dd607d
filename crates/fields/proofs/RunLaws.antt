-- A run and its number go on digit by digit, and how many digits a number has.
use Rattle.std.proofs.Common.{◌≡◌, ℕ, cond, zero, suc, ◌+◌, ◌-◌, ◌*◌, ◌^◌, ◌<◌, ◌≤◌, Bool, true, false, List, [], ◌∷◌, length, take, slice_index, decimal, ap, ◌∙◌, ⊎_elim, arith}
use Rattle.std.proofs.lemmas.List.{take_more}
use Rattle.std.proofs.lemmas.Bool.{cases_lt}
use Rattle.std.proofs.lemmas.Str.Parse.{digits_value_short}
use Rattle.std.proofs.lemmas.Fmt.{digits_value-decimal, digits_decimal, length-decimal-le}
use Rattle.fields.specs.Digits.{is_digit, run, value}
use Rattle.fields.specs.Runs.{own, digit_true, value_push}

-- a run up to a place goes on with a digit there
run_on : (t : Bool) (r i : ℕ) → suc i ≤ cond t (1 + r) 0 → (i ≤ r → i + 1 ≤ r) → suc i + 1 ≤ cond t (1 + r) 0
run_on true r i h k = omega (arith, k (omega arith))
run_on false r i h k = absurd (omega arith)

pub run_more : (bs : List ℕ) (i : ℕ) → i ≤ run bs → i < length bs → (48 ≤ slice_index bs i) × (slice_index bs i ≤ 57) → i + 1 ≤ run bs
run_more [] i h l d = absurd (omega arith)
run_more (b ∷ bs) zero h l d = omega (arith, ap (λ t. cond t (1 + run bs) 0) (digit_true b d))
run_more (b ∷ bs) (suc i) h l d = run_on (is_digit b) (run bs) i h (λ k. run_more bs i k (omega arith) d)

-- and a number goes on with its value
pub value_more : (bs : List ℕ) (i : ℕ) → i < length bs → value (take (i + 1) bs) ≡ value (take i bs) * 10 + (slice_index bs i - 48)
value_more bs i h = ap value (take_more bs i 0 h) ∙ value_push 0 (take i bs) (slice_index bs i)

-- a number not below a power of ten has more digits than that power has zeros
pub longer_decimal : (k n : ℕ) → 10 ^ k ≤ n → n < 2 ^ 64 → k < length (decimal n)
longer_decimal k n h l =
    ⊎_elim (λ m. m) (λ m. absurd (omega (arith, digits_value_short own (decimal n) k (digits_decimal own n l) m, digits_value-decimal own n l))) (cases_lt k (length (decimal n)))

-- between two powers of ten
pub exact_decimal : (k n : ℕ) → 10 ^ k ≤ n → n < 10 ^ (k + 1) → n < 2 ^ 64 → k + 1 ≡ length (decimal n)
exact_decimal k n h l s = omega (arith, longer_decimal k n h s, length-decimal-le (k + 1) n (omega arith) l s)
