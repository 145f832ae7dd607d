-- Each byte is a place, and the number stays below the base to the power of the count.
use Rattle.std.proofs.Common.{◌≡◌, ℕ, ◌+◌, ◌-◌, ◌*◌, ◌^◌, ◌<◌, ◌≤◌, List, length, get_or, take, sym, ap, ◌∙◌, subst, arith}
use native.Mathlib.Nat.{pow-le-pow_right}
use Rattle.std.proofs.lemmas.List.{take_more, length-take-le, take_all}
use Rattle.fields.specs.Places.{number_from}
use Rattle.fields.specs.PlaceValues.{EachFrom, number_push, number_small, each_take, each_at}
use Rattle.fields.proofs.digits.value.Goals as goal

-- one place more stays below the base to the power of all places
record Step (base first : ℕ) (bs : List ℕ) (i n : ℕ) : Type 0 where
  low : first ≤ get_or bs i 0
  place : get_or bs i 0 - first < base
  small : n * base + (get_or bs i 0 - first) < base ^ length bs
  next : number_from base first 0 (take (i + 1) bs) ≡ n * base + (get_or bs i 0 - first)

step : (base first : ℕ) (bs : List ℕ) (i n : ℕ) → EachFrom base first bs → i < length bs → n ≡ number_from base first 0 (take i bs) → Step base first bs i n
step base first bs i n e h k =
    let b = each_at base (λ b. b - first) (λ d. first + d) bs i e h in
    let next = ap (number_from base first 0) (take_more bs i 0 h) ∙ number_push base (λ b. b - first) (λ d. first + d) 0 (take i bs) (get_or bs i 0) ∙ ap (λ m. m * base + (get_or bs i 0 - first)) (sym k) in
    let s = number_small base (λ b. b - first) (λ d. first + d) (take (i + 1) bs) (each_take base (λ b. b - first) (λ d. first + d) (i + 1) bs e) in
    let l : length (take (i + 1) bs) ≡ i + 1 = length-take-le (i + 1) bs (omega arith) in
    let p : base ^ (i + 1) ≤ base ^ length bs = pow-le-pow_right {n = base} (omega arith) (omega arith) in
    let t : n * base + (get_or bs i 0 - first) < base ^ (i + 1) = subst (λ m. m < base ^ (i + 1)) next (subst (λ m. number_from base first 0 (take (i + 1) bs) < base ^ m) l s) in
    record { low = omega (arith, b.1); place = b.0; small = omega arith; next = next }

pub overflow_mul-n : goal.overflow_mul-n
overflow_mul-n g c = let s = step g.row.BASE g.row.FIRST _ _ _ c.requires.held c.loop-byte-test.true c.loop-byte.invariant.1 in omega (arith, s.small, c.requires.few)

pub overflow_sub-byte : goal.overflow_sub-byte
overflow_sub-byte g c = let b = each_at g.row.BASE (λ b. b - g.row.FIRST) (λ d. g.row.FIRST + d) _ _ c.requires.held c.loop-byte-test.true in omega (arith, b.1)

pub overflow_add-n : goal.overflow_add-n
overflow_add-n g c = let s = step g.row.BASE g.row.FIRST _ _ _ c.requires.held c.loop-byte-test.true c.loop-byte.invariant.1 in omega (arith, s.small, c.requires.few, c.from.ensures)

pub loop-byte-preserved : goal.loop-byte-preserved
loop-byte-preserved g c =
    let s = step g.row.BASE g.row.FIRST _ _ _ c.requires.held c.loop-byte-test.true c.loop-byte.invariant.1 in
    (omega arith, ap (λ k. c.loop-byte.n * g.row.BASE + k) c.from.ensures ∙ sym s.next)

pub returns-clause-below : goal.returns-clause-below
returns-clause-below g c =
    let bs = c.args.bytes.now in
    let e = c.loop-byte.invariant.1 ∙ ap (number_from g.row.BASE g.row.FIRST 0) (take_all c.loop-byte.byte-index bs c.loop-byte-test.false) in
    subst (λ n. n < g.row.BASE ^ length bs) (sym e) (number_small g.row.BASE (λ b. b - g.row.FIRST) (λ d. g.row.FIRST + d) bs c.requires.held)
