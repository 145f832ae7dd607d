-- A run grows with each digit, and ends before what is none.
use Rattle.std.proofs.Common.{◌≡◌, ℕ, ◌+◌, ◌-◌, ◌*◌, ◌%◌, ◌^◌, ◌<◌, ◌≤◌, false, List, length, get_or, take, mod-eq_of_lt, sym, ap, ◌∙◌, ⊎_elim, arith}
use Rattle.std.proofs.lemmas.Bool.{cases_lt, false≢true}
use Rattle.fields.specs.Digits.{is_digit, run, value}
use Rattle.fields.specs.Runs.{digit_in, digit_true, run_digit, run_le, value_take}
use Rattle.fields.proofs.RunLaws.{run_more, value_more}
use Rattle.fields.proofs.digits.leading.Goals as goal

-- one digit more, as long as the number is of use
worth : (bs : List ℕ) (i j n v : ℕ) → j ≡ i → i ≤ run bs → j < length bs → v ≡ get_or bs j 0 - 48 → (i ≤ 12 → n ≡ value (take i bs)) → i + 1 ≤ 12 → i + 1 ≤ run bs → (n * 10 % 18446744073709551616 + v) % 18446744073709551616 ≡ value (take (i + 1) bs)
worth bs i j n v e h l hv k few more =
    let s : value (take i bs) < 10 ^ 12 = value_take i 12 bs h (omega arith) in
    let t : value (take (i + 1) bs) < 10 ^ 12 = value_take (i + 1) 12 bs more few in
    let w = hv ∙ ap (λ x. get_or bs x 0 - 48) e in
    let m = value_more bs i (omega arith) in
    let a : n ≡ value (take i bs) = k (omega arith) in
    let b : n * 10 % 18446744073709551616 ≡ n * 10 = mod-eq_of_lt (omega arith) in
    let c : n * 10 + v ≡ value (take (i + 1) bs) = omega arith in
    ap (λ x. (x + v) % 18446744073709551616) b ∙ ap (λ x. x % 18446744073709551616) c ∙ mod-eq_of_lt (omega arith)

-- a run ends before a byte that is no digit, or with the bytes
ended : (bs : List ℕ) (i j : ℕ) → j ≡ i → i ≤ run bs → is_digit (get_or bs j 0) ≡ false → i ≡ run bs
ended bs i j e h f =
    let x = ap (λ k. get_or bs k 0) e in
    ⊎_elim (λ l. let d = run_digit bs i l in let t = digit_true (get_or bs j 0) (omega (arith, x, d.0), omega (arith, x, d.1)) in absurd (false≢true (sym f ∙ t))) (λ l. omega arith) (cases_lt i (run bs))

pub loop-byte-preserved : goal.loop-byte-preserved
loop-byte-preserved c =
    let bs = c.args.bytes.now in
    let l = c.loop-byte in
    let e : l.byte-index ≡ l.len = sym l.invariant.0 in
    let d = digit_in (get_or bs l.byte-index 0) (sym c.if-not-is_ascii_digit.ensures.value) in
    let x = ap (λ k. get_or bs k 0) e in
    let more = run_more bs l.len l.invariant.1 (omega (arith, e, c.loop-byte-test.true)) (omega (arith, d.0, x), omega (arith, d.1, x)) in
    (omega (arith, e), more, λ few. worth bs l.len l.byte-index l.n c.from.result e l.invariant.1 c.loop-byte-test.true c.from.ensures l.invariant.2 few more)

pub returns-after-loop-byte-clause-len : goal.returns-after-loop-byte-clause-len
returns-after-loop-byte-clause-len c = omega (arith, c.loop-byte.invariant.0, c.loop-byte.invariant.1, c.loop-byte-test.false, run_le c.args.bytes.now)

pub returns-then-not-is_ascii_digit-clause-len : goal.returns-then-not-is_ascii_digit-clause-len
returns-then-not-is_ascii_digit-clause-len c =
    let l = c.loop-byte in
    ended c.args.bytes.now l.len l.byte-index (sym l.invariant.0) l.invariant.1 (sym c.if-not-is_ascii_digit.ensures.value)
