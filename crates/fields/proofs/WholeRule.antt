-- A whole number is read exactly where its decimal spelling stands and no digit follows.
use Rattle.std.proofs.Common.{◌≡◌, ℕ, ◌^◌, ◌<◌, ◌≤◌, false, ltb, List, ◌++◌, length, get_or, take, drop, ℤ, pos, nat_abs, Ok, decimal, sym, refl, ap, ◌∙◌, ⊎_elim, arith, length-append}
use Rattle.std.proofs.lemmas.List.{take_at, get_or_append_left}
use Rattle.std.proofs.lemmas.Bool.{and_left, and_right, ne_eqb, le-ltb, cases_lt}
use Rattle.std.proofs.lemmas.Fmt.{digits_value-decimal, digits_decimal, decimal_nonempty, decimal_digit, length-decimal-le, first_decimal}
use Rattle.fields.specs.Meanings.{Reading}
use Rattle.fields.specs.Digits.{run, value}
use Rattle.fields.specs.Wholes.{leads, whole, whole_tests, whole_gives}
use Rattle.fields.specs.Spellings.{Stands, ReadsSpelling, WholeNumber, NoDigit}
use Rattle.fields.specs.Fairs.{good}
use Rattle.fields.specs.Runs.{own, digit_at}
use Rattle.fields.proofs.Stand.{tried_inv, stands, run_rest, run_append}
use Rattle.fields.specs.WholeLaw.{whole_lawful}

-- a decimal spelling of a small number before bytes that go on with no digit
pub record Decimal (q : ℕ) (rest : List ℕ) : Type 0 where
  pub some : 0 < length (decimal q)
  pub long : run (decimal q ++ rest) ≡ length (decimal q)
  pub front : take (run (decimal q ++ rest)) (decimal q ++ rest) ≡ decimal q
  pub worth : value (take (run (decimal q ++ rest)) (decimal q ++ rest)) ≡ q
  pub first : 48 ≤ get_or (decimal q ++ rest) 0 0
  pub lone : leads (decimal q ++ rest) ≡ false

pub decimal_before : (q : ℕ) (rest : List ℕ) → q < 2 ^ 64 → run rest ≡ 0 → Decimal q rest
decimal_before q rest h e =
    let ds = decimal q in
    let pure = digits_decimal own q h in
    let some = decimal_nonempty q h in
    let long : run (ds ++ rest) ≡ length ds = omega (arith, run_append ds rest pure) in
    let front : take (run (ds ++ rest)) (ds ++ rest) ≡ ds = take_at ds rest _ (sym long) in
    let first : get_or (ds ++ rest) 0 0 ≡ get_or ds 0 0 = get_or_append_left ds rest 0 0 some in
    record {
      some = some;
      long = long;
      front = front;
      worth = ap value front ∙ digits_value-decimal own q h;
      first = omega (arith, (digit_at ds 0 pure some).0);
      lone = ⊎_elim
          (λ k. and_left _ _ (le-ltb 1 (run (ds ++ rest)) (omega (arith, ap length (decimal_digit q (omega arith))))))
          (λ k. and_right (ltb 1 (run (ds ++ rest))) _ (ne_eqb _ _ (λ z. omega (arith, first_decimal q k h))))
          (cases_lt q 1);
    }

whole_each : (bs : List ℕ) (n : ℕ) (z : ℤ) → Stands whole WholeNumber NoDigit bs n z → whole.reads bs ≡ Ok (n, z)
whole_each bs n z s =
    let q = nat_abs z in
    let d = decimal_before q s.rest (omega (arith, s.number.1)) s.ends in
    let cs = decimal q ++ s.rest in
    let some : 0 < length cs = omega (arith, length-append (decimal q) s.rest, d.some) in
    let few : run cs ≤ 12 = omega (arith, d.long, length-decimal-le 12 q (omega arith) (omega (arith, s.number.1)) (omega (arith, s.number.1))) in
    let r : ◌≡◌ {A = Reading} (Ok (whole_gives cs)) (whole.reads cs) = good (whole_tests cs) (whole_gives cs) (ne_eqb _ _ (λ h. omega arith), (ne_eqb _ _ (λ h. omega (arith, d.long, d.some)), (le-ltb 12 (run cs) few, (d.lone, tt)))) in
    ap whole.reads s.begins ∙ sym r ∙ ap (λ k. Ok (k, pos (value (take (run cs) cs)))) (d.long ∙ sym s.long) ∙ ap (λ v. Ok (n, pos v)) d.worth ∙ ap (λ y. Ok (n, y)) (sym s.number.0)

pub whole_rule : ReadsSpelling whole WholeNumber NoDigit
whole_rule = record {
  only = λ bs n z b e.
      let t = tried_inv (whole_tests bs) (whole_gives bs) (n, z) e in
      let l : run bs ≡ n = ap (λ x. x.0) t.1 in
      let v : pos (value (take (run bs) bs)) ≡ z = ap (λ x. x.1) t.1 in
      stands whole WholeNumber NoDigit whole_lawful refl bs n z b e
      (sym v ∙ ap pos (ap nat_abs v), whole_lawful.small bs n z b e)
      (ap (λ k. run (drop k bs)) (sym l) ∙ run_rest bs);
  each = whole_each;
}
