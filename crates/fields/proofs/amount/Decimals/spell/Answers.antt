-- An amount's spelling, part after part.
use Rattle.std.proofs.Common.{◌≡◌, ℕ, ◌+◌, ◌-◌, ◌/◌, ◌^◌, ◌≤◌, length, ℤ, decimal, unsigned_abs, sym, ap, ◌∙◌, mod-lt, w64, FitsSigned, arith, rules}
use Rattle.std.proofs.lemmas.Int.{to_z-of_z}
use Rattle.fields.specs.Buffers.{over}
use Rattle.fields.specs.Amounts.{minus_of, point_of, point_len, amount_spells}
use Rattle.fields.specs.AmountLaw.{pow_pos, length_amount}
use Rattle.fields.proofs.AmountWriting.{point_part, amount_over}
use Rattle.fields.proofs.Writing.{written_room}
use Rattle.fields.proofs.amount.Decimals.spell.Goals as goal

-- where the point stands, from the lengths of the parts
record Parts (p : ℕ) (z : ℤ) (front len point sign : ℕ) : Type 0 where
  is : front ≡ unsigned_abs z / 10 ^ p
  long : len ≡ length (amount_spells p z)
  one : sign ≡ length (minus_of z)
  behind : point ≤ len
  at : sign + length (decimal front) ≡ len - point

parts : (p : ℕ) (z y : ℤ) (n front len point sign : ℕ) → y ≡ z → n ≡ unsigned_abs y → front ≡ n / 10 ^ p → len ≡ length (amount_spells p y) → point ≡ point_len p → sign ≡ length (minus_of y) → Parts p z front len point sign
parts p z y n front len point sign e hn hf hl hp ho =
    let f : front ≡ unsigned_abs z / 10 ^ p = hf ∙ ap (λ k. k / 10 ^ p) (hn ∙ ap unsigned_abs e) in
    let l = hl ∙ ap (λ x. length (amount_spells p x)) e in
    let o = ho ∙ ap (λ x. length (minus_of x)) e in
    let m = length_amount p z in
    let d : length (decimal front) ≡ length (decimal (unsigned_abs z / 10 ^ p)) = ap (λ k. length (decimal k)) f in
    record { is = f; long = l; one = o; behind = omega arith; at = omega arith }

pub overflow_sub-point : goal.overflow_sub-point
overflow_sub-point c =
    let p = c.args.self.count in
    let z = c.args.number in
    let fits : FitsSigned w64 z = search rules in
    let l = c.len_with-len.ensures ∙ ap (λ x. length (amount_spells p x)) (to_z-of_z w64 z fits) in
    omega (arith, length_amount p z, l, c.point_len.ensures.is)

pub put_decimal-requires : goal.put_decimal-requires
put_decimal-requires c =
    let fits : FitsSigned w64 c.args.number = search rules in
    let t = parts c.args.self.count c.args.number _ _ _ _ _ _ (to_z-of_z w64 c.args.number fits) c.unsigned_abs.ensures.value c.apart-front.ensures.0 c.len_with-len.ensures c.point_len.ensures.is c.sign_len.ensures.is in
    (t.at, omega (arith, c.if-out-len.false))

pub put_point-requires-clause-small : goal.put_point-requires-clause-small
put_point-requires-clause-small c = omega (arith, c.apart-front.ensures.1, mod-lt c.unsigned_abs.result (pow_pos c.args.self.count))

pub put_point-requires-clause-room : goal.put_point-requires-clause-room
put_point-requires-clause-room c =
    let fits : FitsSigned w64 c.args.number = search rules in
    let t = parts c.args.self.count c.args.number _ _ _ _ _ _ (to_z-of_z w64 c.args.number fits) c.unsigned_abs.ensures.value c.apart-front.ensures.0 c.len_with-len.ensures c.point_len.ensures.is c.sign_len.ensures.is in
    omega (arith, t.behind, c.point_len.ensures.is, c.if-out-len.false)

pub returns : goal.returns
returns c =
    let p = c.args.self.count in
    let z = c.args.number in
    let e = c.args.out.now in
    let fits : FitsSigned w64 z = search rules in
    let y = to_z-of_z w64 z fits in
    let m = c.len_with-len.result - c.point_len.result in
    let n : c.unsigned_abs.result ≡ unsigned_abs z = c.unsigned_abs.ensures.value ∙ ap unsigned_abs y in
    let t = parts p z _ _ _ _ _ _ y c.unsigned_abs.ensures.value c.apart-front.ensures.0 c.len_with-len.ensures c.point_len.ensures.is c.sign_len.ensures.is in
    let f : point_of p c.apart-front.result.1 ≡ point_of p (unsigned_abs z) = ap (point_of p) c.apart-front.ensures.1 ∙ point_part p c.unsigned_abs.result ∙ ap (point_of p) n in
    written_room c.len_with-len.result (amount_spells p z) c.put_point.new.out e t.long c.if-out-len.false
    (amount_over p z e c.put_sign.new.out c.put_decimal.new.out c.put_point.new.out c.sign_len.result m t.one
    (sym t.at ∙ ap (λ k. c.sign_len.result + length (decimal k)) t.is)
    (c.put_sign.ensures ∙ ap (λ x. over 0 (minus_of x) e) y)
    (c.put_decimal.ensures ∙ ap (λ k. over c.sign_len.result (decimal k) c.put_sign.new.out) t.is)
    (c.put_point.ensures ∙ ap (λ w. over m w c.put_decimal.new.out) f))
