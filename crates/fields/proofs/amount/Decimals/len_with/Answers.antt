-- How long an amount's spelling is, part by part.
use Rattle.std.proofs.Common.{◌≡◌, ◌/◌, ◌^◌, length, decimal, unsigned_abs, ap, ◌∙◌, w64, FitsSigned, arith, rules}
use Rattle.std.proofs.lemmas.Int.{to_z-of_z}
use Rattle.fields.specs.Amounts.{minus_of}
use Rattle.fields.specs.AmountLaw.{length_amount}
use Rattle.fields.proofs.amount.Decimals.len_with.Goals as goal

pub returns : goal.returns
returns c =
    let p = c.args.self.count in
    let z = c.args.number in
    let fits : FitsSigned w64 z = search rules in
    let e = to_z-of_z w64 z fits in
    let s : c.sign_len.result ≡ length (minus_of z) = c.sign_len.ensures.is ∙ ap (λ x. length (minus_of x)) e in
    let d : c.args.digits ≡ length (decimal (unsigned_abs z / 10 ^ p)) = c.requires.is in
    omega (arith, length_amount p z, s, d, c.point_len.ensures.is)
