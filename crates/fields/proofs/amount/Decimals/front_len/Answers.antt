-- A number below ten scales has one digit in front of the point.
use Rattle.std.proofs.Common.{◌/◌, ◌^◌, ◌<◌, length, sym, ap, div-lt_iff_lt-mul, arith}
use Rattle.std.proofs.lemmas.Fmt.{decimal_digit}
use Rattle.fields.specs.AmountLaw.{pow_pos}
use Rattle.fields.proofs.amount.Decimals.front_len.Goals as goal

pub returns-then-n-scale-clause-is : goal.returns-then-n-scale-clause-is
returns-then-n-scale-clause-is c =
    let few : c.args.n / 10 ^ c.args.self.count < 10 = (div-lt_iff_lt-mul (pow_pos c.args.self.count)).1 (omega (arith, c.if-n-scale.true, c.scale-scale.ensures.is)) in
    sym (ap length (decimal_digit (c.args.n / 10 ^ c.args.self.count) few))
