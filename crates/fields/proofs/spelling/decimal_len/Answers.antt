-- Between two powers of ten, numbers have as many digits.
use Rattle.std.proofs.Common.{arith}
use Rattle.std.proofs.lemmas.Fmt.{decimal_nonempty, length-decimal-le}
use Rattle.fields.proofs.RunLaws.{exact_decimal}
use Rattle.fields.proofs.spelling.decimal_len.Goals as goal

pub returns-in-0-to-9-clause-is : goal.returns-in-0-to-9-clause-is
returns-in-0-to-9-clause-is c = omega (arith, decimal_nonempty c.args.n (omega arith), length-decimal-le 1 c.args.n (omega arith) (omega (arith, c.in-0-to-9)) (omega arith))

pub returns-in-10-to-99-clause-is : goal.returns-in-10-to-99-clause-is
returns-in-10-to-99-clause-is c = exact_decimal 1 c.args.n (omega (arith, c.in-10-to-99)) (omega (arith, c.in-10-to-99)) (omega arith)

pub returns-in-100-to-999-clause-is : goal.returns-in-100-to-999-clause-is
returns-in-100-to-999-clause-is c = exact_decimal 2 c.args.n (omega (arith, c.in-100-to-999)) (omega (arith, c.in-100-to-999)) (omega arith)

pub returns-in-1000-to-9999-clause-is : goal.returns-in-1000-to-9999-clause-is
returns-in-1000-to-9999-clause-is c = exact_decimal 3 c.args.n (omega (arith, c.in-1000-to-9999)) (omega (arith, c.in-1000-to-9999)) (omega arith)
