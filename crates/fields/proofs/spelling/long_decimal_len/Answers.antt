-- Between two powers of ten, numbers have as many digits.
use Rattle.std.proofs.Common.{arith}
use Rattle.fields.proofs.RunLaws.{exact_decimal}
use Rattle.fields.proofs.spelling.long_decimal_len.Goals as goal

pub returns-in-0-to-99999-clause-is : goal.returns-in-0-to-99999-clause-is
returns-in-0-to-99999-clause-is c = exact_decimal 4 c.args.n (omega (arith, c.requires)) (omega (arith, c.in-0-to-99999)) (omega arith)

pub returns-in-100000-to-999999-clause-is : goal.returns-in-100000-to-999999-clause-is
returns-in-100000-to-999999-clause-is c = exact_decimal 5 c.args.n (omega (arith, c.in-100000-to-999999)) (omega (arith, c.in-100000-to-999999)) (omega arith)

pub returns-in-1000000-to-9999999-clause-is : goal.returns-in-1000000-to-9999999-clause-is
returns-in-1000000-to-9999999-clause-is c = exact_decimal 6 c.args.n (omega (arith, c.in-1000000-to-9999999)) (omega (arith, c.in-1000000-to-9999999)) (omega arith)

pub returns-in-10000000-to-99999999-clause-is : goal.returns-in-10000000-to-99999999-clause-is
returns-in-10000000-to-99999999-clause-is c = exact_decimal 7 c.args.n (omega (arith, c.in-10000000-to-99999999)) (omega (arith, c.in-10000000-to-99999999)) (omega arith)

pub returns-in-100000000-to-999999999-clause-is : goal.returns-in-100000000-to-999999999-clause-is
returns-in-100000000-to-999999999-clause-is c = exact_decimal 8 c.args.n (omega (arith, c.in-100000000-to-999999999)) (omega (arith, c.in-100000000-to-999999999)) (omega arith)

pub returns-in-1000000000-to-9999999999-clause-is : goal.returns-in-1000000000-to-9999999999-clause-is
returns-in-1000000000-to-9999999999-clause-is c = exact_decimal 9 c.args.n (omega (arith, c.in-1000000000-to-9999999999)) (omega (arith, c.in-1000000000-to-9999999999)) (omega arith)

pub returns-in-10000000000-to-99999999999-clause-is : goal.returns-in-10000000000-to-99999999999-clause-is
returns-in-10000000000-to-99999999999-clause-is c = exact_decimal 10 c.args.n (omega (arith, c.in-10000000000-to-99999999999)) (omega (arith, c.in-10000000000-to-99999999999)) (omega arith)

pub returns-in-100000000000-to-999999999999-clause-is : goal.returns-in-100000000000-to-999999999999-clause-is
returns-in-100000000000-to-999999999999-clause-is c = exact_decimal 11 c.args.n (omega (arith, c.in-100000000000-to-999999999999)) (omega (arith, c.in-100000000000-to-999999999999)) (omega arith)

pub returns-in-1000000000000-to-9999999999999-clause-is : goal.returns-in-1000000000000-to-9999999999999-clause-is
returns-in-1000000000000-to-9999999999999-clause-is c = exact_decimal 12 c.args.n (omega (arith, c.in-1000000000000-to-9999999999999)) (omega (arith, c.in-1000000000000-to-9999999999999)) (omega arith)

pub returns-in-10000000000000-to-99999999999999-clause-is : goal.returns-in-10000000000000-to-99999999999999-clause-is
returns-in-10000000000000-to-99999999999999-clause-is c = exact_decimal 13 c.args.n (omega (arith, c.in-10000000000000-to-99999999999999)) (omega (arith, c.in-10000000000000-to-99999999999999)) (omega arith)

pub returns-in-100000000000000-to-999999999999999-clause-is : goal.returns-in-100000000000000-to-999999999999999-clause-is
returns-in-100000000000000-to-999999999999999-clause-is c = exact_decimal 14 c.args.n (omega (arith, c.in-100000000000000-to-999999999999999)) (omega (arith, c.in-100000000000000-to-999999999999999)) (omega arith)

pub returns-in-1000000000000000-to-9999999999999999-clause-is : goal.returns-in-1000000000000000-to-9999999999999999-clause-is
returns-in-1000000000000000-to-9999999999999999-clause-is c = exact_decimal 15 c.args.n (omega (arith, c.in-1000000000000000-to-9999999999999999)) (omega (arith, c.in-1000000000000000-to-9999999999999999)) (omega arith)

pub returns-in-10000000000000000-to-99999999999999999-clause-is : goal.returns-in-10000000000000000-to-99999999999999999-clause-is
returns-in-10000000000000000-to-99999999999999999-clause-is c = exact_decimal 16 c.args.n (omega (arith, c.in-10000000000000000-to-99999999999999999)) (omega (arith, c.in-10000000000000000-to-99999999999999999)) (omega arith)

pub returns-in-100000000000000000-to-999999999999999999-clause-is : goal.returns-in-100000000000000000-to-999999999999999999-clause-is
returns-in-100000000000000000-to-999999999999999999-clause-is c = exact_decimal 17 c.args.n (omega (arith, c.in-100000000000000000-to-999999999999999999)) (omega (arith, c.in-100000000000000000-to-999999999999999999)) (omega arith)

pub returns-in-1000000000000000000-to-9999999999999999999-clause-is : goal.returns-in-1000000000000000000-to-9999999999999999999-clause-is
returns-in-1000000000000000000-to-9999999999999999999-clause-is c = exact_decimal 18 c.args.n (omega (arith, c.in-1000000000000000000-to-9999999999999999999)) (omega (arith, c.in-1000000000000000000-to-9999999999999999999)) (omega arith)

pub returns-in_default-clause-is : goal.returns-in_default-clause-is
returns-in_default-clause-is c = exact_decimal 19 c.args.n (omega arith) (omega arith) (omega arith)
