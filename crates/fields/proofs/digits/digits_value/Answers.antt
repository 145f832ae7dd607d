-- Up to twelve digits are places in base ten, and their number is small.
use Rattle.std.proofs.Common.{◌^◌, ◌≤◌, length, arith}
use native.Mathlib.Nat.{pow-le-pow_right}
use Rattle.fields.specs.Runs.{each_digit}
use Rattle.fields.proofs.digits.digits_value.Goals as goal

pub value-requires-clause-held : goal.value-requires-clause-held
value-requires-clause-held c = each_digit c.args.digits.now c.requires.digits

pub value-requires-clause-few : goal.value-requires-clause-few
value-requires-clause-few c = let p : 10 ^ length c.args.digits.now ≤ 10 ^ 12 = pow-le-pow_right {n = 10} (omega arith) c.requires.few in omega arith

pub returns-clause-small : goal.returns-clause-small
returns-clause-small c = let p : 10 ^ length c.args.digits.now ≤ 10 ^ 12 = pow-le-pow_right {n = 10} (omega arith) c.requires.few in omega (arith, c.value.ensures.below)
