-- Up to twelve digits make a field's number.
use Rattle.std.proofs.Common.{arith}
use Rattle.fields.specs.Runs.{value_take}
use Rattle.fields.proofs.whole.read_whole.Goals as goal

pub number-requires : goal.number-requires
number-requires c =
    let n = c.leading-len in
    omega (arith, n.ensures.is c.if-len-gt12.false, value_take n.result.0 12 c.rest-rest.result.now (omega (arith, n.ensures.len)) c.if-len-gt12.false)
