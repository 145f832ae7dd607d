-- The point, and the digits behind it.
use Rattle.std.proofs.Common.{ap, ◌+◌, ◌∙◌, arith}
use Rattle.fields.specs.Buffers.{over}
use Rattle.fields.specs.Digits.{padded}
use Rattle.fields.proofs.AmountWriting.{point_over}
use Rattle.fields.proofs.amount.Decimals.put_point.Goals as goal

pub returns-then-self-gt0 : goal.returns-then-self-gt0
returns-then-self-gt0 c =
    let p = c.args.self.count in
    c.put_places.ensures
    ∙ ap (λ k. over (c.args.at + 1) (padded k c.args.fraction) c.put_byte.new.out) c.from.ensures
    ∙ ap (λ o. over (c.args.at + 1) (padded p c.args.fraction) o) c.put_byte.ensures
    ∙ point_over p c.args.fraction c.args.at c.args.out.now c.if-self-gt0.true c.requires.small (omega (arith, c.requires.room))
