-- The bytes of the text are read to their end, or up to one that is no digit.
use Rattle.std.proofs.Common.{rules}
use Rattle.cli.proofs.Digits.{number_read}
use Rattle.cli.proofs.numbers.number_of.Goals as goal

pub returns : goal.returns
returns c =
    let run = c.try_fold.ensures.runs in
    number_read _ _ run.0 c.args.digits.now (search rules) (λ v b o q call. search rules) _ c.try_fold.result (λ e. search rules) run.2
