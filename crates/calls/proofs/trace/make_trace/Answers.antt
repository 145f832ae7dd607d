-- Where the pass stops, its status is that of the stop.
use Rattle.std.proofs.Common.{sym, subst}
use Rattle.import.specs.States.{model_of}
use Rattle.calls.specs.Lefts.{traced, Makes}
use Rattle.calls.proofs.Taking.{traced_stops}
use Rattle.calls.proofs.trace.make_trace.Goals as goal

pub returns : goal.returns
returns g c =
    let file = c.args.file.now in
    let text = c.write_trace.new.out.items in
    let rule = g.R.RowRule.means c.args.named.rule in
    let means = g.F.Family.means c.args.named.family in
    subst (λ s. Makes (traced rule means c.args.layout.now file) s text) (sym c.from.ensures) (
    traced_stops (model_of file c.in-Ok.import) (g.R.RowRule.means c.args.named.spare) rule means (g.R.RowRule.ahead c.args.named.spare file) (c.in-Ok.ensures file) c.args.layout.now file text c.in-Err.stop c.in-Err.ensures.cases)
