-- All that holds of the runs on what was taken.
use Rattle.import.specs.States.{model_of}
use Rattle.import.proofs.Fresh.{taken_runs}
use Rattle.import.proofs.import.Import.new.Goals as goal

pub returns-clause-runs : goal.returns-clause-runs
returns-clause-runs g c =
    let file = c.args.file.now in
    taken_runs (model_of file c.args.self.now) (model_of file c.take_file.new.self) c.args.number c.args.layout.now (g.R.RowRule.means c.args.rule) file
    (g.met.R.RowRule.lawful c.args.rule) (g.met.F.Family.lawful c.args.self.now.family) (λ i. (c.type_inv.file i).fits) c.take_file.result c.take_file.ensures.step
