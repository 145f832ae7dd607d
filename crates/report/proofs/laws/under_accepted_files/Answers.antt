-- What holds of every table holds of that of a file.
use Rattle.report.proofs.AcceptedFiles.{under_file}
use Rattle.report.proofs.laws.under_accepted_files.Goals as goal

pub returns : goal.returns
returns g c = λ file accepted. under_file (g.F.Family.means c.args.family.now) file (g.met.F.Family.lawful c.args.family.now) accepted
