-- The lines of the whole row cover it.
use Rattle.report.proofs.PrintLaws.{prints_row}
use Rattle.report.proofs.laws.prints_back.Goals as goal

pub returns : goal.returns
returns g c = λ nodes constants row known bytes. prints_row (g.F.Family.means c.args.family.now) nodes constants row (g.met.F.Family.lawful c.args.family.now) known bytes
