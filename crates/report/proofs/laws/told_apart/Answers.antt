-- Each report prints its row.
use Rattle.report.proofs.ToldApart.{same_rows}
use Rattle.report.proofs.laws.told_apart.Goals as goal

pub returns : goal.returns
returns g c = λ nodes constants row other known b d.
    same_rows (g.F.Family.means c.args.family.now) nodes constants row other (g.met.F.Family.lawful c.args.family.now) known b d
