-- The lines of the whole row cover it, each from where the last one ended.
use Rattle.report.proofs.PrintLaws.{line_starts}
use Rattle.report.proofs.laws.lines_in_place.Goals as goal

pub returns : goal.returns
returns g c = λ nodes constants row known bytes above below l e.
    line_starts (g.F.Family.means c.args.family.now) nodes constants row (g.met.F.Family.lawful c.args.family.now) known bytes above below l e
