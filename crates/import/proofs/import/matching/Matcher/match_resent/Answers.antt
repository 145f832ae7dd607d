-- Rule and family are lawful.
use Rattle.import.specs.Matching.{export}
use Rattle.import.proofs.TwoFiles.{files_told_apart}
use Rattle.import.proofs.Exchange.{exchanges}
use Rattle.import.proofs.Matched.{same_where_read, same_exactly}
use Rattle.import.proofs.OneAnswer.{one_answer}
use Rattle.import.proofs.import.matching.Matcher.match_resent.Goals as goal

pub returns-clause-same : goal.returns-clause-same
returns-clause-same g c =
    same_where_read c.args.layout.now (export (g.R.RowRule.means c.args.rule) (g.F.Family.means c.args.self.now.first.family) c.args.one.now) (export (g.R.RowRule.means c.args.again) (g.F.Family.means c.args.self.now.resent.family) c.args.other.now)
    c.match_both.result (g.met.R.RowRule.lawful c.args.rule) (g.met.F.Family.lawful c.args.self.now.first.family) (λ i. (c.type_inv.one i).fits) (λ i. (c.type_inv.other i).fits) c.match_both.ensures.told

pub returns-clause-same_readable : goal.returns-clause-same_readable
returns-clause-same_readable g c =
    same_exactly c.args.layout.now (export (g.R.RowRule.means c.args.rule) (g.F.Family.means c.args.self.now.first.family) c.args.one.now) (export (g.R.RowRule.means c.args.again) (g.F.Family.means c.args.self.now.resent.family) c.args.other.now)
    c.match_both.result (g.met.R.RowRule.lawful c.args.rule) (g.met.F.Family.lawful c.args.self.now.first.family) (λ i. (c.type_inv.one i).fits) (λ i. (c.type_inv.other i).fits) c.match_both.ensures.told

pub returns-clause-one_answer : goal.returns-clause-one_answer
returns-clause-one_answer g c = one_answer

pub returns-clause-told_apart : goal.returns-clause-told_apart
returns-clause-told_apart g c =
    files_told_apart (g.R.RowRule.means c.args.rule) (g.F.Family.means c.args.self.now.first.family) (g.met.R.RowRule.lawful c.args.rule) (g.met.F.Family.lawful c.args.self.now.first.family)

pub returns-clause-exchanges : goal.returns-clause-exchanges
returns-clause-exchanges g c =
    exchanges (g.R.RowRule.means c.args.rule) (g.F.Family.means c.args.self.now.first.family) (g.met.R.RowRule.lawful c.args.rule) (g.met.F.Family.lawful c.args.self.now.first.family)
