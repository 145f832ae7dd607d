-- A report stands in both, and the two are compared.
use Rattle.std.proofs.Common.{rules, ◌≡◌, false, is_none}
use Rattle.store.specs.Stored.{report_of}
use Rattle.import.specs.States.{model_of}
use Rattle.import.proofs.TwoFiles.{reports_told_apart}
use Rattle.import.proofs.Comparing.{one_standing, compared}
use Rattle.import.proofs.import.Import.same_report.Goals as goal

pub returns-clause-rows : goal.returns-clause-rows
returns-clause-rows g c =
    let i = c.args.self.now in
    let j = c.args.other.now in
    let here : is_none i.standing ≡ false = search rules in
    let there : is_none j.standing ≡ false = search rules in
    compared (g.R.RowRule.means i.rule) (g.Q.RowRule.means j.rule) (g.F.Family.means i.family) (g.met.R.RowRule.lawful i.rule) (g.met.Q.RowRule.lawful j.rule) (g.met.F.Family.lawful i.family)
    (λ file. model_of file i) (λ file. model_of file j) (report_of i.report) (report_of j.report) c.same.result c.same.ensures (λ _. one_standing i.report i.standing here) (λ _. one_standing j.report j.standing there)

pub returns-clause-told_apart : goal.returns-clause-told_apart
returns-clause-told_apart g c =
    let i = c.args.self.now in
    let j = c.args.other.now in
    reports_told_apart (g.R.RowRule.means i.rule) (g.Q.RowRule.means j.rule) (g.F.Family.means i.family) (g.met.R.RowRule.lawful i.rule) (g.met.Q.RowRule.lawful j.rule) (g.met.F.Family.lawful i.family)

pub returns-then-is_none-clause-told_apart : goal.returns-then-is_none-clause-told_apart
returns-then-is_none-clause-told_apart g c =
    let i = c.args.self.now in
    let j = c.args.other.now in
    reports_told_apart (g.R.RowRule.means i.rule) (g.Q.RowRule.means j.rule) (g.F.Family.means i.family) (g.met.R.RowRule.lawful i.rule) (g.met.Q.RowRule.lawful j.rule) (g.met.F.Family.lawful i.family)
