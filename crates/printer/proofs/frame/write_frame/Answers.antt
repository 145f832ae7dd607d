-- The row is what the parts have laid.
use Rattle.std.proofs.Common.{◌∙◌}
use Rattle.printer.specs.Frames.{row_of}
use Rattle.printer.proofs.Framing.{framed_both, framed_longer}
use Rattle.printer.proofs.frame.write_frame.Goals as goal

pub returns-clause-both : goal.returns-clause-both
returns-clause-both g c = λ h k.
    let row = row_of (g.F.Family.means c.args.family.now) c.args.layout.now.nodes.items c.args.report.now in
    c.frame_in.ensures ∙ framed_both (λ x. (g.R.RowRule.means c.args.rule.now).frame x c.args.mark) row _ _ _ c.in-Some.ensures k

pub returns-clause-longer : goal.returns-clause-longer
returns-clause-longer g c = λ h k.
    let row = row_of (g.F.Family.means c.args.family.now) c.args.layout.now.nodes.items c.args.report.now in
    c.frame_in.ensures ∙ framed_longer (λ x. (g.R.RowRule.means c.args.rule.now).frame x c.args.mark) row _ _ _ c.in-Some.ensures h k
