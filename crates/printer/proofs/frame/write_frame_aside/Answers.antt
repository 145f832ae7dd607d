-- What is copied is the frame.
use Rattle.std.proofs.Common.{refl}
use Rattle.printer.specs.Frames.{row_of}
use Rattle.printer.proofs.Framing.{copied}
use Rattle.printer.proofs.frame.write_frame_aside.Goals as goal

pub returns-clause-shorter : goal.returns-clause-shorter
returns-clause-shorter g c =
    let row = row_of (g.F.Family.means c.args.family.now) c.args.layout.now.nodes.items c.args.report.now in
    copied (λ x. (g.R.RowRule.means c.args.rule.now).frame x c.args.mark) row _ c.write_frame.new.buffer c.args.out.now c.write.new.out c.in_ok-length.length c.write.result c.ok_or.result
    c.in_ok-length.ensures.both refl c.write.ensures c.ok_or.ensures.value
