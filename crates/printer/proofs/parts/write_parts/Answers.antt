-- One part more is written, that of the next line.
use Rattle.report.specs.Lines.{begun}
use Rattle.printer.proofs.Begun.{begun_next}
use Rattle.printer.proofs.parts.write_parts.Goals as goal

pub loop-line-preserved : goal.loop-line-preserved
loop-line-preserved g c =
    begun_next (g.F.Family.means c.args.family.now) c.args.layout.now.nodes.items c.deref-line-items.result.now c.loop-line.line-index (begun 0 0) c.loop-line.text.now _ c.of_line.result.1.now
    _ _ _ c.write_at.new.out _ c.in_ok-at.at c.loop-line-test.true c.of_line.ensures.part c.of_line.ensures.rest c.loop-line.invariant c.in_ok-at.ensures
