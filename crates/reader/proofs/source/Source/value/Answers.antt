-- The value of one line more.
use Rattle.std.proofs.Common.{vec_items}
use Rattle.std.proofs.lemmas.List.{take_more}
use Rattle.reader.proofs.Scans.{value_more}
use Rattle.reader.proofs.source.Source.value.Goals as goal

pub loop-line-preserved : goal.loop-line-preserved
loop-line-preserved g c =
    value_more (vec_items c.args.self.now.layout.now.nodes) c.args.column _ _ _ c.or-value.result c.number_in.result c.loop-line.value
    (take_more c.args.lines.now c.loop-line.line-index _ c.loop-line-test.true) c.or-value.ensures c.number_in.ensures c.loop-line.invariant
