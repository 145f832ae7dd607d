-- The value of the lines so far.
use Rattle.std.proofs.Common.{◌≡◌, take, vec_items}
use Rattle.report.specs.Values.{values, latest}
use Rattle.reader.proofs.source.Source.value.Given as goal

abbrev pub invariant-loop-line : goal.invariant-loop-line
invariant-loop-line g l = l.value ≡ latest l.column (values (vec_items l.self.layout.now.nodes) (take l.line-index l.lines))
