-- The text of the lines so far, and there is room as before.
use Rattle.std.proofs.Common.{◌≡◌, ◌≤◌, take, vec_items, vec_capacity}
use Rattle.report.specs.Printing.{kept}
use Rattle.reader.specs.Models.{nodes_of}
use Rattle.reader.proofs.source.Source.keep_text.Given as goal

abbrev pub invariant-loop-line : goal.invariant-loop-line
invariant-loop-line g l =
    (vec_items l.text ≡ kept (g.F.Family.means l.self.family.now) (nodes_of l.self) l.self.row.now (take l.line-index l.lines))
    × (vec_capacity l.initial.text ≤ vec_capacity l.text)
