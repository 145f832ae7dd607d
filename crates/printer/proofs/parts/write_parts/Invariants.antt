-- The parts of the lines so far are written, and those of the other lines are to come.
use Rattle.std.proofs.Common.{drop}
use Rattle.report.specs.Printing.{printed}
use Rattle.report.specs.Reports.{print}
use Rattle.store.specs.Stored.{report_of}
use Rattle.printer.proofs.Begun.{Begun}
use Rattle.printer.proofs.parts.write_parts.Given as goal

abbrev pub invariant-loop-line : goal.invariant-loop-line
invariant-loop-line g l =
    Begun (print (g.F.Family.means l.family) l.layout.nodes.items (report_of l.report)) (printed (g.F.Family.means l.family) l.layout.nodes.items (drop l.line-index l.line-items) l.text) l.fn.out l.out l.at
