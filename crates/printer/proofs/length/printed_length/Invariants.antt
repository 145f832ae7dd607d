-- The length of the parts so far, with those of the other lines.
use Rattle.std.proofs.Common.{◌≡◌, ◌+◌, ◌≤◌, length, drop}
use Rattle.report.specs.Printing.{printed}
use Rattle.report.specs.Reports.{print}
use Rattle.rows.specs.Frames.{measured}
use Rattle.store.specs.Stored.{report_of}
use Rattle.printer.proofs.length.printed_length.Given as goal

abbrev pub invariant-loop-line : goal.invariant-loop-line
invariant-loop-line g l =
    (l.total ≤ 18446744073709551615) × (measured (l.total + length (printed (g.F.Family.means l.family) l.layout.nodes.items (drop l.line-index l.line-items) l.text)) ≡ measured (length (print (g.F.Family.means l.family) l.layout.nodes.items (report_of l.report))))
