-- The lines from here on, and what stands behind them, are still to be written.
use Rattle.std.proofs.Common.{◌++◌, drop}
use Rattle.store.specs.Stored.{report_of}
use Rattle.explaining.specs.Reports.{parts_skipped, skipped_text, lines_text, faulty_text}
use Rattle.tracing.proofs.Streams.{Owes}
use Rattle.explaining.proofs.reports.write_faulty.Given as goal

abbrev pub invariant-loop-line : goal.invariant-loop-line
invariant-loop-line g l =
    let r = report_of l.report in
    Owes (g.W.Write.contents l.fn.out) (g.W.Write.contents l.out) (lines_text l.under.family l.under.layout.now.nodes.items l.under.layout.now.constants.items l.bytes (drop l.line-index l.line-items) ++ skipped_text (parts_skipped r.lines)) (faulty_text l.under.family l.under.layout.now.nodes.items l.under.layout.now.constants.items l.bytes l.fn.row r)
