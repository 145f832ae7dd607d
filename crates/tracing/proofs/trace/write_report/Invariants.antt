-- The lines from here on, and what stands behind them, are still to be written.
use Rattle.std.proofs.Common.{◌++◌, drop}
use Rattle.report.specs.Reports.{fault_count}
use Rattle.records.specs.Records.{kept_text, faults_text}
use Rattle.store.specs.Stored.{report_of}
use Rattle.tracing.specs.Traces.{report_text, lines_text, on_a_line}
use Rattle.tracing.proofs.Streams.{Owes}
use Rattle.tracing.proofs.trace.write_report.Given as goal

abbrev pub invariant-loop-line : goal.invariant-loop-line
invariant-loop-line g l =
    let r = report_of l.report in
    Owes (g.W.Write.contents l.fn.out) (g.W.Write.contents l.out) (lines_text (drop l.line-index l.line-items) ++ (on_a_line (kept_text r.text) ++ on_a_line (faults_text (fault_count r)))) (report_text r)
