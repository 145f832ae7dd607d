-- What is said of one line more is written.
use Rattle.std.proofs.Common.{arith}
use Rattle.store.specs.Stored.{report_of}
use Rattle.explaining.specs.Reports.{parts_skipped, skipped_text, told, faulty_text}
use Rattle.explaining.proofs.Steps.{owes_next}
use Rattle.explaining.proofs.reports.write_faulty.Goals as goal

pub loop-line-preserved : goal.loop-line-preserved
loop-line-preserved g c =
    let u = c.args.under.now in
    let nodes = u.layout.now.nodes.items in
    let constants = u.layout.now.constants.items in
    let r = report_of c.args.report.now in
    owes_next (told u.family nodes constants c.args.bytes.now) c.deref-line-items.result.now c.loop-line.line-index _ (skipped_text (parts_skipped r.lines)) (faulty_text u.family nodes constants c.args.bytes.now c.args.row r) _ _ _ (omega (arith, c.loop-line-test.true)) c.loop-line.invariant (c.in_ok-write_line.ensures)
