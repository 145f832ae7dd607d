-- The report that is looked at is the one that stands.
use Rattle.std.proofs.Common.{rules, ◌≡◌, true, false, ◌==◌, sym}
use Rattle.report.specs.Reports.{fault_count}
use Rattle.store.specs.Stored.{report_of}
use Rattle.import.specs.States.{model_of}
use Rattle.passes.proofs.Filing.{filed_by, set_aside_then}
use Rattle.passes.proofs.pass.how_to_file.Goals as goal

pub returns-then-report-eq0 : goal.returns-then-report-eq0
returns-then-report-eq0 g c = λ file.
    let r = c.in-Ok.report.now in
    let none : (fault_count (report_of r) == 0) ≡ true = search rules in
    sym (filed_by (model_of file c.args.import.now).standing (report_of r) true (c.in-Ok.ensures file) none)

pub returns-else-report-eq0 : goal.returns-else-report-eq0
returns-else-report-eq0 g c = λ file.
    let r = c.in-Ok.report.now in
    let some : (fault_count (report_of r) == 0) ≡ false = search rules in
    sym (filed_by (model_of file c.args.import.now).standing (report_of r) false (c.in-Ok.ensures file) some)

pub returns-in-Err : goal.returns-in-Err
returns-in-Err g c = λ file. sym (set_aside_then (model_of file c.args.import.now).standing c.in-Err.field-0 (c.in-Err.ensures file))
