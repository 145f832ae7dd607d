-- The report that is looked at is the one that stands.
use Rattle.std.proofs.Common.{[], subst}
use Rattle.std.specs.Prelude.{OnOk}
use Rattle.std.specs.Io.KnownBytes.{Appends}
use Rattle.store.specs.Stored.{report_of}
use Rattle.import.specs.States.{standing}
use Rattle.tracing.proofs.Streams.{appends_none}
use Rattle.tracing.proofs.Told.{told_report, told_none}
use Rattle.tracing.proofs.trace.write_standing.Goals as goal

pub returns-in-Ok : goal.returns-in-Ok
returns-in-Ok g c =
    let i = c.args.import.now in
    subst (λ t. OnOk c.write_report.result (Appends (g.W.Write.contents c.args.out.now) (g.W.Write.contents c.write_report.new.out) t)) (told_report (standing i.report i.standing) (report_of c.in-Ok.report.now) (c.in-Ok.ensures [])) c.write_report.ensures

pub returns-in-Err : goal.returns-in-Err
returns-in-Err g c =
    let i = c.args.import.now in
    let a = g.W.Write.contents c.args.out.now in
    subst (Appends a a) (told_none (standing i.report i.standing) c.in-Err.field-0 (c.in-Err.ensures [])) (appends_none a)
