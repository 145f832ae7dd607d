-- The report that is looked at is the one that stands.
use Rattle.std.proofs.Common.{[], subst}
use Rattle.std.specs.Io.KnownBytes.{Appends}
use Rattle.store.specs.Stored.{report_of}
use Rattle.import.specs.States.{setting_of, standing}
use Rattle.tracing.proofs.Streams.{appends_none, if_ok}
use Rattle.explaining.specs.Reports.{report_text}
use Rattle.explaining.proofs.Standing.{told_report, told_none}
use Rattle.explaining.proofs.explain.write_standing.Goals as goal

pub returns-in-Ok : goal.returns-in-Ok
returns-in-Ok g c =
    let i = c.args.import.now in
    let s = setting_of i in
    let a = g.W.Write.contents c.args.out.now in
    let b = g.W.Write.contents c.write_report.new.out in
    let r = report_of c.in-Ok.report.now in
    let told = told_report c.args.family s c.args.row c.args.bytes.now (standing i.report i.standing) r (c.in-Ok.ensures []) in
    if_ok c.write_report.result
    (λ h. subst (Appends a b) told (subst (λ ns. Appends a b (report_text c.args.family ns s.constants c.args.bytes.now c.args.row r)) c.layout.ensures.nodes (subst (λ ks. Appends a b (report_text c.args.family c.layout.result.now.nodes.items ks c.args.bytes.now c.args.row r)) c.layout.ensures.constants h)))
    c.write_report.ensures

pub returns-in-Err : goal.returns-in-Err
returns-in-Err g c =
    let i = c.args.import.now in
    let a = g.W.Write.contents c.args.out.now in
    subst (Appends a a) (told_none c.args.family (setting_of i) c.args.row c.args.bytes.now (standing i.report i.standing) c.in-Err.field-0 (c.in-Err.ensures [])) (appends_none a)
