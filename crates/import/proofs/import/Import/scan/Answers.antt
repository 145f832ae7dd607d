-- The row that was opened is read, and filed.
use Rattle.std.proofs.Common.{◌≡◌, Ok, Some, ap, subst, ◌∙◌}
use Rattle.import.specs.Answers.{said_place}
use Rattle.import.specs.Calls.{next}
use Rattle.import.specs.Slips.{slip}
use Rattle.import.specs.States.{model_of}
use Rattle.import.specs.Steps.{step}
use Rattle.import.proofs.ScanLaws.{scan_done, scan_refused, read_left, still_open}
use Rattle.import.proofs.import.Import.scan.Goals as goal

pub file_open-requires : goal.file_open-requires
file_open-requires g c =
    let file = c.args.file.now in
    let before = c.open_next.new.self in
    let m = model_of file c.args.self.now in
    let m1 = model_of file before in
    let s = slip before.number before.counts.opened in
    let e : (said_place s (Ok (Some c.in-Ok-Some.place)), m1) ≡ step file m next = subst (λ r. (said_place s r, m1) ≡ step file m next) (c.in-Ok-Some.is ∙ ap Ok c.in-Ok-Some.field-0-is) c.open_next.ensures.step in
    still_open file m c.requires s m1 c.in-Ok-Some.place (model_of file c.read-read.new.self) m1 e c.read-read.result (c.read-read.ensures.step file)

pub returns-in-Ok-clause-scanned : goal.returns-in-Ok-clause-scanned
returns-in-Ok-clause-scanned g c =
    let file = c.args.file.now in
    let before = c.open_next.new.self in
    let after = c.file_open.new.self in
    let m = model_of file c.args.self.now in
    let m1 = model_of file before in
    let s = slip before.number before.counts.opened in
    let e : (said_place s (Ok (Some c.in-Ok-Some.place)), m1) ≡ step file m next = subst (λ r. (said_place s r, m1) ≡ step file m next) (c.in-Ok-Some.is ∙ ap Ok c.in-Ok-Some.field-0-is) c.open_next.ensures.step in
    scan_done file m c.requires s m1 c.in-Ok-Some.place (model_of file c.read-read.new.self) (model_of file after) e c.in-Ok.field-0 (c.in-Ok.ensures.step file) (c.file_open.ensures file)

pub returns-in-Err-read-clause-scanned : goal.returns-in-Err-read-clause-scanned
returns-in-Err-read-clause-scanned g c =
    let file = c.args.file.now in
    let before = c.open_next.new.self in
    let m = model_of file c.args.self.now in
    let m1 = model_of file before in
    let s = slip before.number before.counts.opened in
    let e : (said_place s (Ok (Some c.in-Ok-Some.place)), m1) ≡ step file m next = subst (λ r. (said_place s r, m1) ≡ step file m next) (c.in-Ok-Some.is ∙ ap Ok c.in-Ok-Some.field-0-is) c.open_next.ensures.step in
    scan_refused file m c.requires s m1 c.in-Ok-Some.place (model_of file c.read-read.new.self) (model_of file c.file_open.new.self) e c.in-Err-read.why (c.in-Err-read.ensures.step file)

pub returns-in-Ok-clause-left : goal.returns-in-Ok-clause-left
returns-in-Ok-clause-left g c =
    let file = c.args.file.now in
    let before = c.open_next.new.self in
    let m = model_of file c.args.self.now in
    let m1 = model_of file before in
    let s = slip before.number before.counts.opened in
    let e : (said_place s (Ok (Some c.in-Ok-Some.place)), m1) ≡ step file m next = subst (λ r. (said_place s r, m1) ≡ step file m next) (c.in-Ok-Some.is ∙ ap Ok c.in-Ok-Some.field-0-is) c.open_next.ensures.step in
    read_left file m c.requires s m1 c.in-Ok-Some.place (model_of file c.read-read.new.self) (model_of file c.file_open.new.self) e c.read-read.result (c.read-read.ensures.step file) (c.file_open.ensures file)

pub returns-in-Err-read-clause-left : goal.returns-in-Err-read-clause-left
returns-in-Err-read-clause-left g c =
    let file = c.args.file.now in
    let before = c.open_next.new.self in
    let m = model_of file c.args.self.now in
    let m1 = model_of file before in
    let s = slip before.number before.counts.opened in
    let e : (said_place s (Ok (Some c.in-Ok-Some.place)), m1) ≡ step file m next = subst (λ r. (said_place s r, m1) ≡ step file m next) (c.in-Ok-Some.is ∙ ap Ok c.in-Ok-Some.field-0-is) c.open_next.ensures.step in
    read_left file m c.requires s m1 c.in-Ok-Some.place (model_of file c.read-read.new.self) (model_of file c.file_open.new.self) e c.read-read.result (c.read-read.ensures.step file) (c.file_open.ensures file)
