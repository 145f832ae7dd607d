-- The import has just taken the export: its rows and its tail are the export, and each report prints its row.
use Rattle.std.proofs.Common.{rules, ◌≡◌, ◌≤◌, length, ap, subst, ◌∙◌, arith}
use Rattle.std.specs.Prelude.{OnOk}
use Rattle.std.specs.Io.KnownBytes.{Appends}
use Rattle.rows.specs.Cuts.{File}
use Rattle.import.specs.States.{model_of}
use Rattle.tracing.specs.Prints.{bytes_ahead}
use Rattle.tracing.proofs.Taking.{Taken, new_taken, taken_ready, taken_printable}
use Rattle.tracing.proofs.print.print_file.Goals as goal

pub print_rows-requires-clause-ready : goal.print_rows-requires-clause-ready
print_rows-requires-clause-ready g c =
    let file = c.args.file.now in
    let m = model_of file c.args.import.now in
    let n = model_of file c.new.new.self in
    let rule = g.R.RowRule.means c.args.rule in
    let t : Taken m n 1 c.args.layout.now rule file = new_taken m n 1 c.args.layout.now rule file c.in_ok-new.ensures.step in
    let f : File file = record { bytes = λ i. (c.type_inv.file i).fits; fits = t.fits } in
    taken_ready m n 1 c.args.layout.now rule file (g.met.R.RowRule.lawful c.args.rule) f t

pub print_rows-requires-clause-printable : goal.print_rows-requires-clause-printable
print_rows-requires-clause-printable g c =
    let file = c.args.file.now in
    let m = model_of file c.args.import.now in
    let n = model_of file c.new.new.self in
    let rule = g.R.RowRule.means c.args.rule in
    let t : Taken m n 1 c.args.layout.now rule file = new_taken m n 1 c.args.layout.now rule file c.in_ok-new.ensures.step in
    let f : File file = record { bytes = λ i. (c.type_inv.file i).fits; fits = t.fits } in
    taken_printable m n 1 c.args.layout.now rule file (g.met.R.RowRule.lawful c.args.rule) (g.met.F.Family.lawful c.args.import.now.family) f t

pub print_rows-requires-clause-room : goal.print_rows-requires-clause-room
print_rows-requires-clause-room g c =
    let file = c.args.file.now in
    let m = model_of file c.args.import.now in
    let n = model_of file c.new.new.self in
    let rule = g.R.RowRule.means c.args.rule in
    let t : Taken m n 1 c.args.layout.now rule file = new_taken m n 1 c.args.layout.now rule file c.in_ok-new.ensures.step in
    let f : File file = record { bytes = λ i. (c.type_inv.file i).fits; fits = t.fits } in
    let whole : bytes_ahead n ≡ file = ap bytes_ahead t.left ∙ (g.met.R.RowRule.lawful c.args.rule).covers file f in
    let room : length file ≤ length c.deref_mut.result.now = search rules in
    omega (arith, room, ap length whole)

pub returns-clause-written : goal.returns-clause-written
returns-clause-written g c =
    let file = c.args.file.now in
    let m = model_of file c.args.import.now in
    let n = model_of file c.new.new.self in
    let rule = g.R.RowRule.means c.args.rule in
    let t : Taken m n 1 c.args.layout.now rule file = new_taken m n 1 c.args.layout.now rule file c.in_ok-new.ensures.step in
    let f : File file = record { bytes = λ i. (c.type_inv.file i).fits; fits = t.fits } in
    let whole : bytes_ahead n ≡ file = ap bytes_ahead t.left ∙ (g.met.R.RowRule.lawful c.args.rule).covers file f in
    subst (λ x. OnOk c.print_rows.result (Appends (g.W.Write.contents c.args.out.now) (g.W.Write.contents c.print_rows.new.out) x)) whole c.print_rows.ensures.written
