-- The import has just taken the export, and all its rows are to come.
use Rattle.std.proofs.Common.{None, ap, subst, ◌∙◌}
use Rattle.std.specs.Prelude.{OnOk}
use Rattle.std.specs.Io.KnownBytes.{Appends}
use Rattle.rows.specs.Cuts.{File}
use Rattle.import.specs.States.{model_of}
use Rattle.import.specs.Models.{under}
use Rattle.tracing.proofs.Taking.{Taken, new_taken, taken_ready}
use Rattle.explaining.specs.Rest.{explanation_from}
use Rattle.explaining.proofs.Walks.{whole_explanation}
use Rattle.explaining.proofs.explain.write_explanation.Goals as goal

pub explain_rows-requires : goal.explain_rows-requires
explain_rows-requires g c =
    let file = c.args.file.now in
    let m = model_of file c.args.import.now in
    let n = model_of file c.new.new.self in
    let rule = g.R.RowRule.means c.args.rule in
    let t : Taken m n 1 c.args.layout.now rule file = new_taken m n 1 c.args.layout.now rule file c.in_ok-new.ensures.step in
    let f : File file = record { bytes = λ i. (c.type_inv.file i).fits; fits = t.fits } in
    record { ready = taken_ready m n 1 c.args.layout.now rule file (g.met.R.RowRule.lawful c.args.rule) f t }

pub returns-clause-written : goal.returns-clause-written
returns-clause-written g c =
    let file = c.args.file.now in
    let family = c.args.family in
    let m = model_of file c.args.import.now in
    let n = model_of file c.new.new.self in
    let rule = g.R.RowRule.means c.args.rule in
    let t : Taken m n 1 c.args.layout.now rule file = new_taken m n 1 c.args.layout.now rule file c.in_ok-new.ensures.step in
    let all = ap (explanation_from family None) t.left ∙ whole_explanation family (under rule m.setting.means c.args.layout.now) 1 file in
    subst (λ x. OnOk c.explain_rows.result (Appends (g.W.Write.contents c.args.out.now) (g.W.Write.contents c.explain_rows.new.out) x)) all c.explain_rows.ensures.written
