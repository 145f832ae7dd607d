-- The faults of the report are those of the defined one.
use Rattle.std.proofs.Common.{sym, ap, ◌∙◌, vec_items}
use Rattle.report.specs.Lines.{faults}
use Rattle.report.specs.Reports.{Report}
use Rattle.report.proofs.CleanRows.{clean_row}
use Rattle.reader.proofs.reader.Reader.read_framed.Goals as goal

pub returns-clause-clean : goal.returns-clause-clean
returns-clause-clean g c =
    let l = c.args.layout.now in
    let means = g.F.Family.means c.args.family.now in
    let row = c.args.row.now in
    let r = c.read_row.new.report in
    let is = r.counted ∙ ap (λ (d : Report). faults d.lines) c.in_ok-read_row.ensures.after.report in
    let clean = clean_row means (vec_items l.nodes) (vec_items l.constants) row in
    (λ none. clean.0 (sym is ∙ none), λ met. is ∙ clean.1 met)
