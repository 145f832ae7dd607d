-- The text is no longer than the row.
use Rattle.std.proofs.Common.{length, vec_items, sym, ap, ◌∙◌, arith}
use Rattle.std.proofs.lemmas.Bool.{ltb-false}
use Rattle.report.specs.Lines.{faults}
use Rattle.report.specs.Printing.{kept}
use Rattle.report.proofs.KeptLaws.{kept_short}
use Rattle.reader.proofs.reader.Reader.read_row.Goals as goal

pub sum_up-report-requires-clause-room : goal.sum_up-report-requires-clause-room
sum_up-report-requires-clause-room g c =
    let l = c.args.layout.now in
    let means = g.F.Family.means c.args.family.now in
    let row = c.args.row.now in
    let short = kept_short means (vec_items l.nodes) (vec_items l.constants) row (g.met.F.Family.lawful c.args.family.now) (λ i. (c.type_inv.row i).fits) in
    let is = ap (λ ls. length (kept means (vec_items l.nodes) row ls)) (c.deref.ensures.value ∙ c.in_ok-plain.ensures.cases.0) in
    omega (arith, short, is, ltb-false 4096 (length row) (sym c.is_too_long.ensures ∙ c.if-is_too_long.false), c.clear.new.self.room.1)

pub invariant_of-report-2 : goal.invariant_of-report-2
invariant_of-report-2 g c =
    let l = c.args.layout.now in
    let means = g.F.Family.means c.args.family.now in
    let row = c.args.row.now in
    let short = kept_short means (vec_items l.nodes) (vec_items l.constants) row (g.met.F.Family.lawful c.args.family.now) (λ i. (c.type_inv.row i).fits) in
    let is = ap (λ ls. length (kept means (vec_items l.nodes) row ls)) (c.deref.ensures.value ∙ c.in_ok-plain.ensures.cases.0) in
    let lines = c.read_lines.new.lines in
    let text = c.sum_up-report.new.text in
    record {
      room = (omega (arith, c.read_lines.ensures.capacity, c.clear.new.self.room.0), omega (arith, c.sum_up-report.ensures.capacity, c.clear.new.self.room.1));
      few = (
        omega (arith, lines.ok.0, c.in_ok-plain.ensures.cases.2),
        omega (arith, text.ok.0, ap length c.sum_up-report.ensures.items, short, is, ltb-false 4096 (length row) (sym c.is_too_long.ensures ∙ c.if-is_too_long.false)),
        omega (arith, ltb-false 4096 (length row) (sym c.is_too_long.ensures ∙ c.if-is_too_long.false)),
      );
      counted = c.sum_up-report.ensures.count ∙ ap faults c.deref.ensures.value;
    }
