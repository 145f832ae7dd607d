-- The report that the reader made stands.
use Rattle.std.proofs.Common.{◌+◌, refl, ap, ◌∙◌}
use Rattle.rows.specs.Cuts.{Bytes}
use Rattle.import.proofs.Reading.{stands_known, clean_read}
use Rattle.import.proofs.import.Import.read_row.Goals as goal

pub invariant_of-self-2 : goal.invariant_of-self-2
invariant_of-self-2 g c =
    let i = c.args.self.now in
    let row = c.args.row.now in
    let bytes : Bytes row = λ j. (c.type_inv.row j).fits in
    record {
      known = i.known;
      reported =
          stands_known (g.R.RowRule.means i.rule) (g.F.Family.means i.family) i.layout.nodes.items i.layout.constants.items row c.args.mark c.read_framed.new.report c.in_default.ensures.after
          (g.met.F.Family.lawful i.family) bytes i.known;
      small = i.small;
      few = i.few;
      fitting = refl;
      tally = i.tally ∙ ap (λ x. i.counts.kept + i.counts.set_aside + x) c.requires.open;
    }

pub returns-clause-meets : goal.returns-clause-meets
returns-clause-meets g c =
    let i = c.args.self.now in
    clean_read (g.R.RowRule.means i.rule) (g.F.Family.means i.family) i.layout.nodes.items i.layout.constants.items c.args.row.now c.args.mark c.read_framed.new.report c.in_default.ensures.after
