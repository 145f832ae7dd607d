-- A field lies within the row.
use Rattle.std.proofs.Common.{drop, sym, subst, ◌<◌, ◌+◌, ◌∙◌, arith, length-drop, get_or-drop}
use Rattle.reader.proofs.source.Source.read_field.Goals as goal

pub returns-clause-within : goal.returns-clause-within
returns-clause-within g c x e =
    let row = c.args.self.now.row.now in
    let p = c.args.place in
    let n = (g.met.F.Family.lawful c.args.self.now.family.now c.args.kind.code c.args.kind.parameter).within (drop p row) x.0 x.1
    (λ j. subst (λ b. b < 256) (sym (get_or-drop p row j 0)) (c.requires.bytes (p + j))) (sym c.read.ensures.answer ∙ e) in
    omega (arith, n, length-drop p row, c.requires.within)
