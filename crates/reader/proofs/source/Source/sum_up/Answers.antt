-- Plain lines count no fault and keep no text.
use Rattle.std.proofs.Common.{sym, ◌∙◌}
use Rattle.reader.specs.Models.{nodes_of}
use Rattle.reader.proofs.PlainLines.{plain_faults, plain_kept}
use Rattle.reader.proofs.source.Source.sum_up.Goals as goal

pub returns-then-plain-clause-count : goal.returns-then-plain-clause-count
returns-then-plain-clause-count g c =
    let s = c.args.self.now in
    sym (plain_faults (g.F.Family.means s.family.now) (nodes_of s) c.args.lines.now (c.requires.plain c.if-plain.true))

pub returns-then-plain-clause-items : goal.returns-then-plain-clause-items
returns-then-plain-clause-items g c =
    let s = c.args.self.now in
    c.requires.none ∙ sym (plain_kept (g.F.Family.means s.family.now) (nodes_of s) s.row.now c.args.lines.now (c.requires.plain c.if-plain.true))
