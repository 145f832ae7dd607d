-- The text of one line more, for which there is room.
use Rattle.std.proofs.Common.{◌+◌, ◌++◌, length, take, sym, ap, ◌∙◌, arith, length-append}
use Rattle.report.specs.Printing.{kept}
use Rattle.report.proofs.KeptLaws.{kept_more, kept_first}
use Rattle.reader.specs.Models.{nodes_of}
use Rattle.reader.proofs.source.Source.keep_text.Goals as goal

pub add-requires : goal.add-requires
add-requires g c =
    let s = c.args.self.now in
    let means = g.F.Family.means s.family.now in
    let more = kept_more means (nodes_of s) s.row.now c.args.lines.now c.loop-line.line-index _ c.loop-line-test.true in
    let fits = kept_first means (nodes_of s) s.row.now c.args.lines.now (c.loop-line.line-index + 1) in
    let so-far = c.loop-line.invariant.0 in
    let part = c.kept_bytes.ensures in
    let long = length-append (kept means (nodes_of s) s.row.now (take c.loop-line.line-index c.args.lines.now)) c.kept_bytes.result.now in
    let is = more ∙ ap (λ t. kept means (nodes_of s) s.row.now (take c.loop-line.line-index c.args.lines.now) ++ t) (sym part) in
    omega (arith, c.loop-line.text.ok.0, ap length so-far, ap length is, long, fits, c.requires.room, c.loop-line.invariant.1)

pub loop-line-preserved : goal.loop-line-preserved
loop-line-preserved g c =
    let s = c.args.self.now in
    let means = g.F.Family.means s.family.now in
    let more = kept_more means (nodes_of s) s.row.now c.args.lines.now c.loop-line.line-index _ c.loop-line-test.true in
    let so-far = c.loop-line.invariant.0 in
    let part = c.kept_bytes.ensures in
    let is = more ∙ ap (λ t. kept means (nodes_of s) s.row.now (take c.loop-line.line-index c.args.lines.now) ++ t) (sym part) in (
      c.add.ensures.items ∙ ap (λ t. t ++ c.kept_bytes.result.now) so-far ∙ sym is,
      omega (arith, c.add.ensures.capacity, c.loop-line.invariant.1),
    )
