-- The row of so many bytes at a place, where there are as many.
use Rattle.std.proofs.Common.{◌≡◌, ◌≤◌, ◌<◌, ◌-◌, length, take, drop, ap, ◌∙◌, arith}
use Rattle.std.proofs.Math.Nat.{sub-zero}
use Rattle.std.proofs.lemmas.List.{take_rest}
use Rattle.rows.specs.CutLaws.{slice_part}
use Rattle.rows.proofs.WidthSteps.{tail_at, row_at}
use Rattle.rows.proofs.width.FixedWidth.row_at.Goals as goal

pub returns-in_err-bytes : goal.returns-in_err-bytes
returns-in_err-bytes c =
    let s = c.args.self.now in
    let file = c.args.file.now in
    let inside : s.at ≤ length file = omega (arith, c.in_ok-get.ensures.lookup) in
    let short : length file - s.at < s.width = omega (arith, c.in_ok-get.ensures.lookup, c.in_err-bytes.ensures.lookup) in
    rw c.from_residual-in_err-bytes.ensures (tail_at s.width s.at file s.at (omega arith) short)

pub returns : goal.returns
returns c =
    let s = c.args.self.now in
    let file = c.args.file.now in
    let inside : s.at ≤ length file = omega (arith, c.in_ok-get.ensures.lookup) in
    let enough : s.width ≤ length file - s.at = omega (arith, c.in_ok-get.ensures.lookup, c.in_ok-bytes.ensures.lookup) in
    let is : c.in_ok-bytes.bytes.now ≡ take s.width (drop s.at file) =
    c.in_ok-bytes.ensures.lookup.0.2 ∙ ap (λ n. take n c.in_ok-get.field-0.now) (sub-zero s.width) ∙ ap (take s.width) (c.in_ok-get.ensures.lookup.0.2 ∙ take_rest file s.at) in
    rw is (record { within = slice_part file s.at s.width (omega arith); hands = row_at s.width s.at file s.at (omega arith) s.in_range.0 enough })
