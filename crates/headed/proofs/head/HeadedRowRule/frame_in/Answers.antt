-- The row goes four places up, and the header before it.
use Rattle.std.proofs.Common.{◌≡◌, arith}
use Rattle.headed.specs.Heads.{header}
use Rattle.headed.proofs.HeadFrames.{row_behind}
use Rattle.headed.proofs.head.HeadedRowRule.frame_in.Goals as goal

pub returns : goal.returns
returns c =
    let l = c.fill.ensures.len in
    let filled : c.fill.new.self ≡ header = grind arith in
    row_behind c.args.length c.saturating_add-end.result c.args.buffer.now (omega arith) c.if-end-buffer.false c.rotate_right.new.self c.fill.new.self c.rotate_right.ensures.after filled
