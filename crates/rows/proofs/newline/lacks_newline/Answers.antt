-- No byte is 0A exactly where none is found.
use Rattle.std.proofs.Common.{not, ap, ◌∙◌}
use Rattle.rows.proofs.NewlineSteps.{lacks_is}
use Rattle.rows.proofs.newline.lacks_newline.Goals as goal

pub returns : goal.returns
returns c = ap not c.contains.ensures.value ∙ lacks_is c.args.row.now
