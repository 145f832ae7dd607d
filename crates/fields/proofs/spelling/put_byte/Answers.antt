-- One byte at its place.
use Rattle.fields.proofs.Writing.{set_over}
use Rattle.fields.proofs.spelling.put_byte.Goals as goal

pub returns : goal.returns
returns c = set_over c.args.out.now c.args.at c.args.b c.requires
