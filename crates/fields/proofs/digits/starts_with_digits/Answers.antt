-- So many digits stand there if the first so many bytes are all digits.
use Rattle.fields.proofs.Firsts.{too_few, first_digits}
use Rattle.fields.proofs.digits.starts_with_digits.Goals as goal

pub returns-then-bytes-count : goal.returns-then-bytes-count
returns-then-bytes-count c = too_few c.args.count c.args.bytes.now c.if-bytes-count.true

pub returns : goal.returns
returns c = first_digits c.args.count c.args.bytes.now c.run.result c.if-bytes-count.false c.run.ensures
