-- What is written of a row that is not read.
use Rattle.std.proofs.Common.{sym}
use Rattle.cli.proofs.problems.UnreadRowDisplay.fmt.Goals as goal

pub returns-clause-writes : goal.returns-clause-writes
returns-clause-writes g c = rw (sym c.number-number.ensures) c.write.ensures.writes
