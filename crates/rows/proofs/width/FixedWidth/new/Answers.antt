-- The rows of a fixed width, in its own words.
use Rattle.std.proofs.Common.{arith}
use Rattle.rows.specs.WidthCuts.{fixed_words}
use Rattle.rows.proofs.width.FixedWidth.new.Goals as goal

pub returns-clause-words : goal.returns-clause-words
returns-clause-words c = fixed_words c.args.width (omega arith)
