-- The rows of a sample, in its own words.
use Rattle.rows.specs.SampleCuts.{sample_words}
use Rattle.rows.proofs.sample.Sample.new.Goals as goal

pub returns-clause-words : goal.returns-clause-words
returns-clause-words g c = sample_words (g.R.RowRule.means c.args.below) (g.met.R.RowRule.lawful c.args.below) c.args.limit
