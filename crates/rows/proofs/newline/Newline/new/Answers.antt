-- The rows of the newline rule, in its own words.
use Rattle.rows.proofs.NewlineWords.{newline_words}
use Rattle.rows.proofs.newline.Newline.new.Goals as goal

pub returns-clause-words : goal.returns-clause-words
returns-clause-words c = newline_words
