-- The rule and the family of the words, once for each side.
use Rattle.std.proofs.Common.{inr}
use Rattle.calls.proofs.matching.match_words.Goals as goal

pub returns-in-Ok-named_by-clause-named : goal.returns-in-Ok-named_by-clause-named
returns-in-Ok-named_by-clause-named c = inr (c.in-Ok.named.rule, c.in-Ok.named.family, c.in-Ok-named_by.resent.rule, c.in-Ok-named_by.resent.family, c.match_into.ensures)
