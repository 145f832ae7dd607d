-- The status whose number is told.
use Rattle.neskvaru_c.proofs.neskvaru_match_bytes.Goals as goal

pub returns-clause-named : goal.returns-clause-named
returns-clause-named c = (c.match_words.result, c.number.ensures, c.match_words.ensures.named)
