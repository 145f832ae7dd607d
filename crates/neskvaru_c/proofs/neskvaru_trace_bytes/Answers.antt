-- The status whose number is told.
use Rattle.neskvaru_c.proofs.neskvaru_trace_bytes.Goals as goal

pub returns-clause-named : goal.returns-clause-named
returns-clause-named c = (c.trace_words.result, c.number.ensures, c.trace_words.ensures.named)
