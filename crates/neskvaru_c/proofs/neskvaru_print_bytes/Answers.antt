-- The status whose number is told.
use Rattle.neskvaru_c.proofs.neskvaru_print_bytes.Goals as goal

pub returns-clause-named : goal.returns-clause-named
returns-clause-named c = (c.print_words.result, c.number.ensures, c.print_words.ensures.named)
