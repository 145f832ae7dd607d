-- The status whose number is told.
use Rattle.neskvaru_c.proofs.neskvaru_check_layout_bytes.Goals as goal

pub returns : goal.returns
returns c = (c.check_layout_words.result, c.number.ensures, c.check_layout_words.ensures)
