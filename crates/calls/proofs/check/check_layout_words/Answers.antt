-- The family of the words.
use Rattle.std.proofs.Common.{inl}
use Rattle.calls.proofs.check.check_layout_words.Goals as goal

pub returns-in-Some : goal.returns-in-Some
returns-in-Some c = inl (c.in-Some.family, c.check_layout.ensures)
