-- The words' rule and family, or that they stand for nothing; a call that is not done leaves both.
use Rattle.std.proofs.Common.{inl, inr, ap}
use Rattle.calls.proofs.Staying.{buffer_stays, length_stays}
use Rattle.calls.proofs.print.print_words.Goals as goal

pub returns-in-Ok-clause-buffer_stays : goal.returns-in-Ok-clause-buffer_stays
returns-in-Ok-clause-buffer_stays c = buffer_stays _ c.print_into.result c.print_into.new.out c.print_into.new.length c.args.out.now c.args.length.now c.print_into.ensures

pub returns-in-Ok-clause-length_stays : goal.returns-in-Ok-clause-length_stays
returns-in-Ok-clause-length_stays c = length_stays _ c.print_into.result c.print_into.new.out c.print_into.new.length c.args.out.now c.args.length.now c.print_into.ensures

pub returns-in-Ok-clause-named : goal.returns-in-Ok-clause-named
returns-in-Ok-clause-named c = inr (c.in-Ok.named.rule, c.in-Ok.named.family, c.print_into.ensures)

pub returns-in-Err-clause-named : goal.returns-in-Err-clause-named
returns-in-Err-clause-named c = inl (c.in-Err.fault, ap (λ s. (s, c.args.out.now, c.args.length.now)) c.from.ensures)
