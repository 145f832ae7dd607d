-- The lines behind the node's own.
use Rattle.std.proofs.Common.{◌+◌, drop, pos, ap, ◌∙◌, vec_items}
use Rattle.std.proofs.lemmas.List.{take_rest}
use Rattle.report.specs.Lines.{faults, overall}
use Rattle.reader.specs.Models.{pending_of}
use Rattle.reader.specs.Turns.{completed}
use Rattle.reader.proofs.reader.Reader.shut.Goals as goal

pub returns-clause-after : goal.returns-clause-after
returns-clause-after c nodes constants =
    let is =
    c.outcome_above-outcome.ensures
    ∙ ap (λ ls. overall (faults ls)) (take_rest c.deref.result.now (c.args.f.at + 1))
    ∙ ap (λ ls. overall (faults (drop (c.args.f.at + 1) ls))) c.deref.ensures.value in
    c.complete.ensures.after nodes constants
    ∙ ap (λ o. completed (pending_of nodes constants c.args.f) (vec_items c.args.lines.now) c.args.self.now.place o (pos 0)) is
