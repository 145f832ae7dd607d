-- The open nodes and the reach stay.
use Rattle.std.proofs.Common.{ap, vec_items}
use Rattle.reader.specs.declared.open.Told.TheVariants.{Clean}
use Rattle.reader.specs.Models.{stack_of}
use Rattle.reader.proofs.Stacks.{states}
use Rattle.reader.proofs.reader.Reader.leave_out.Goals as goal

pub returns-clause-after : goal.returns-clause-after
returns-clause-after c nodes constants =
    let st = c.undo.ensures.stays in
    states Clean (ap (λ v. stack_of nodes constants (vec_items v)) st.0) (c.undo.ensures.after nodes constants) c.undo.ensures.place st.2
