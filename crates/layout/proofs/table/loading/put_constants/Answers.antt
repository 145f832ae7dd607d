-- The numbers are those of the bytes.
use Rattle.std.proofs.Common.{◌∙◌}
use Rattle.packed.specs.Constants.{constant_of}
use Rattle.packed.proofs.Loads.{loaded_exact}
use Rattle.layout.proofs.table.loading.put_constants.Goals as goal

pub returns-clause-items : goal.returns-clause-items
returns-clause-items c =
    c.refill.ensures.items ∙ c.load.ensures.after ∙ loaded_exact constant_of c.args.bytes.now c.args.numbers.now c.requires.fit
