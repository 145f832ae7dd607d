-- What the family's law says of this reading.
use Rattle.std.proofs.Common.{◌≡◌, rules}
use Rattle.fields.specs.Fairs.{owed}
use Rattle.fields.proofs.start.read_start.Goals as goal

pub returns-clause-owed : goal.returns-clause-owed
returns-clause-owed g c =
    let m = g.F.Family.means c.args.family.now c.args.kind.code c.args.kind.parameter in
    let bytes = c.args.bytes.now in
    let e : c.read.result ≡ m.reads bytes = search rules in
    owed m (g.met.F.Family.lawful _ _ _) bytes (λ i. (c.type_inv.bytes i).fits) c.read.result e
