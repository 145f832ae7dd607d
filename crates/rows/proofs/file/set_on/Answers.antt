-- What every rule owes of a file that is not too long.
use Rattle.std.proofs.Common.{◌≤◌, length, arith}
use Rattle.rows.specs.Cuts.{File}
use Rattle.rows.specs.Rules.{Meaning, Lawful}
use Rattle.rows.specs.CutLaws.{rows_few}
use Rattle.rows.proofs.file.set_on.Goals as goal

pub returns-clause-laws : goal.returns-clause-laws
returns-clause-laws g c =
    let file = c.args.file.now in
    let m : Meaning = g.R.RowRule.means c.args.rule.now in
    let law : Lawful m = g.met.R.RowRule.lawful c.args.rule.now in
    let fits : length file ≤ 16777216 = omega arith in
    let f : File file = record { bytes = λ i. (c.type_inv.file i).fits; fits = fits } in
    record { parts = law.parts file f; no_empty = law.no_empty file f; few = rows_few m law file f; whole = law.covers file f; exchange = law.exchange file f }
