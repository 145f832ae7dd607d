-- Under a layout file that is accepted every kind is known, so that what holds of reports asks for nothing else.
use Rattle.std.proofs.Common.{◌≡◌, ℕ, Bool, true, false, List, Some, None, Option, sym}
use Rattle.std.proofs.lemmas.Option.{none-some}
use Rattle.fields.specs.Laws.{Lawful}
use Rattle.fields.specs.Meanings.{Meaning}
use Rattle.layout.specs.declared.refusal.Refusal.{Refusal}
use Rattle.layout.specs.declared.refusal.Refusal.TheVariants.{Size}
use Rattle.layout.specs.Refusals.{or_else}
use Rattle.layout.specs.Shapes.{sorts}
use Rattle.layout.specs.Judged.{limits, judged}
use Rattle.layout.specs.Files.{wrong_size, constant_count, records_in, nodes_in, constants_in, refusal}
use Rattle.layout.proofs.Accepted.{passed}
use Rattle.layout.proofs.LoadLaws.{all_known}
use Rattle.report.specs.Known.{Known}
use Rattle.report.specs.Promises.{UnderFile}
use Rattle.report.proofs.PrintLaws.{prints_row}
use Rattle.report.proofs.CleanRows.{clean_row}
use Rattle.report.proofs.ToldApart.{same_rows}

later_none : (b : Bool) (e : Refusal) (o : Option Refusal) → or_else b e o ≡ None → o ≡ None
later_none true e o h = absurd (none-some e (sym h))
later_none false e o h = h

pub accepted_known : (means : ℕ → ℕ → Meaning) (file : List ℕ) → refusal (sorts means) file ≡ None → Known means (nodes_in file)
accepted_known means file h =
    let rs = records_in file in
    let k = constant_count file in
    all_known (sorts means) rs (passed limits (sorts means) k rs (later_none (wrong_size 200 64 file) Size (judged limits (sorts means) k rs) h)).0.known

pub under_file : (means : ℕ → ℕ → Meaning) (file : List ℕ) → ((k p : ℕ) → Lawful (means k p)) → refusal (sorts means) file ≡ None → UnderFile means file
under_file means file lawful h =
    let nodes = nodes_in file in
    let constants = constants_in file in
    let known = accepted_known means file h in
    record {
      prints_back = λ row b. prints_row means nodes constants row lawful known b;
      clean_when_met = λ row. clean_row means nodes constants row;
      told_apart = λ row other b d. same_rows means nodes constants row other lawful known b d;
    }
