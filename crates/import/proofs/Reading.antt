-- A report that a read has made: it is that of the row that it prints, and has no fault exactly when the row meets the layout.
use Rattle.std.proofs.Common.{◌≡◌, ◌↔◌, ℕ, true, List, ℤ, sym, ap, subst, ◌∙◌}
use Rattle.std.proofs.Math.Logic.{∥∥₁_map}
use Rattle.rows.specs.Cuts.{Bytes}
use Rattle.rows.specs.Rules as rules
use Rattle.rows.specs.declared.piece.Mark.{Mark}
use Rattle.fields.specs.Meanings as fields
use Rattle.fields.specs.Laws as families
use Rattle.layout.specs.declared.node.Node.{Node}
use Rattle.report.specs.Known.{Known}
use Rattle.report.specs.Meets.{meets}
use Rattle.report.specs.Reports.{print, fault_count}
use Rattle.report.proofs.PrintLaws.{prints_row}
use Rattle.report.proofs.CleanRows.{clean_row}
use Rattle.store.specs.declared.memory.Report.{Report}
use Rattle.store.specs.Stored.{report_of, Framed}
use Rattle.import.specs.Reported.{StandsFor}

module _ (rule : rules.Meaning) (means : ℕ → ℕ → fields.Meaning) (nodes : List Node) (constants : List ℤ) (row : List ℕ) (mark : Mark) (r : Report) (made : Framed rule.frame means nodes constants row mark r) where
  stands_for : ((k p : ℕ) → families.Lawful (means k p)) → Bytes row → Known means nodes → StandsFor rule means nodes constants mark r
  stands_for lawful b known =
      let e : print means nodes (report_of r) ≡ row = ap (print means nodes) made.made.report ∙ prints_row means nodes constants row lawful known b in
      record { bytes = subst Bytes (sym e) b; framed = subst (λ x. Framed rule.frame means nodes constants x mark r) (sym e) made }

  pub stands_known : ((k p : ℕ) → families.Lawful (means k p)) → Bytes row → ∥ Known means nodes ∥₁ → ∥ StandsFor rule means nodes constants mark r ∥₁
  stands_known lawful b known = ∥∥₁_map known (stands_for lawful b)

  pub clean_read : (fault_count (report_of r) ≡ 0) ↔ (meets means nodes constants row ≡ true)
  clean_read =
      let e = clean_row means nodes constants row in (
        λ z. e.0 (ap fault_count (sym made.made.report) ∙ z),
        λ m. ap fault_count made.made.report ∙ e.1 m,
      )
