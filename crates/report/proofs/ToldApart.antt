-- Reports are told apart exactly as their rows are, since each prints its row.
use Rattle.std.proofs.Common.{◌≡◌, ℕ, ◌↔◌, List, ℤ, sym, ap, ◌∙◌}
use Rattle.fields.specs.Laws.{Bytes, Lawful}
use Rattle.fields.specs.Meanings.{Meaning}
use Rattle.layout.specs.declared.node.Node.{Node}
use Rattle.report.specs.Reports.{report, print}
use Rattle.report.specs.Known.{Known}
use Rattle.report.proofs.PrintLaws.{prints_row}

pub same_rows : (means : ℕ → ℕ → Meaning) (nodes : List Node) (constants : List ℤ) (row other : List ℕ) → ((k p : ℕ) → Lawful (means k p)) → Known means nodes → Bytes row → Bytes other →
    (report means nodes constants row ≡ report means nodes constants other) ↔ (row ≡ other)
same_rows means nodes constants row other lawful known b d = (
  λ e. sym (prints_row means nodes constants row lawful known b) ∙ ap (print means nodes) e ∙ prints_row means nodes constants other lawful known d,
  λ e. ap (report means nodes constants) e,
)
