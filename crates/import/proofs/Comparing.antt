-- Comparing the reports that stand tells whether their rows hold the same bytes.
use Rattle.std.proofs.Common.{◌≡◌, ◌↔◌, ℕ, Bool, true, false, List, [], ◌∷◌, Some, None, Option, is_none, refl, sym, ap, ◌∙◌}
use Rattle.rows.specs.Rules as rules
use Rattle.rows.specs.declared.piece.Mark.{Mark}
use Rattle.fields.specs.Meanings as fields
use Rattle.fields.specs.Laws as families
use Rattle.report.specs.Reports as reports
use Rattle.store.specs.declared.memory.Report.{Report}
use Rattle.store.specs.Stored.{report_of}
use Rattle.import.specs.Models.{Model}
use Rattle.import.specs.Runs.{standing_report}
use Rattle.import.specs.States.{standing}
use Rattle.import.specs.Promises.{Compared}
use Rattle.import.proofs.TwoFiles.{reports_told_apart}

pub one_standing : (r : Report) (o : Option Mark) → is_none o ≡ false → standing_report (standing r o) ≡ report_of r ∷ []
one_standing r None e = absurd cc
one_standing r (Some mark) e = refl

single : {X : Type 0} (x y : X) → x ∷ [] ≡ y ∷ [] → x ≡ y
single x y e = cc

pub compared : (rule other : rules.Meaning) (means : ℕ → ℕ → fields.Meaning) → rules.Lawful rule → rules.Lawful other → ((k p : ℕ) → families.Lawful (means k p)) → (m n : List ℕ → Model) (x y : reports.Report) (same : Bool) →
    (same ≡ true) ↔ (x ≡ y) → ((file : List ℕ) → standing_report (m file).standing ≡ x ∷ []) → ((file : List ℕ) → standing_report (n file).standing ≡ y ∷ []) → Compared rule other means m n same
compared rule other means law other_law lawful m n x y same told mine theirs = λ layout a b i j cs ds o p ok fa fb here there ho hp.
    let apart = reports_told_apart rule other means law other_law lawful layout a b i j cs ds o p ok fa fb ho hp in
    let l = sym (ap (λ (k : Model). standing_report k.standing) here) ∙ mine a in
    let r = sym (ap (λ (k : Model). standing_report k.standing) there) ∙ theirs b in (
      λ e. apart.0 (l ∙ ap (λ z. z ∷ []) (told.0 e) ∙ sym r),
      λ e. told.1 (single x y (sym l ∙ apart.1 e ∙ r)),
    )
