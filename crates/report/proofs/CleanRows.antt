-- A report counts no fault exactly where its row meets the layout.
use Rattle.std.proofs.Common.{◌≡◌, ℕ, ◌+◌, ◌-◌, Bool, true, false, cond, ltb, ◌↔◌, List, [], ◌∷◌, ◌++◌, length, drop, ℤ, pos, sym, refl, ap, ◌∙◌, subst, arith, drop-cons}
use Rattle.std.proofs.lemmas.List.{drop_all}
use Rattle.std.proofs.lemmas.Bool.{ltb-true, ltb-false, false≢true}
use Rattle.fields.specs.Meanings.{Meaning}
use Rattle.layout.specs.declared.node.Node.{Node}
use Rattle.layout.specs.Trees.{tree_of}
use Rattle.report.specs.declared.outcome.Outcome.TheVariants.{SyntaxFault, Scrap}
use Rattle.report.specs.declared.line.Line.{Line}
use Rattle.report.specs.Lines.{line, faults}
use Rattle.report.specs.Trials.{Trial, clean, given_up, trial}
use Rattle.report.specs.Recovery.{OpenReading}
use Rattle.report.specs.Readings.{open_reading}
use Rattle.report.specs.Reports.{row_lines, row_read, report, fault_count}
use Rattle.report.specs.Meets.{none, nothing_left, meets}
use Rattle.report.specs.Standing.{left_by}
use Rattle.report.proofs.Agree.{faults_append, Agrees, agrees}
use Rattle.report.proofs.Tables.{tree_fits}
use Rattle.report.proofs.MeetLaws.{trial_meets}

-- behind a clean root: bytes left are a fault
end_clean : (row : List ℕ) (ls : List Line) (q : ℕ) → faults ls ≡ 0 → (b : Bool) → ltb q (length row) ≡ b →
    (faults (ls ++ (cond b (line 0 SyntaxFault q 0 (pos 6) ∷ []) [] ++ cond b (line 0 Scrap q (length row - q) (pos 0) ∷ []) [])) ≡ 0) ↔ (none (drop q row) ≡ true)
end_clean row ls q c true e = (
  λ f. absurd (omega (arith, faults_append ls (line 0 SyntaxFault q 0 (pos 6) ∷ line 0 Scrap q (length row - q) (pos 0) ∷ []))),
  λ f. absurd (false≢true (ap none (sym (drop-cons row q 0 (ltb-true q (length row) e))) ∙ f)),
)
end_clean row ls q c false e = (λ f. ap none (drop_all q row (ltb-false q (length row) e)), λ f. faults_append ls [] ∙ ap (λ n. n + 0) c)

row_clean : (nodes : List Node) (row : List ℕ) (t : Trial) (d : OpenReading) → Agrees t d → (faults (row_read row d).lines ≡ 0) ↔ (nothing_left (left_by nodes row [] t) ≡ true)
row_clean nodes row (given_up r) d h =
    (λ f. absurd (omega (arith, faults_append d.lines (row_lines d.broke d.place (length row)))), λ f. absurd (false≢true f))
row_clean nodes row (clean ls q r) d h =
    subst (λ x. (faults (row_read row x).lines ≡ 0) ↔ (none (drop q row) ≡ true)) (sym h.0)
    (end_clean row ls q h.1 (ltb q (length row)) refl)

pub clean_row : (means : ℕ → ℕ → Meaning) (nodes : List Node) (constants : List ℤ) (row : List ℕ) →
    (fault_count (report means nodes constants row) ≡ 0) ↔ (meets means nodes constants row ≡ true)
clean_row means nodes constants row =
    subst (λ o. (fault_count (report means nodes constants row) ≡ 0) ↔ (nothing_left o ≡ true))
    (trial_meets means nodes constants row (tree_of nodes constants) [] 0 (tree_fits nodes constants))
    (row_clean nodes row (trial means nodes row (tree_of nodes constants) [] 0) (open_reading means nodes row (tree_of nodes constants) [] 0) (agrees means nodes row (tree_of nodes constants) [] 0))
