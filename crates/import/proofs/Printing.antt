-- The frame that the printer puts into a buffer is the one that a print of the import writes.
use Rattle.std.proofs.Common.{◌≡◌, ℕ, Bool, true, false, List, [], ◌∷◌, length, Option, Ok, Err, Result, nat_lt, if◌then◌else◌, refl, ap, ◌∙◌}
use Rattle.std.proofs.Props.{props}
use Rattle.std.proofs.Math.Logic.{∥∥₁_elim}
use Rattle.std.proofs.lemmas.Bool.{ltb-true, ltb-false, le-leb, lt-leb}
use Rattle.rows.specs.declared.piece.Mark.{Mark}
use Rattle.rows.specs.declared.refusal.Refusal as rows
use Rattle.fields.specs.Laws as families
use Rattle.report.specs.Known.{Known}
use Rattle.report.proofs.PrintLaws.{prints_row}
use Rattle.report.specs.Reports.{print}
use Rattle.store.specs.declared.memory.Report.{Report}
use Rattle.store.specs.Stored as stored
use Rattle.printer.specs.Puts as printer
use Rattle.printer.specs.Frames.{PutsFrame}
use Rattle.import.specs.declared.refusal.Refusal.{Refusal}
use Rattle.import.specs.declared.refusal.Refusal.TheVariants.{BufferTooShort}
use Rattle.import.specs.Answers.{written}
use Rattle.import.specs.Calls.{wrote}
use Rattle.import.specs.Models.{Setting, Standing, Model}
use Rattle.import.specs.Reported.{StandsFor}
use Rattle.import.specs.Steps.{unless, tried, no_room, report_of, frame_of, step_print}
use Rattle.import.specs.Prints.{PrintsRow}
use Rattle.import.proofs.WholeRuns.{tried_says}

-- the same answer, with the import's refusal
abbrev pub as_ours : Result ℕ rows.Refusal → Result ℕ Refusal
as_ours (Ok n) = Ok n
as_ours (Err e) = Err BufferTooShort

abbrev Both : Type 0
Both = Result ℕ Refusal × List ℕ

abbrev pub ours : Result ℕ rows.Refusal × List ℕ → Both
ours p = (as_ours p.0, p.1)

put_written : (bytes buffer : List ℕ) (m : Model) (b : Bool) → nat_lt (length buffer) (length bytes) ≡ b → ours (printer.put bytes buffer) ≡ written (unless b BufferTooShort m (wrote bytes, m)).0 buffer
put_written bytes buffer m true e = ap (λ t. ours (if t then printer.filled bytes buffer else printer.refused buffer)) (lt-leb (length bytes) (length buffer) (ltb-true (length buffer) (length bytes) e))
put_written bytes buffer m false e = ap (λ t. ours (if t then printer.filled bytes buffer else printer.refused buffer)) (le-leb (length bytes) (length buffer) (ltb-false (length buffer) (length bytes) e))

-- what the printer answers and leaves
pub print_written : (s : Setting) (mark : Mark) (r : Report) (buffer : List ℕ) (out : Result ℕ rows.Refusal × List ℕ) (m : Model) →
    ∥ Known s.means s.nodes ∥₁ → ∥ StandsFor s.rule s.means s.nodes s.constants mark r ∥₁ → PutsFrame s.rule.frame s.means s.nodes mark r buffer out →
    ours out ≡ written (tried (no_room (length buffer) (frame_of s (record { report = stored.report_of r; mark = mark })) ∷ []) m (wrote (frame_of s (record { report = stored.report_of r; mark = mark })), m)).0 buffer
print_written s mark r buffer out m known stands puts =
    let bytes = frame_of s (record { report = stored.report_of r; mark = mark }) in
    ∥∥₁_elim known (hlevel props) (λ k. ∥∥₁_elim stands (hlevel props) (λ h.
    ap ours (puts s.constants (print s.means s.nodes (stored.report_of r)) k h.bytes h.framed) ∙ put_written bytes buffer m (nat_lt (length buffer) (length bytes)) refl))

-- the report of a row prints that row, so the frame is the row's
pub prints_its_row : (s : Setting) (m : Model) (o : Option Standing) (result : Result ℕ Refusal) (old new : List ℕ) → ∥ Known s.means s.nodes ∥₁ → ((k p : ℕ) → families.Lawful (s.means k p)) → m.setting ≡ s →
    (result, new) ≡ written (step_print (length old) m o).0 old → PrintsRow s o result old new
prints_its_row s m o result old new known lawful same e row mark bytes stands =
    let r : Standing = record { report = report_of s row; mark = mark } in
    ∥∥₁_elim known (hlevel props) (λ k.
    let frame : frame_of s r ≡ s.rule.frame row mark = ap (λ x. s.rule.frame x mark) (prints_row s.means s.nodes s.constants row lawful k bytes) in
    e ∙ ap (λ x. written (step_print (length old) m x).0 old) stands ∙ ap (λ (t : Setting). written (tried (no_room (length old) (frame_of t r) ∷ []) m (wrote (frame_of t r), m)).0 old) same
    ∙ ap (λ x. written (tried (no_room (length old) x ∷ []) m (wrote x, m)).0 old) frame
    ∙ ap (λ a. written a old) (tried_says (no_room (length old) (s.rule.frame row mark) ∷ []) m (wrote (s.rule.frame row mark), m)))
