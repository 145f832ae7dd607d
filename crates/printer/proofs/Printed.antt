-- What is written of a report that reading has made is its row, and the frame of that.
use Rattle.std.proofs.Common.{◌≡◌, ℕ, ◌<◌, ◌≤◌, List, length, ℤ, Result, ap, ◌∙◌, subst, arith}
use Rattle.fields.specs.Laws.{Bytes}
use Rattle.fields.specs.Meanings.{Meaning}
use Rattle.layout.specs.declared.node.Node.{Node}
use Rattle.report.specs.Known.{Known}
use Rattle.report.specs.Promises.{PrintsBack}
use Rattle.report.specs.Reports.{print}
use Rattle.rows.specs.declared.piece.Mark.{Mark}
use Rattle.rows.specs.declared.refusal.Refusal.{Refusal}
use Rattle.store.specs.declared.memory.Report.{Report}
use Rattle.store.specs.Stored.{Framed}
use Rattle.printer.specs.Puts.{put}
use Rattle.printer.specs.Frames.{row_of, PutsLonger, PutsShorter}

module _ (frame : List ℕ → Mark → List ℕ) (means : ℕ → ℕ → Meaning) (nodes : List Node) (constants : List ℤ) (row : List ℕ) (mark : Mark) (report : Report) where
  prints_row : PrintsBack means → Known means nodes → Bytes row → Framed frame means nodes constants row mark report → row_of means nodes report ≡ row
  prints_row law known bytes framed = ap (print means nodes) framed.made.report ∙ law nodes constants row known bytes

  -- where the frame is as long as the row
  pub put_longer : (out : List ℕ) (answer : Result ℕ Refusal × List ℕ) → PrintsBack means → Known means nodes → Bytes row → Framed frame means nodes constants row mark report →
      report.row_length ≤ report.frame_length → report.frame_length ≤ length out → length out < 9223372036854775808 →
      PutsLonger (λ x. frame x mark) (row_of means nodes report) out answer → answer ≡ put (frame row mark) out
  put_longer out answer law known bytes framed longer room small both =
      let fits : length (frame row mark) ≤ length out = omega (arith, framed.frame_length) in
      let most : length row ≤ length (frame row mark) = omega (arith, framed.frame_length, framed.made.row_length) in
      let here = subst (λ x. PutsLonger (λ x. frame x mark) x out answer) (prints_row law known bytes framed) both in
      here most fits

  -- where it is shorter
  pub put_shorter : (out : List ℕ) (answer : Result ℕ Refusal × List ℕ) → PrintsBack means → Known means nodes → Bytes row → Framed frame means nodes constants row mark report →
      report.frame_length < report.row_length → report.frame_length ≤ length out → length out < 9223372036854775808 →
      PutsShorter (λ x. frame x mark) (row_of means nodes report) out answer → answer ≡ put (frame row mark) out
  put_shorter out answer law known bytes framed shorter room small both =
      let fits : length (frame row mark) ≤ length out = omega (arith, framed.frame_length) in
      let less : length (frame row mark) ≤ length row = omega (arith, framed.frame_length, framed.made.row_length) in
      let here = subst (λ x. PutsShorter (λ x. frame x mark) x out answer) (prints_row law known bytes framed) both in
      here (omega (arith, framed.made.row_length, report.few)) less fits
