-- The row that a sample hands on, and what is then to come.
use Rattle.std.proofs.Common.{◌≡◌, ◌+◌, ◌-◌, ◌<◌, min, length, ap, ◌∙◌, arith}
use Rattle.rows.specs.Cuts.{Cut, RowAt}
use Rattle.rows.specs.Frames.{measured}
use Rattle.rows.specs.Rules.{Meaning}
use Rattle.rows.specs.Told.{told, behind}
use Rattle.rows.specs.Samples.{sample_from}
use Rattle.rows.proofs.SampleSteps.{row_ahead, same_tail}
use Rattle.rows.specs.CutLaws.{row_told, row_gone, row_there, was_row}
use Rattle.rows.proofs.sample.Sample.row_below.Goals as goal

pub returns-clause-hands : goal.returns-clause-hands
returns-clause-hands g c =
    let s = c.args.self.now in
    let t = c.count.new.self in
    let f = c.args.file.now in
    let m : Meaning = g.R.RowRule.means s.below in
    let below : Cut = g.R.RowRule.ahead s.below f in
    let r : RowAt = record { start = c.in-Row.start; bytes = c.in-Row.bytes.now; mark = c.in-Row.mark } in
    let was = c.in-Row.ensures in
    let kept : g.R.RowRule.means t.below ≡ m = ap g.R.RowRule.means c.count.ensures.same.1 ∙ was.kept in
    let left : g.R.RowRule.ahead t.below f ≡ behind below = ap (λ b. g.R.RowRule.ahead b f) c.count.ensures.same.1 ∙ was.leaves in
    let first = was_row below.rows below.tail r was.tells in
    let is = row_ahead m.frame s.left s.end f below c.if-self-eq0.false r first in
    let small : length f < 18446744073709551616 = omega arith in
    let end : t.end ≡ min (s.end + measured (length (m.frame r.bytes r.mark))) 18446744073709551615 =
    c.count.ensures.end ∙ ap (λ k. min (s.end + k) 18446744073709551615) (c.frame_length-frame.ensures ∙ ap (λ (x : Meaning). measured (length (x.frame r.bytes r.mark))) was.kept) in
    let after : Cut = sample_from m.frame (s.left - 1) t.end f (behind below) in
    record {
      tells = ap told c.in-Row.is ∙ row_told (sample_from m.frame s.left s.end f below) r _ is;
      part = c.next-piece.ensures.part;
      leaves = ap (λ (x : Meaning). sample_from x.frame t.left t.end f (g.R.RowRule.ahead t.below f)) kept
          ∙ ap (λ n. sample_from m.frame n t.end f (g.R.RowRule.ahead t.below f)) c.count.ensures.left
          ∙ ap (λ x. sample_from m.frame (s.left - 1) t.end f x) left
          ∙ ap (λ q. record { rows = after.rows; tail = q }) (same_tail m.frame s.left s.end f below c.if-self-eq0.false r first t.end small end)
          ∙ row_gone (sample_from m.frame s.left s.end f below) r _ is;
      stays = λ z _. absurd (row_there (sample_from m.frame s.left s.end f below) r _ is z);
    }
