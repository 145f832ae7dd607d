-- The row from a place up to the first 0A, or up to the file's end.
use Rattle.std.proofs.Common.{ℕ, List, ◌-◌, length, take, drop, eqb-true, eq-eqb, arith}
use Rattle.std.proofs.lemmas.List.{take_rest}
use Rattle.rows.specs.CutLaws.{slice_part, rest_part}
use Rattle.rows.proofs.NewlineSteps.{ended_ahead, unended_ahead}
use Rattle.rows.proofs.newline.row_at.Goals as goal

pub returns-in-Some : goal.returns-in-Some
returns-in-Some c =
    let file = c.args.file.now in
    let p = c.args.start in
    let n = c.in-Some.length in
    let bs : List ℕ = take (length file - p) (drop p file) in
    let is = take_rest file p in
    let e = c.in-Some.ensures in
    record {
      within = rw is (slice_part file p n (omega (arith, e.0.high)));
      hands = ended_ahead p file bs is n e.0.high (eqb-true _ 10 e.1) (λ k h z. e.0.before k (omega arith) h (eq-eqb _ 10 z));
    }

pub returns-in-None : goal.returns-in-None
returns-in-None c =
    let file = c.args.file.now in
    let p = c.args.start in
    let bs : List ℕ = take (length file - p) (drop p file) in
    let is = take_rest file p in
    let e = c.in-None.ensures in
    record {
      within = rw is (rest_part file p (omega arith));
      hands = unended_ahead p file bs is c.if-start-file.false (λ k h z. e k (omega arith) h (eq-eqb _ 10 z));
    }
