-- The first place behind the place is that of the bytes left.
use Rattle.std.proofs.Common.{List, ℕ, ◌-◌, length, take, drop, sym, ap, ◌∙◌, arith}
use Rattle.std.proofs.lemmas.List.{take_rest}
use Rattle.report.specs.Leaves.{first_in}
use Rattle.reader.proofs.Scans.{first_none, first_some}
use Rattle.reader.proofs.source.Source.find.Goals as goal

pub returns-in_err-at-clause-value : goal.returns-in_err-at-clause-value
returns-in_err-at-clause-value g c =
    let row = c.args.self.now.row.now in
    let p = c.args.place in
    let b = c.args.byte in
    let bs : List ℕ = take (length row - p) (drop p row) in
    let is = take_rest row p in
    c.from_residual.ensures ∙ sym (ap (λ xs. first_in b xs p) (sym is) ∙ first_none b bs p (λ k h. c.in_err-at.ensures k (omega arith) h))

pub returns-clause-value : goal.returns-clause-value
returns-clause-value g c =
    let row = c.args.self.now.row.now in
    let p = c.args.place in
    let b = c.args.byte in
    let bs : List ℕ = take (length row - p) (drop p row) in
    let is = take_rest row p in
    let e = c.in_ok-at.ensures in
    sym (ap (λ xs. first_in b xs p) (sym is) ∙ first_some b bs p c.in_ok-at.at e.0.high e.1 (λ k h. e.0.before k (omega arith) h))
