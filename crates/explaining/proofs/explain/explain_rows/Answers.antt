-- What is said of one row more is written, and at the end what all rows come to.
use Rattle.std.proofs.Common.{◌≡◌, Ok, Some, None, sym, ap, subst, ◌∙◌}
use Rattle.import.specs.States.{model_of}
use Rattle.passes.specs.Passes.{Pass, said_pass}
use Rattle.import.specs.Models.{Model}
use Rattle.passes.specs.Walks.{walk, walked}
use Rattle.tracing.proofs.Rows.{one_row, no_row, still_ready}
use Rattle.tracing.proofs.Streams.{Owes, owes_rest, owes_last}
use Rattle.explaining.specs.Rest.{explanation_from}
use Rattle.explaining.proofs.Walks.{gone_text, goes}
use Rattle.explaining.proofs.explain.explain_rows.Goals as goal

pub loop-row-preserved : goal.loop-row-preserved
loop-row-preserved g c =
    let file = c.args.file.now in
    let family = c.args.family in
    let last = c.loop-row.last in
    let m = model_of file c.loop-row.import in
    let n = model_of file c.pass_next.new.import in
    let ready = c.loop-row.invariant.ready in
    let is : c.pass_next.result ≡ Ok (Some c.in-Some.row) = c.in_ok-row.was ∙ ap Ok c.in-Some.is in
    let went : (said_pass (Ok (Some c.in-Some.row)), n) ≡ walk m = ap (λ r. (said_pass r, n)) (sym is) ∙ c.pass_next.ensures.walks ready in
    let text = goes family file m last ready ∙ ap (λ (x : Pass). gone_text family file last x.0 x.1) (sym went) in
    let one = one_row m n c.in-Some.row went in
    let old = g.W.Write.contents c.args.out.now in
    let all = explanation_from family None (model_of file c.args.import.now) in
    record {
      ready = still_ready m n (said_pass (Ok (Some c.in-Some.row))) one file ready;
      owes = owes_rest _ _ _ _ _ _ (subst (λ x. Owes old (g.W.Write.contents c.loop-row.out) x all) text c.loop-row.invariant.owes) c.in_ok-write_row.ensures;
      behind = ap (λ (x : Model). walked x x.ahead.rows) one.left ∙ sym (ap (walked m) one.is) ∙ c.loop-row.invariant.behind;
    }

pub returns-clause-written : goal.returns-clause-written
returns-clause-written g c =
    let file = c.args.file.now in
    let family = c.args.family in
    let last = c.loop-row.last in
    let m = model_of file c.loop-row.import in
    let n = model_of file c.pass_next.new.import in
    let ready = c.loop-row.invariant.ready in
    let is : c.pass_next.result ≡ Ok None = c.in_ok-row.was ∙ ap Ok c.in_default.is in
    let went : (said_pass (Ok None), n) ≡ walk m = ap (λ r. (said_pass r, n)) (sym is) ∙ c.pass_next.ensures.walks ready in
    let text = goes family file m last ready ∙ ap (λ (x : Pass). gone_text family file last x.0 x.1) (sym went) in
    let old = g.W.Write.contents c.args.out.now in
    let all = explanation_from family None (model_of file c.args.import.now) in
    owes_last _ _ _ _ _ (subst (λ x. Owes old (g.W.Write.contents c.loop-row.out) x all) text c.loop-row.invariant.owes) c.in_ok-write_end.ensures

pub returns-clause-behind : goal.returns-clause-behind
returns-clause-behind g c =
    let file = c.args.file.now in
    let m = model_of file c.loop-row.import in
    let n = model_of file c.pass_next.new.import in
    let is : c.pass_next.result ≡ Ok None = c.in_ok-row.was ∙ ap Ok c.in_default.is in
    let last = no_row m n (ap (λ r. (said_pass r, n)) (sym is) ∙ c.pass_next.ensures.walks c.loop-row.invariant.ready) in
    last.1 ∙ ap (walked m) (sym last.0) ∙ c.loop-row.invariant.behind
