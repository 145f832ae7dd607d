-- The records of one row more are written, or those behind the last.
use Rattle.std.proofs.Common.{◌≡◌, Ok, Some, ap, sym, subst, ◌∙◌}
use Rattle.import.specs.States.{model_of}
use Rattle.import.specs.Models.{Model}
use Rattle.std.specs.Io.KnownBytes.{Appends}
use Rattle.passes.specs.Passes.{said_pass}
use Rattle.passes.specs.Walks.{walk, walked}
use Rattle.tracing.specs.Traces.{stage_text, counted_text, trace_from}
use Rattle.tracing.proofs.Rows.{one_row, no_row, still_ready}
use Rattle.tracing.proofs.Streams.{Owes, owes_rest, owes_last}
use Rattle.tracing.proofs.TraceLaws.{one_more, no_more}
use Rattle.tracing.proofs.trace.trace_rows.Goals as goal

pub returns-in-Ok-None-clause-written : goal.returns-in-Ok-None-clause-written
returns-in-Ok-None-clause-written g c =
    let file = c.args.file.now in
    let m = model_of file c.loop-why.import in
    let n = model_of file c.pass_next.new.import in
    let first = model_of file c.args.import.now in
    let w = subst (λ r. (said_pass r, n) ≡ walk m) (c.in-Ok-None.is ∙ ap Ok c.in-Ok-None.field-0-is) (c.pass_next.ensures.walks c.loop-why.invariant.ready) in
    let last = no_row m n w in
    let a = g.W.Write.contents c.args.out.now in
    let owed = subst (λ x. Owes a (g.W.Write.contents c.loop-why.out) x (trace_from first)) (no_more m n last.0 last.1) c.loop-why.invariant.owes in
    let tail = subst (λ x. Appends (g.W.Write.contents c.loop-why.out) (g.W.Write.contents c.write_tail.new.out) (stage_text x)) (c.stage.ensures file) c.in_ok-write_tail-in-Ok-None.ensures in
    owes_last _ _ _ _ _ (owes_rest _ _ _ _ _ _ owed tail)
    (subst (λ x. Appends (g.W.Write.contents c.write_tail.new.out) (g.W.Write.contents c.write_counts.new.out) (counted_text x)) (c.counts.ensures.step file) c.in_ok-write_counts-in-Ok-None.ensures)

pub returns-in-Ok-None-clause-behind : goal.returns-in-Ok-None-clause-behind
returns-in-Ok-None-clause-behind g c =
    let file = c.args.file.now in
    let m = model_of file c.loop-why.import in
    let n = model_of file c.pass_next.new.import in
    let w = subst (λ r. (said_pass r, n) ≡ walk m) (c.in-Ok-None.is ∙ ap Ok c.in-Ok-None.field-0-is) (c.pass_next.ensures.walks c.loop-why.invariant.ready) in
    let last = no_row m n w in
    last.1 ∙ ap (walked m) (sym last.0) ∙ c.loop-why.invariant.behind

pub loop-why-preserved : goal.loop-why-preserved
loop-why-preserved g c =
    let file = c.args.file.now in
    let m = model_of file c.loop-why.import in
    let n = model_of file c.pass_next.new.import in
    let first = model_of file c.args.import.now in
    let p = c.in-Ok-Some.row in
    let w = subst (λ r. (said_pass r, n) ≡ walk m) (c.in-Ok-Some.is ∙ ap Ok c.in-Ok-Some.field-0-is) (c.pass_next.ensures.walks c.loop-why.invariant.ready) in
    let one = one_row m n p w in
    let a = g.W.Write.contents c.args.out.now in
    let owed = subst (λ x. Owes a (g.W.Write.contents c.loop-why.out) x (trace_from first)) (one_more m n (said_pass (Ok (Some p))) one) c.loop-why.invariant.owes in
    record {
      ready = still_ready m n (said_pass (Ok (Some p))) one file c.loop-why.invariant.ready;
      owes = owes_rest _ _ _ _ _ _ owed c.in_ok-write_row-in-Ok-Some.ensures;
      behind = ap (λ (x : Model). walked x x.ahead.rows) one.left ∙ sym (ap (walked m) one.is) ∙ c.loop-why.invariant.behind;
    }
