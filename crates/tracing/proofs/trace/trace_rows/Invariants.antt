-- The trace from the next row on is still to be written.
use Rattle.std.proofs.Common.{◌≡◌, length}
use Rattle.import.specs.Scans.{Ready}
use Rattle.import.specs.States.{model_of}
use Rattle.passes.specs.Walks.{walked}
use Rattle.tracing.specs.Traces.{trace_from}
use Rattle.tracing.proofs.Streams.{Owes}
use Rattle.tracing.proofs.trace.trace_rows.Given as goal

abbrev pub invariant-loop-why : goal.invariant-loop-why
invariant-loop-why g l =
    let m = model_of l.file l.import in
    let first = model_of l.file l.fn.import in
    record {
      ready : Ready l.file m;
      owes : Owes (g.W.Write.contents l.fn.out) (g.W.Write.contents l.out) (trace_from m) (trace_from first);
      behind : walked m m.ahead.rows ≡ walked first first.ahead.rows;
    }

abbrev pub decreases-loop-why : goal.decreases-loop-why
decreases-loop-why g l = length (model_of l.file l.import).ahead.rows
