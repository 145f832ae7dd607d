-- The explanation from the next row on is still to be written.
use Rattle.std.proofs.Common.{◌≡◌, None, length}
use Rattle.import.specs.Scans.{Ready}
use Rattle.import.specs.States.{model_of}
use Rattle.passes.specs.Walks.{walked}
use Rattle.tracing.proofs.Streams.{Owes}
use Rattle.explaining.specs.Rest.{explanation_from}
use Rattle.explaining.proofs.explain.explain_rows.Given as goal

abbrev pub invariant-loop-row : goal.invariant-loop-row
invariant-loop-row g l =
    let m = model_of l.file l.import in
    let first = model_of l.file l.fn.import in
    record {
      ready : Ready l.file m;
      owes : Owes (g.W.Write.contents l.fn.out) (g.W.Write.contents l.out) (explanation_from l.family l.last m) (explanation_from l.family None first);
      behind : walked m m.ahead.rows ≡ walked first first.ahead.rows;
    }

abbrev pub decreases-loop-row : goal.decreases-loop-row
decreases-loop-row g l = length (g.R.RowRule.ahead l.import.rule l.file).rows
