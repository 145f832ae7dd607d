-- What the rows left come to, all rows come to.
use Rattle.std.proofs.Common.{◌+◌, ◌≤◌, length, Result}
use Rattle.import.specs.declared.answer.Matched.{Matched}
use Rattle.import.specs.declared.answer.Unmatched.{Unmatched}
use Rattle.import.specs.Walks.{Walked}
use Rattle.import.specs.Scans.{Ready, Left}
use Rattle.import.specs.States.{model_of}
use Rattle.import.proofs.import.walk.walk.Given as goal

abbrev pub invariant-loop-why : goal.invariant-loop-why
invariant-loop-why g l = record {
  first_ready : Ready l.one (model_of l.one l.first);
  resent_ready : Ready l.other (model_of l.other l.resent);
  first_left : Left (model_of l.one l.fn.first) (model_of l.one l.first);
  resent_left : Left (model_of l.other l.fn.resent) (model_of l.other l.resent);
  counted : l.row + length (model_of l.one l.first).ahead.rows ≤ 16777217;
  carries : (res : Result Matched Unmatched) → Walked l.row (model_of l.one l.first) (model_of l.other l.resent) res → Walked 1 (model_of l.one l.fn.first) (model_of l.other l.fn.resent) res;
}

abbrev pub decreases-loop-why : goal.decreases-loop-why
decreases-loop-why g l = length (model_of l.one l.first).ahead.rows
