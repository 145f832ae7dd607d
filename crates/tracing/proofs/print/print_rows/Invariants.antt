-- The frames from the next row on, and the tail, are still to be written; no row so far was not read.
use Rattle.std.proofs.Common.{◌≡◌, ◌≤◌, length}
use Rattle.import.specs.Scans.{Ready}
use Rattle.import.specs.States.{model_of}
use Rattle.passes.specs.Walks.{walked}
use Rattle.tracing.specs.Prints.{Printable, bytes_ahead, unread_ahead, frames_ahead}
use Rattle.tracing.proofs.Streams.{Owes}
use Rattle.tracing.proofs.print.print_rows.Given as goal

abbrev pub invariant-loop-why : goal.invariant-loop-why
invariant-loop-why g l =
    let m = model_of l.file l.import in
    let first = model_of l.file l.fn.import in
    let old = g.W.Write.contents l.fn.out in
    let now = g.W.Write.contents l.out in
    record {
      ready : Ready l.file m;
      printable : Printable m;
      room : length (bytes_ahead m) ≤ length l.buffer;
      owes : Owes old now (bytes_ahead m) (bytes_ahead first);
      before : Owes old now (frames_ahead m) (frames_ahead first);
      unread : unread_ahead m ≡ unread_ahead first;
      behind : walked m m.ahead.rows ≡ walked first first.ahead.rows;
    }

abbrev pub decreases-loop-why : goal.decreases-loop-why
decreases-loop-why g l = length (model_of l.file l.import).ahead.rows
