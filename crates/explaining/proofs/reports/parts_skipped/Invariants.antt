-- The parts skipped so far.
use Rattle.std.proofs.Common.{◌≡◌, ◌+◌, ◌≤◌, drop}
use Rattle.explaining.specs.Reports.{parts_skipped}
use Rattle.explaining.proofs.reports.parts_skipped.Given as goal

abbrev pub invariant-loop-line : goal.invariant-loop-line
invariant-loop-line l = record {
  counted : l.parts + parts_skipped (drop l.line-index l.lines) ≡ parts_skipped l.lines;
  few : l.parts ≤ l.line-index;
}
