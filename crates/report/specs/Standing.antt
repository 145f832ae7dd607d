-- What a trial leaves to what is read behind it.
use Rattle.std.specs.Prelude.{ℕ, List, ◌++◌, drop, Some, None, Option}
use Rattle.layout.specs.declared.node.Node.{Node}
use Rattle.report.specs.declared.line.Line.{Line}
use Rattle.report.specs.Values.{values}
use Rattle.report.specs.Trials.{Trial, clean, given_up}
use Rattle.report.specs.Meets.{Left, leaves}

-- behind the lines `pre`: the bytes behind the trial, and the values of all lines that stand; none if it is given up
abbrev pub left_by : List Node → List ℕ → List Line → Trial → Option Left
left_by nodes row pre (clean ls q r) = Some (leaves (drop q row) (values nodes (pre ++ ls)))
left_by nodes row pre (given_up r) = None
