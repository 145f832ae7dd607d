-- Each turn leaves fewer words.
use Rattle.std.proofs.Common.{length}
use Rattle.cli.proofs.rules.rule_of.Given as goal

abbrev pub decreases-loop-sample : goal.decreases-loop-sample
decreases-loop-sample l = length l.rest
