-- Setting the open row aside with its slip is not refused.
use Rattle.std.proofs.Common.{[]}
use Rattle.import.specs.States.{model_of}
use Rattle.slips.proofs.Held.{aside_never}
use Rattle.slips.proofs.filing.set_aside.Goals as goal

pub unreachable-requires : goal.unreachable-requires
unreachable-requires g c = aside_never [] (model_of [] c.args.import.now) (model_of [] c.set_aside.new.self) c.args.slip c.requires c.in-Err.field-0.0 (c.in-Err.ensures.step [])
