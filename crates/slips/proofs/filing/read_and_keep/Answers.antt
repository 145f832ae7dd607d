-- Where the row is not kept it stays open, under the slip that is given back.
use Rattle.import.specs.Answers.{said_done}
use Rattle.import.specs.States.{model_of}
use Rattle.slips.proofs.Held.{read_held, kept_held}
use Rattle.slips.proofs.filing.read_and_keep.Goals as goal

pub returns-in-Err-clause-open : goal.returns-in-Err-clause-open
returns-in-Err-clause-open g c =
    let file = c.args.file.now in
    read_held file (model_of file c.args.import.now) (model_of file c.read.new.self) c.args.slip c.requires (said_done c.read.result) (c.read.ensures.step file)

pub returns-clause-open : goal.returns-clause-open
returns-clause-open g c =
    let file = c.args.file.now in
    let h = read_held file (model_of file c.args.import.now) (model_of file c.read.new.self) c.args.slip c.requires (said_done c.read.result) (c.read.ensures.step file) in
    kept_held file (model_of file c.read.new.self) (model_of file c.keep.new.self) c.args.slip h c.keep.result (c.keep.ensures.step file) c.keep.ensures.back
