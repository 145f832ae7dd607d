-- A step of a pass, as calls on an import one after another: next, read, and keep or set aside.
use Rattle.std.specs.Prelude.{ℕ, cond, List, Some, None, Ok, Err, Option, Result, ◌==◌}
use Rattle.rows.specs.declared.piece.Mark.{Mark}
use Rattle.report.specs.Reports.{fault_count}
use Rattle.import.specs.declared.answer.Opened.{Opened}
use Rattle.import.specs.declared.stage.How.{How}
use Rattle.import.specs.declared.stage.How.TheVariants.{Kept, SetAside}
use Rattle.import.specs.declared.refusal.Refusal.{Refusal}
use Rattle.import.specs.Models.{Standing, Model}
use Rattle.import.specs.Calls.{next, read, file, Answer, refused, row, none, counted}
use Rattle.import.specs.Answers.{said_done}
use Rattle.import.specs.Steps.{Out, step}
use Rattle.passes.specs.declared.pass.Passed.{Passed}

-- what a step answers: that it is refused, that no row is left, or the row that it went over, with what its read answered
pub data Went : Type 0 where
  stopped : (why : Refusal) → Went
  ended : Went
  over : (number start length : ℕ) (mark : Mark) (read : Answer) (filed : How) → Went

-- an answer, and the import after it
abbrev pub Pass : Type 0
Pass = Went × Model

abbrev pub said_pass : Result (Option Passed) Refusal → Went
said_pass (Ok None) = ended
said_pass (Ok (Some p)) = over p.number p.start p.length p.mark (said_done p.read) p.filed
said_pass (Err why) = stopped why

-- kept if its report stands and counts no fault, else set aside
abbrev pub how_filed : Option Standing → How
how_filed None = SetAside
how_filed (Some r) = cond (fault_count r.report == 0) Kept SetAside

-- how many rows were opened
abbrev pub opened_of : Answer → ℕ
opened_of (counted c) = c.opened
opened_of a = 0

-- the row that was opened is filed behind its read
abbrev pub filing : List ℕ → Opened → Out → Pass
filing bytes o r = (
  over o.slip.row o.start o.length o.mark r.0 (how_filed r.1.standing),
  (step bytes r.1 (file (how_filed r.1.standing) o.slip)).1,
)

-- by what next answers (it has no other answers than the first three)
abbrev pub reading : List ℕ → Answer → Model → Pass
reading bytes (refused why) m = (stopped why, m)
reading bytes none m = (ended, m)
reading bytes (row o) m = filing bytes o (step bytes m read)
reading bytes a m = (ended, m)

abbrev pub pass : List ℕ → Model → Pass
pass bytes m = reading bytes (step bytes m next).0 (step bytes m next).1
