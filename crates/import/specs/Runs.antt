-- A list of calls on an import and its file, which stays as it is: what they answer, what the import is after them, and the reports that they make.
use Rattle.std.specs.Prelude.{ℕ, List, [], ◌∷◌, ◌++◌, Some, None, Option}
use Rattle.report.specs.Reports.{Report}
use Rattle.import.specs.Models.{Standing, Model}
use Rattle.import.specs.Calls.{Call, read, Answer, done}
use Rattle.import.specs.Steps.{step}

abbrev pub answer : List ℕ → Model → Call → Answer
answer bytes m c = (step bytes m c).0

abbrev pub behind : List ℕ → Model → Call → Model
behind bytes m c = (step bytes m c).1

-- a call, and what it answered
pub record Said : Type 0 where
  pub call : Call
  pub answer : Answer

abbrev pub said : List ℕ → Model → Call → Said
said bytes m c = record { call = c; answer = answer bytes m c }

-- each call is made on the import that the one before left
abbrev pub history : List ℕ → Model → List Call → List Said
history bytes m [] = []
history bytes m (c ∷ cs) = said bytes m c ∷ history bytes (behind bytes m c) cs

abbrev pub after : List ℕ → Model → List Call → Model
after bytes m [] = m
after bytes m (c ∷ cs) = after bytes (behind bytes m c) cs

-- the report that stands in an import
abbrev pub standing_report : Option Standing → List Report
standing_report None = []
standing_report (Some r) = r.report ∷ []

-- the report that stands after a read that was accepted
abbrev pub made_by : Answer → Call → Model → List Report
made_by done read m = standing_report m.standing
made_by a c m = []

-- the reports that were made, in order, as each stood in the import
abbrev pub made : List ℕ → Model → List Call → List Report
made bytes m [] = []
made bytes m (c ∷ cs) = made_by (answer bytes m c) c (behind bytes m c) ++ made bytes (behind bytes m c) cs
