-- The numbers of outcomes, and what lines of each outcome stand for.
use Rattle.std.specs.Prelude.{ℕ, Bool, true, false}
use Rattle.report.specs.declared.outcome.Outcome.{Outcome}
use Rattle.report.specs.declared.outcome.Outcome.TheVariants.{Good, SyntaxFault, CheckFault, Absent, Skipped, FaultBelow, Scrap}

abbrev pub outcome_number : Outcome → ℕ
outcome_number Good = 0
outcome_number SyntaxFault = 1
outcome_number CheckFault = 2
outcome_number Absent = 3
outcome_number Skipped = 4
outcome_number FaultBelow = 5
outcome_number Scrap = 6

-- Fault counting and printing look at this alone.
pub data Role : Type 0 where
  -- what the node has read
  what_was_read : Role
  -- a fault
  a_fault : Role
  -- bytes that no node has read
  loose_bytes : Role
  -- none of these
  a_note : Role

abbrev pub role_of : Outcome → Role
role_of Good = what_was_read
role_of SyntaxFault = a_fault
role_of CheckFault = a_fault
role_of Absent = a_note
role_of Skipped = a_note
role_of FaultBelow = a_note
role_of Scrap = loose_bytes

abbrev pub is_fault : Role → Bool
is_fault what_was_read = false
is_fault a_fault = true
is_fault loose_bytes = false
is_fault a_note = false
