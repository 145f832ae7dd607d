-- Lines, how many of them are faults, and the lines that no family has a say in.
use Rattle.std.specs.Prelude.{ℕ, zero, suc, ◌+◌, ◌-◌, cond, List, [], ◌∷◌, ℤ, pos, nat_lt}
use Rattle.report.specs.declared.outcome.Outcome.{Outcome}
use Rattle.report.specs.declared.outcome.Outcome.TheVariants.{Good, Skipped, FaultBelow, Scrap}
use Rattle.report.specs.declared.line.Line.{Line}
use Rattle.report.specs.Outcomes.{role_of, is_fault}

abbrev pub line : ℕ → Outcome → ℕ → ℕ → ℤ → Line
line i o s n z = record { node = i; outcome = o; start = s; length = n; number = z }

-- a node's line as its reading begins
abbrev pub begun : ℕ → ℕ → Line
begun i p = line i Good p 0 (pos 0)

-- the line of a node that is passed over
abbrev pub skipped : ℕ → ℕ → Line
skipped i p = line i Skipped p 0 (pos 0)

-- the bytes from p to q as a scrap line of node i; none if there are no bytes
abbrev pub scrap : ℕ → ℕ → ℕ → List Line
scrap i p q = cond (nat_lt p q) (line i Scrap p (q - p) (pos 0) ∷ []) []

abbrev pub fault_in : Line → ℕ
fault_in l = cond (is_fault (role_of l.outcome)) 1 0

-- how many lines are faults
abbrev pub faults : List Line → ℕ
faults [] = 0
faults (l ∷ ls) = fault_in l + faults ls

-- the outcome of a sequence with so many faults below it
abbrev pub overall : ℕ → Outcome
overall zero = Good
overall (suc n) = FaultBelow
