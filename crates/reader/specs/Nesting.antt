-- Open nodes, each in the next, the innermost first, with the lines, the place and the reach of a reading.
use Rattle.std.specs.Prelude.{ℕ, ◌+◌, ◌<◌, ◌≤◌, List, [], ◌∷◌, length}
use Rattle.fields.specs.Laws.{Bytes}
use Rattle.layout.specs.Trees.{height_of}
use Rattle.report.specs.declared.line.Line.{Line}
use Rattle.reader.specs.declared.open.Way.{Way}
use Rattle.reader.specs.declared.open.Way.TheVariants.{Sequence, Tried, Choice, Optional}
use Rattle.reader.specs.Turns.{Pending}

-- a fault in the innermost open node gives up a trial
abbrev pub Gives : Way → Type 0 → Type 0
Gives Sequence X = ⊥
Gives Tried X = X
Gives Choice X = Unit {0}
Gives Optional X = Unit {0}

abbrev pub InTrial : List Pending → Type 0
InTrial [] = ⊥
InTrial (f ∷ fs) = Gives f.way (InTrial fs)

-- a sequence in a trial lies in one
abbrev pub Context : Way → List Pending → Type 0
Context Sequence fs = Unit {0}
Context Tried fs = InTrial fs
Context Choice fs = Unit {0}
Context Optional fs = Unit {0}

-- each has its line above the lines of those around it; n lines stand
abbrev pub Chain : List Pending → ℕ → Type 0
Chain [] n = Unit {0}
Chain (f ∷ fs) n = (f.at < n) × Context f.way fs × Chain fs f.at

-- each began where those around it had begun; p is the place
abbrev pub Began : List Pending → ℕ → Type 0
Began [] p = Unit {0}
Began (f ∷ fs) p = (f.start ≤ p) × Began fs f.start

-- no more than 16 levels come of it
abbrev pub Levels : List Pending → Type 0
Levels [] = Unit {0}
Levels (f ∷ fs) = (height_of f.rest + (length fs + 1) ≤ 16) × Levels fs

pub record Good (row : List ℕ) (fs : List Pending) (ls : List Line) (p r : ℕ) : Type 0 where
  pub chain : Chain fs (length ls)
  pub began : Began fs p
  pub levels : Levels fs
  pub low : length ls ≤ r
  pub within : p ≤ length row
  pub bytes : Bytes row
