-- What comes of it if every open node is read to its end.
use Rattle.std.specs.Prelude.{◌≡◌, ℕ, ◌+◌, max, Bool, true, false, List, [], ◌∷◌, ◌++◌, take, ℤ, pos}
use Rattle.fields.specs.declared.family.Family.{Ghosts}
use Rattle.fields.specs.Meanings.{Meaning}
use Rattle.layout.specs.declared.node.Node.{Node}
use Rattle.layout.specs.Trees.{tree_of}
use Rattle.report.specs.declared.outcome.Outcome.TheVariants.{Good, SyntaxFault, Absent}
use Rattle.report.specs.declared.line.Line.{Line}
use Rattle.report.specs.Trials.{Trial, clean, given_up, trials, branches}
use Rattle.report.specs.Recovery.{OpenReading, gave, wrote, byte_of, skips, broken}
use Rattle.report.specs.Readings.{open_reading, children, seeking}
use Rattle.reader.specs.declared.open.Way.{Way}
use Rattle.reader.specs.declared.open.Way.TheVariants.{Sequence, Tried, Choice, Optional}
use Rattle.reader.specs.declared.open.Told.{Told}
use Rattle.reader.specs.declared.open.Told.TheVariants.{Begin, Clean, Fault, Seek, Skip}
use Rattle.reader.specs.Turns.{Pending, State, completed, shut, undone}
use Rattle.reader.specs.declared.source.Source.{Source}
use Rattle.reader.specs.Models.{nodes_of, constants_of, broke}
use Rattle.reader.specs.Nesting.{Good as Nested}

-- lines, a place, what the open node around is told, and the reach so far
pub record Mid : Type 0 where
  pub lines : List Line
  pub place : ℕ
  pub told : Told
  pub reach : ℕ

abbrev pub mid : List Line → ℕ → Told → ℕ → Mid
mid ls p t r = record { lines = ls; place = p; told = t; reach = r }

abbrev pub tells : Bool → Told
tells true = Fault
tells false = Clean

-- how the node ends, by what became of its parts
abbrev pub tried_end : Pending → List Line → ℕ → ℕ → Trial → Mid
tried_end f ls p r (clean ms q x) = mid (completed f (ls ++ ms) q Good (pos 0)) q Clean (max r x)
tried_end f ls p r (given_up x) = mid ls p Fault (max r x)

abbrev pub option_end : Pending → List Line → ℕ → Trial → Mid
option_end f ls r (clean ms q x) = mid (completed f (ls ++ ms) q Good (pos 1)) q Clean (max r x)
option_end f ls r (given_up x) = mid (undone f ls Absent (pos 0)) f.start Clean (max r x)

abbrev pub choice_end : Pending → List Line → ℕ → Trial → Mid
choice_end f ls r (clean ms q x) = mid (take f.at ls ++ ms) q Clean (max r x)
choice_end f ls r (given_up x) = mid (undone f ls SyntaxFault (pos 5)) f.start Fault (max r x)

abbrev pub open_end : Pending → List Line → ℕ → OpenReading → Mid
open_end f ls r d = mid (shut f (ls ++ d.lines) d.place) d.place (tells d.broke) (max r d.reach)

module _ (means : ℕ → ℕ → Meaning) (nodes : List Node) (row : List ℕ) where
  -- what an open sequence still reads
  abbrev open_by : Told → Pending → List Line → ℕ → OpenReading
  open_by Begin f ls p = children means nodes row f.rest ls p
  open_by Clean f ls p = children means nodes row f.rest ls p
  open_by Fault f ls p = broken row (byte_of f.last) f.last f.rest (children means nodes row f.rest) (seeking means nodes row f.rest) ls p
  open_by Seek f ls p = seeking means nodes row f.rest ls p
  open_by Skip f ls p = wrote ls (skips f.rest p) p true

  abbrev tried_by : Told → Pending → List Line → ℕ → ℕ → Mid
  tried_by Begin f ls p r = tried_end f ls p r (trials means nodes row f.rest ls p)
  tried_by Clean f ls p r = tried_end f ls p r (trials means nodes row f.rest ls p)
  tried_by Fault f ls p r = mid ls p Fault r
  tried_by Seek f ls p r = mid ls p Fault r
  tried_by Skip f ls p r = mid ls p Fault r

  abbrev pub chooses : Pending → List Line → ℕ → Mid
  chooses f ls r = choice_end f ls r (branches means nodes row f.rest f.node (f.branch + 1) ls f.start)

  abbrev choice_by : Told → Pending → List Line → ℕ → ℕ → Mid
  choice_by Begin f ls p r = chooses f (take (f.at + 1) ls) r
  choice_by Clean f ls p r = mid (completed f ls p Good (pos f.branch)) p Clean r
  choice_by Fault f ls p r = chooses f (take (f.at + 1) ls) r
  choice_by Seek f ls p r = chooses f (take (f.at + 1) ls) r
  choice_by Skip f ls p r = chooses f (take (f.at + 1) ls) r

  abbrev option_by : Told → Pending → List Line → ℕ → ℕ → Mid
  option_by Begin f ls p r = option_end f ls r (trials means nodes row f.rest ls p)
  option_by Clean f ls p r = option_end f ls r (trials means nodes row f.rest ls p)
  option_by Fault f ls p r = mid (undone f ls Absent (pos 0)) f.start Clean r
  option_by Seek f ls p r = mid (undone f ls Absent (pos 0)) f.start Clean r
  option_by Skip f ls p r = mid (undone f ls Absent (pos 0)) f.start Clean r

  abbrev pub finish_by : Way → Told → Pending → List Line → ℕ → ℕ → Mid
  finish_by Sequence t f ls p r = open_end f ls r (open_by t f ls p)
  finish_by Tried t f ls p r = tried_by t f ls p r
  finish_by Choice t f ls p r = choice_by t f ls p r
  finish_by Optional t f ls p r = option_by t f ls p r

  abbrev pub resume : List Pending → List Line → ℕ → Told → ℕ → OpenReading
  resume [] ls p t r = gave ls p (broke t) r
  resume (f ∷ fs) ls p t r = let m = finish_by f.way t f ls p r in resume fs m.lines m.place m.told m.reach

  abbrev pub resumed : State → OpenReading
  resumed s = resume s.stack s.lines s.place s.told s.reach

  -- the open nodes are nested, and what comes of them is the reading of the root from the row's beginning
  pub record Going (constants : List ℤ) (s : State) : Type 0 where
    pub good : Nested row s.stack s.lines s.place s.reach
    pub same : resumed s ≡ open_reading means nodes row (tree_of nodes constants) [] 0

-- the same of a source
abbrev pub GoingIn : {F : Type 0} → Ghosts F → Source F → State → Type 0
GoingIn family s x = Going (family.means s.family.now) (nodes_of s) s.row.now (constants_of s) x
