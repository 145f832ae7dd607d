-- Going over the rows of a file one after another: each is opened, read, and set aside.
use Rattle.std.specs.Prelude.{◌≡◌, ℕ, ◌+◌, ◌≤◌, List, [], ◌∷◌, length, Some, None, Ok, Err, Option, Result}
use Rattle.rows.specs.Cuts.{RowAt}
use Rattle.rows.specs.Rules.{Parts}
use Rattle.rows.specs.declared.piece.Mark.{Mark}
use Rattle.import.specs.declared.stage.Stage.{Stage}
use Rattle.import.specs.declared.stage.Stage.TheVariants.{Empty, Between, Unread, Read, End}
use Rattle.import.specs.declared.refusal.Refusal.{Refusal}
use Rattle.import.specs.Slips.{part}
use Rattle.import.specs.Stages.{open_at}
use Rattle.import.specs.Models.{Model}
use Rattle.import.specs.Calls.{refused, done}
use Rattle.import.specs.Steps.{report_of}
use Rattle.import.specs.Tells.{read_says}

-- an import between two rows, of which those to come are parts of the file, no more of them than there are bytes left
pub record Ready (file : List ℕ) (m : Model) : Type 0 where
  pub between : m.stage ≡ Between
  pub size : m.size ≡ length file
  pub parts : Parts file m.ahead
  pub room : m.counts.opened + length m.ahead.rows + length m.ahead.tail.bytes ≤ m.size

-- the tail that an import at the end tells
abbrev pub tail_at : List ℕ → Stage → List ℕ
tail_at file Empty = []
tail_at file Between = []
tail_at file (Unread start n mark) = []
tail_at file Read = []
tail_at file (End start n) = part file start n

-- the first row to come was read, and its report stands; it is gone, and all else to come stays
pub record NextRow (file : List ℕ) (m n : Model) (mark : Mark) : Type 0 where
  pub row : RowAt
  pub is : m.ahead.rows ≡ row ∷ n.ahead.rows
  pub its_mark : mark ≡ row.mark
  pub readable : read_says m.setting row.bytes ≡ done
  pub stands : n.standing ≡ Some (record { report = report_of m.setting row.bytes; mark = row.mark })
  pub ready : Ready file n
  pub setting : n.setting ≡ m.setting
  pub tail : n.ahead.tail ≡ m.ahead.tail

-- no row is to come, and the tail is told
pub record NoRow (file : List ℕ) (m n : Model) : Type 0 where
  pub none_left : m.ahead.rows ≡ []
  pub told : tail_at file n.stage ≡ m.ahead.tail.bytes

-- the read of the first row to come is refused
pub record Unreadable (m : Model) (why : Refusal) : Type 0 where
  pub row : RowAt
  pub rest : List RowAt
  pub is : m.ahead.rows ≡ row ∷ rest
  pub refusal : read_says m.setting row.bytes ≡ refused why

-- what every scan leaves: the family means what it did, and no row is open
pub record Left (m n : Model) : Type 0 where
  pub means_stay : n.setting.means ≡ m.setting.means
  pub closed : open_at n.stage ≡ 0

abbrev pub Scanned : List ℕ → Model → Model → Result (Option Mark) Refusal → Type 0
Scanned file m n (Ok None) = NoRow file m n
Scanned file m n (Ok (Some mark)) = NextRow file m n mark
Scanned file m n (Err why) = Unreadable m why
