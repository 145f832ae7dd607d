-- What holds of an import at every moment: its counters and its stage by the words of the calls so far.
use Rattle.std.proofs.Common.{◌≡◌, ℕ, ◌+◌, true, false, List, [], ◌∷◌, ◌++◌, length, Some, None, Option}
use Rattle.std.specs.List.{AllByRecursion}
use Rattle.rows.specs.Cuts.{RowAt}
use Rattle.rows.specs.declared.piece.Mark.{Mark}
use Rattle.report.specs.Reports.{fault_count}
use Rattle.import.specs.declared.stage.Stage.{Stage}
use Rattle.import.specs.declared.stage.Stage.TheVariants.{Empty, Between, Unread, Read, End}
use Rattle.import.specs.declared.answer.Opened.{Opened}
use Rattle.import.specs.Slips.{slip, among, slips_from, slips, rows_of, part, rows_at}
use Rattle.import.specs.Models.{Setting, Standing, Model}
use Rattle.import.specs.Stages.{open_at}
use Rattle.import.specs.Words.{last_of}
use Rattle.import.specs.Tells.{defined, tail_of}
use Rattle.import.proofs.SlipLaws.{Unheard}
use Rattle.import.proofs.Heard.{Words}

-- a row is open: it is the last, and the slips of the others are spent
pub record OneOpen (number : ℕ) (w : Words) (os : List Opened) (o : Opened) : Type 0 where
  pub opened : w.opened ≡ os ++ o ∷ []
  pub spent : w.spent ≡ slips os
  pub others : slips os ≡ slips_from number 1 (length os)
  pub own : o.slip ≡ slip number (length os + 1)
  pub kept_before : Unheard (length os + 1) w.kept
  pub aside_before : Unheard (length os + 1) w.aside
  pub read_before : Unheard (length os + 2) (slips w.read)

-- no row is open: every slip is spent
pub record NoneOpen (w : Words) : Type 0 where
  pub spent : w.spent ≡ slips w.opened
  pub kept_before : Unheard (length w.opened + 1) w.kept
  pub aside_before : Unheard (length w.opened + 1) w.aside
  pub read_before : Unheard (length w.opened + 1) (slips w.read)

-- the open row is unread, at this place and under this mark
pub record UnreadAt (number : ℕ) (w : Words) (start n : ℕ) (mark : Mark) : Type 0 where
  pub os : List Opened
  pub o : Opened
  pub row : OneOpen number w os o
  pub starts : o.start ≡ start
  pub long : o.length ≡ n
  pub marked : o.mark ≡ mark
  pub new : Unheard (length os + 1) (slips w.read)
  pub goes_on : w.ended ≡ false

pub record ReadRow (number : ℕ) (w : Words) : Type 0 where
  pub os : List Opened
  pub o : Opened
  pub row : OneOpen number w os o
  pub was_read : among o.slip (slips w.read) ≡ true
  pub goes_on : w.ended ≡ false

pub record BetweenRows (w : Words) : Type 0 where
  pub closed : NoneOpen w
  pub goes_on : w.ended ≡ false

pub record AtEnd (tail : List ℕ) (left : List RowAt) (file : List ℕ) (w : Words) (start n : ℕ) : Type 0 where
  pub closed : NoneOpen w
  pub over : w.ended ≡ true
  pub none_left : left ≡ []
  pub there : part file start n ≡ tail

abbrev pub Moment : List ℕ → ℕ → List ℕ → List RowAt → Words → Stage → Type 0
Moment file number tail left w Empty = ⊥
Moment file number tail left w Between = BetweenRows w
Moment file number tail left w (Unread start n mark) = UnreadAt number w start n mark
Moment file number tail left w Read = ReadRow number w
Moment file number tail left w (End start n) = AtEnd tail left file w start n

-- the report that stands, by the row that is reported
abbrev pub standing_of : Setting → List ℕ → List Opened → Option Standing
standing_of s file [] = None
standing_of s file (o ∷ os) = Some (record { report = defined s file o; mark = o.mark })

pub record Stands (file : List ℕ) (s : Setting) (number : ℕ) (w : Words) (m : Model) : Type 0 where
  pub setting : m.setting ≡ s
  pub numbered : m.number ≡ number
  pub size : m.size ≡ length file
  pub tail : m.ahead.tail ≡ (s.rule.cut file).tail
  pub rows : rows_at file w.opened ++ m.ahead.rows ≡ (s.rule.cut file).rows
  pub each_once : slips w.opened ≡ slips_from number 1 (length w.opened)
  pub opens : m.counts.opened ≡ length w.opened
  pub keeps : m.counts.kept ≡ length (rows_of w.kept w.opened)
  pub asides : m.counts.set_aside ≡ length (rows_of w.aside w.opened)
  pub tally : m.counts.opened ≡ m.counts.kept + m.counts.set_aside + open_at m.stage
  pub clean : AllByRecursion (λ o. fault_count (defined s file o) ≡ 0) (rows_of w.kept w.opened)
  pub read_once : w.read ≡ rows_of (slips w.read) w.opened
  pub stands : m.standing ≡ standing_of s file (rows_of (slips w.read) (last_of w.opened))
  pub moment : Moment file number (tail_of s file) m.ahead.rows w m.stage
