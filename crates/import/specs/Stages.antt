-- What a stage says: how many rows are open, and whether a report stands.
use Rattle.std.specs.Prelude.{ℕ, Bool, true, Option, is_some, is_none}
use Rattle.rows.specs.declared.piece.Mark.{Mark}
use Rattle.import.specs.declared.stage.Stage.{Stage}
use Rattle.import.specs.declared.stage.Stage.TheVariants.{Empty, Between, Unread, Read, End}

abbrev pub open_at : Stage → ℕ
open_at Empty = 0
open_at Between = 0
open_at (Unread start n mark) = 1
open_at Read = 1
open_at (End start n) = 0

-- Whether a report may stand, or none, at a stage: none stands while a row is unread, one stands while a row is read, and elsewhere either.
abbrev pub fits_stage : Stage → Option Mark → Bool
fits_stage Empty mark = is_none mark
fits_stage Between mark = true
fits_stage (Unread start n m) mark = is_none mark
fits_stage Read mark = is_some mark
fits_stage (End start n) mark = true
