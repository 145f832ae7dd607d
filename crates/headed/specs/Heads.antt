-- What a header of four bytes 00 cuts: the one row behind it.
use Rattle.std.specs.Prelude.{ℕ, zero, suc, Bool, true, false, ◌&&◌, List, [], ◌∷◌, ◌++◌, length, drop, ◌==◌}
use Rattle.rows.specs.Cuts.{RowAt, Cut}
use Rattle.rows.specs.Rules.{Meaning}
use Rattle.rows.specs.declared.piece.Mark.{Mark}
use Rattle.rows.specs.declared.piece.Mark.TheVariants.{Ended, Unended}

abbrev pub header : List ℕ
header = 0 ∷ 0 ∷ 0 ∷ 0 ∷ []

-- a list begins with n bytes 00
abbrev pub begins : ℕ → List ℕ → Bool
begins zero bs = true
begins (suc n) [] = false
begins (suc n) (b ∷ bs) = b == 0 && begins n bs

-- behind a header, one ended row and an empty tail; with no header, no row, and the whole file is the tail
abbrev pub cut_if : Bool → List ℕ → Cut
cut_if true file = record { rows = record { start = 4; bytes = drop 4 file; mark = Ended } ∷ []; tail = record { start = length file; bytes = [] } }
cut_if false file = record { rows = []; tail = record { start = 0; bytes = file } }

abbrev pub headed_cut : List ℕ → Cut
headed_cut file = cut_if (begins 4 file) file

-- the rows still to come: none if the row was handed out
abbrev pub unless : Bool → List RowAt → List RowAt
unless true rs = []
unless false rs = rs

abbrev pub headed_from : Bool → List ℕ → Cut
headed_from done file = record { rows = unless done (headed_cut file).rows; tail = (headed_cut file).tail }

-- the header, then the row
abbrev pub headed_frame : List ℕ → Mark → List ℕ
headed_frame bytes mark = header ++ bytes

-- every ended row
abbrev pub headed_carries : List ℕ → Mark → Bool
headed_carries bytes Ended = true
headed_carries bytes Unended = false

abbrev pub headed_meaning : Meaning
headed_meaning = record { cut = headed_cut; frame = headed_frame; carries = headed_carries }
