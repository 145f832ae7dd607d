-- What byte 0A cuts.
use Rattle.std.specs.Prelude.{ℕ, ◌+◌, Bool, true, false, not, ◌&&◌, List, [], ◌∷◌, ◌++◌, length, drop, ◌==◌}
use Rattle.rows.specs.Cuts.{RowAt, Cut}
use Rattle.rows.specs.Rules.{Meaning}
use Rattle.rows.specs.declared.piece.Mark.{Mark}
use Rattle.rows.specs.declared.piece.Mark.TheVariants.{Ended, Unended}

-- one byte before some rows: a byte 0A is an empty ended row of its own, and any other goes into the first row
abbrev pub put : Bool → ℕ → ℕ → List RowAt → List RowAt
put true p b rs = record { start = p; bytes = []; mark = Ended } ∷ rs
put false p b [] = record { start = p; bytes = b ∷ []; mark = Unended } ∷ []
put false p b (r ∷ rs) = record { start = p; bytes = b ∷ r.bytes; mark = r.mark } ∷ rs

-- the rows of bytes that begin at a place
abbrev pub lines : ℕ → List ℕ → List RowAt
lines p [] = []
lines p (b ∷ bs) = put (b == 10) p b (lines (p + 1) bs)

-- the rows from a place on; the tail is empty, at the file's end
abbrev pub newline_from : ℕ → List ℕ → Cut
newline_from p file = record { rows = lines p (drop p file); tail = record { start = length file; bytes = [] } }

abbrev pub newline_frame : List ℕ → Mark → List ℕ
newline_frame bytes Ended = bytes ++ (10 ∷ [])
newline_frame bytes Unended = bytes

-- no byte is 0A
abbrev pub lacks : List ℕ → Bool
lacks [] = true
lacks (b ∷ bs) = not (b == 10) && lacks bs

abbrev pub some : List ℕ → Bool
some bs = not (length bs == 0)

-- rows without 0A; an unended row must not be empty
abbrev pub newline_carries : List ℕ → Mark → Bool
newline_carries bytes Ended = lacks bytes
newline_carries bytes Unended = lacks bytes && some bytes

abbrev pub newline_meaning : Meaning
newline_meaning = record { cut = λ file. record { rows = lines 0 file; tail = record { start = length file; bytes = [] } }; frame = newline_frame; carries = newline_carries }
