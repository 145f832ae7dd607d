-- What a fixed width cuts.
use Rattle.std.specs.Prelude.{ℕ, zero, suc, ◌+◌, ◌-◌, ◌*◌, ◌/◌, min, Bool, false, List, [], ◌∷◌, length, take, drop, ◌==◌}
use Rattle.rows.specs.Cuts.{RowAt, Cut}
use Rattle.rows.specs.Rules.{Meaning}
use Rattle.rows.specs.declared.piece.Mark.{Mark}
use Rattle.rows.specs.declared.piece.Mark.TheVariants.{Ended, Unended}

-- n rows of w bytes, the first at a place
abbrev pub slabs : ℕ → ℕ → ℕ → List ℕ → List RowAt
slabs zero w p bs = []
slabs (suc n) w p bs = record { start = p; bytes = take w bs; mark = Ended } ∷ slabs n w (p + w) (drop w bs)

-- how many rows of w bytes there are from a place on
abbrev pub fixed_count : ℕ → ℕ → List ℕ → ℕ
fixed_count w p file = (length file - p) / w

-- as many rows as there are from a place on; what is left is the tail
abbrev pub fixed_from : ℕ → ℕ → List ℕ → Cut
fixed_from w p file = record {
  rows = slabs (fixed_count w p file) w p (drop p file);
  tail = record { start = p + fixed_count w p file * w; bytes = drop (p + fixed_count w p file * w) file };
}

-- the same where the place may be past the file's end
abbrev pub fixed_at : ℕ → ℕ → List ℕ → Cut
fixed_at w p file = fixed_from w (min p (length file)) file

-- a row of w bytes is its own frame
abbrev pub fixed_frame : List ℕ → Mark → List ℕ
fixed_frame bytes mark = bytes

-- ended rows of w bytes
abbrev pub fixed_carries : ℕ → List ℕ → Mark → Bool
fixed_carries w bytes Ended = length bytes == w
fixed_carries w bytes Unended = false

abbrev pub fixed_meaning : ℕ → Meaning
fixed_meaning w = record { cut = fixed_at w 0; frame = fixed_frame; carries = fixed_carries w }
