-- Worked cuts.
use Rattle.std.specs.Prelude.{◌≡◌, [], ◌∷◌}
use Rattle.rows.specs.Newlines.{newline_meaning}
use Rattle.rows.specs.Widths.{fixed_meaning}
use Rattle.rows.specs.declared.piece.Mark.TheVariants.{Ended, Unended}

-- Newline: no bytes, no row; 0A, one empty ended row; `a` 0A `b`, a second, unended row. Width 2 on `abc`: row `ab`, tail `c`.
-- (`a` is 97, `b` 98, `c` 99.)
abbrev pub WorkedCuts : Type 0
WorkedCuts =
    (newline_meaning.cut [] ≡ record { rows = []; tail = record { start = 0; bytes = [] } })
    × (newline_meaning.cut (10 ∷ []) ≡ record { rows = record { start = 0; bytes = []; mark = Ended } ∷ []; tail = record { start = 1; bytes = [] } })
    × (newline_meaning.cut (97 ∷ 10 ∷ 98 ∷ [])
    ≡ record {
      rows = record { start = 0; bytes = 97 ∷ []; mark = Ended } ∷ record { start = 2; bytes = 98 ∷ []; mark = Unended } ∷ [];
      tail = record { start = 3; bytes = [] };
    })
    × ((fixed_meaning 2).cut (97 ∷ 98 ∷ 99 ∷ []) ≡ record { rows = record { start = 0; bytes = 97 ∷ 98 ∷ []; mark = Ended } ∷ []; tail = record { start = 2; bytes = 99 ∷ [] } })
