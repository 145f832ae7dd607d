-- Slips and the rows that they stand for, as next hands them out.
use Rattle.std.specs.Prelude.{ℕ, zero, suc, ◌+◌, Bool, ◌&&◌, List, [], ◌∷◌, map, take, drop, ◌==◌}
use Rattle.std.specs.List.{list_any, filter}
use Rattle.rows.specs.Cuts.{RowAt}
use Rattle.import.specs.declared.slip.Slip.{Slip}
use Rattle.import.specs.declared.answer.Opened.{Opened}

abbrev pub slip : ℕ → ℕ → Slip
slip import row = record { import = import; row = row }

-- the same import number and the same row number
abbrev pub same_slip : Slip → Slip → Bool
same_slip s t = (s.import == t.import) && (s.row == t.row)

abbrev pub among : Slip → List Slip → Bool
among s ss = list_any (same_slip s) ss

-- so many slips of one import, for rows one after another
abbrev pub slips_from : ℕ → ℕ → ℕ → List Slip
slips_from import row zero = []
slips_from import row (suc n) = slip import row ∷ slips_from import (row + 1) n

abbrev pub slips : List Opened → List Slip
slips os = map (λ o. o.slip) os

-- those of the rows whose slips are among these
abbrev pub rows_of : List Slip → List Opened → List Opened
rows_of ss os = filter (λ o. among o.slip ss) os

-- the bytes of a file at a place, so many as there are
abbrev pub part : List ℕ → ℕ → ℕ → List ℕ
part file start n = take n (drop start file)

-- a row that was handed out, with its bytes in the file
abbrev pub row_at : List ℕ → Opened → RowAt
row_at file o = record { start = o.start; bytes = part file o.start o.length; mark = o.mark }

abbrev pub rows_at : List ℕ → List Opened → List RowAt
rows_at file os = map (row_at file) os
