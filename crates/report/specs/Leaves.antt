-- Reading a field or a mark at the beginning of the bytes left.
use Rattle.std.specs.Prelude.{ℕ, ◌+◌, true, false, List, [], ◌∷◌, drop, pos, Some, None, Ok, Err, Option, ◌==◌}
use Rattle.fields.specs.declared.cause.Cause.TheVariants.{Short, Form}
use Rattle.fields.specs.Meanings.{Reading}

-- one byte, with the number 0; the bytes end too soon, or another byte stands there
abbrev pub mark_reads : ℕ → List ℕ → Reading
mark_reads b [] = Err Short
mark_reads b (x ∷ xs) = elim (x == b) [ true ↦ Ok (1, pos 0) | false ↦ Err Form ]

-- the first place of byte b in these bytes, which begin at place p
abbrev pub first_in : ℕ → List ℕ → ℕ → Option ℕ
first_in b [] p = None
first_in b (x ∷ xs) p = elim (x == b) [ true ↦ Some p | false ↦ first_in b xs (p + 1) ]

-- the first place of byte b in the row, at or after place p
abbrev pub first_from : List ℕ → ℕ → ℕ → Option ℕ
first_from row b p = first_in b (drop p row) p
