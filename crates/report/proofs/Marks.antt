-- Where a mark is read, or its byte found, that byte stands.
use Rattle.std.proofs.Common.{◌≡◌, ℕ, ◌+◌, ◌<◌, ◌≤◌, Bool, true, false, eqb, List, [], ◌∷◌, length, drop, pos, Some, None, Ok, Err, Option, sym, refl, ap, ◌∙◌, arith, length-drop, drop-drop}
use Rattle.std.proofs.lemmas.Bool.{eqb-true}
use Rattle.fields.specs.declared.cause.Cause.TheVariants.{Form}
use Rattle.fields.specs.Meanings.{Reading}
use Rattle.report.specs.Leaves.{mark_reads, first_in, first_from}

-- byte b stands at place p
abbrev pub Stands : List ℕ → ℕ → ℕ → Type 0
Stands row b p = drop p row ≡ b ∷ drop (p + 1) row

pub stands_below : (row : List ℕ) (b p : ℕ) → Stands row b p → p < length row
stands_below row b p e = omega (arith, ap length e, length-drop p row)

-- a mark that is good is its byte
abbrev pub IsMark : List ℕ → ℕ → ℕ → Reading → Type 0
IsMark row b p (Ok x) = (x ≡ (1, pos 0)) × Stands row b p
IsMark row b p (Err c) = Unit {0}

behind_first : (row : List ℕ) (x : ℕ) (xs : List ℕ) (p : ℕ) → drop p row ≡ x ∷ xs → drop (p + 1) row ≡ xs
behind_first row x xs p e = sym (drop-drop 1 p row) ∙ ap (drop 1) e

here : (row : List ℕ) (x : ℕ) (xs : List ℕ) (b p : ℕ) → drop p row ≡ x ∷ xs → eqb x b ≡ true → Stands row b p
here row x xs b p e h = e ∙ ap (λ y. y ∷ xs) (eqb-true x b h) ∙ ap (λ ys. b ∷ ys) (sym (behind_first row x xs p e))

pub mark_is : (row : List ℕ) (b p : ℕ) (bs : List ℕ) → drop p row ≡ bs → IsMark row b p (mark_reads b bs)
mark_is row b p [] e = tt
mark_is row b p (x ∷ xs) e = go (eqb x b) refl
  where
    go : (t : Bool) → eqb x b ≡ t → IsMark row b p (elim t [ true ↦ Ok (1, pos 0) | false ↦ Err Form ])
    go true h = (refl, here row x xs b p e h)
    go false h = tt

-- a byte that is found stands there, at or after the place
abbrev pub IsFound : List ℕ → ℕ → ℕ → Option ℕ → Type 0
IsFound row b p None = Unit {0}
IsFound row b p (Some j) = (p ≤ j) × Stands row b j

found_later : (row : List ℕ) (b p : ℕ) (o : Option ℕ) → IsFound row b (p + 1) o → IsFound row b p o
found_later row b p None h = tt
found_later row b p (Some j) h = (omega (arith, h.0), h.1)

found_in : (row : List ℕ) (b : ℕ) (xs : List ℕ) (p : ℕ) → drop p row ≡ xs → IsFound row b p (first_in b xs p)
found_in row b [] p e = tt
found_in row b (x ∷ xs) p e = go (eqb x b) refl (found_later row b p (first_in b xs (p + 1)) (found_in row b xs (p + 1) (behind_first row x xs p e)))
  where
    go : (t : Bool) → eqb x b ≡ t → IsFound row b p (first_in b xs (p + 1)) → IsFound row b p (elim t [ true ↦ Some p | false ↦ first_in b xs (p + 1) ])
    go true h k = (omega arith, here row x xs b p e h)
    go false h k = k

pub found_from : (row : List ℕ) (b p : ℕ) → IsFound row b p (first_from row b p)
found_from row b p = found_in row b (drop p row) p refl
