-- The first place of a byte, and the latest value of a column, found by going through bytes and lines.
use Rattle.std.proofs.Common.{◌≡◌, ℕ, zero, suc, ◌+◌, ◌<◌, Bool, true, false, eqb, List, [], ◌∷◌, ◌++◌, length, get_or, ℤ, Some, None, Option, sym, refl, ap, ap₂, ◌∙◌, arith, append-nil}
use Rattle.std.specs.Option.{option_or}
use Rattle.layout.specs.declared.node.Node.{Node}
use Rattle.report.specs.declared.line.Line.{Line}
use Rattle.report.specs.Values.{Value, value_of, values, later, in_column, latest}
use Rattle.report.specs.Leaves.{first_in}
use Rattle.report.proofs.ValueLaws.{values_append}

-- the byte does not occur
pub first_none : (b : ℕ) (xs : List ℕ) (p : ℕ) → ((k : ℕ) → k < length xs → eqb (get_or xs k 0) b ≡ true → ⊥) → first_in b xs p ≡ None
first_none b [] p h = refl
first_none b (x ∷ xs) p h = here (eqb x b) refl (first_none b xs (p + 1) (λ k l. h (suc k) (omega arith)))
  where
    here : (t : Bool) → eqb x b ≡ t → first_in b xs (p + 1) ≡ None → ◌≡◌ {A = Option ℕ} (elim t [ true ↦ Some p | false ↦ first_in b xs (p + 1) ]) None
    here true e k = absurd (h 0 (omega arith) e)
    here false e k = k

-- it occurs at i, and not before
pub first_some : (b : ℕ) (xs : List ℕ) (p i : ℕ) → i < length xs → eqb (get_or xs i 0) b ≡ true → ((k : ℕ) → k < i → eqb (get_or xs k 0) b ≡ true → ⊥) → first_in b xs p ≡ Some (p + i)
first_some b [] p i l e h = absurd (omega arith)
first_some b (x ∷ xs) p zero l e h = ap (λ t. elim t [ true ↦ Some p | false ↦ first_in b xs (p + 1) ]) e ∙ ap (λ n. Some n) (omega arith)
first_some b (x ∷ xs) p (suc i) l e h = here (eqb x b) refl (first_some b xs (p + 1) i (omega arith) e (λ k m. h (suc k) (omega arith)))
  where
    here : (t : Bool) → eqb x b ≡ t → first_in b xs (p + 1) ≡ Some (p + 1 + i) → ◌≡◌ {A = Option ℕ} (elim t [ true ↦ Some p | false ↦ first_in b xs (p + 1) ]) (Some (p + suc i))
    here true d k = absurd (h 0 (omega arith) d)
    here false d k = k ∙ ap (λ n. Some n) (omega arith)

-- later and later
later_assoc : (x y z : Option ℤ) → later x (later y z) ≡ later (later x y) z
later_assoc x y None = refl
later_assoc x y (Some n) = refl

pub latest_append : (c : ℕ) (vs ws : List Value) → latest c (vs ++ ws) ≡ later (latest c vs) (latest c ws)
latest_append c [] ws = first_of_none (latest c ws)
  where
    first_of_none : (x : Option ℤ) → x ≡ later None x
    first_of_none None = refl
    first_of_none (Some n) = refl
latest_append c (v ∷ vs) ws = ap (later (in_column c v)) (latest_append c vs ws) ∙ later_assoc (in_column c v) (latest c vs) (latest c ws)

-- one line more
pub latest_more : (nodes : List Node) (c : ℕ) (ls : List Line) (l : Line) → latest c (values nodes (ls ++ l ∷ [])) ≡ later (latest c (values nodes ls)) (latest c (value_of nodes l))
latest_more nodes c ls l =
    ap (latest c) (values_append nodes ls (l ∷ []) ∙ ap (λ vs. values nodes ls ++ vs) (append-nil (value_of nodes l)))
    ∙ latest_append c (values nodes ls) (value_of nodes l)

is_later : (old new : Option ℤ) → option_or new old ≡ later old new
is_later old None = refl
is_later old (Some n) = refl

-- a value found so far, and what one line more enters
pub value_more : (nodes : List Node) (c : ℕ) (ls ms : List Line) (l : Line) (r n v : Option ℤ) → ms ≡ ls ++ l ∷ [] → r ≡ option_or n v → n ≡ latest c (value_of nodes l) → v ≡ latest c (values nodes ls) → r ≡ latest c (values nodes ms)
value_more nodes c ls ms l r n v e a b d =
    a ∙ is_later v n ∙ ap₂ later d b ∙ sym (latest_more nodes c ls l) ∙ ap (λ xs. latest c (values nodes xs)) (sym e)
