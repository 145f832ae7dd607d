-- What holds of a table that meets no refusal.
use Rattle.std.proofs.Common.{◌≡◌, ℕ, ◌-◌, ◌<◌, Bool, true, false, not, ◌&&◌, ◌||◌, eqb, ltb, leb, List, [], ◌∷◌, map, Some, None, Option, unwrap_or, sym, refl, ap, ◌∙◌, ap₂, inl, inr, arith}
use Rattle.std.proofs.lemmas.Bool.{or_parts, or_from, and_parts, and_from, not-false, not_from_true, cond_both, leb-true, le-leb, ltb-false, or_cases, eqb-true, false≢true}
use Rattle.std.proofs.lemmas.Option.{none-some}
use Rattle.std.specs.List.{list_any}
use Rattle.fields.specs.declared.cause.Sort.{Sort}
use Rattle.packed.specs.declared.record.NodeRecord.{NodeRecord}
use Rattle.layout.specs.declared.refusal.Refusal.{Refusal}
use Rattle.layout.specs.declared.refusal.Refusal.TheVariants.{Bits, Links, Stranded, Kind, Range, Depth}
use Rattle.layout.specs.declared.node.Side.TheVariants.{Column, Constant}
use Rattle.layout.specs.declared.node.Shape.{Shape}
use Rattle.layout.specs.declared.node.Shape.TheVariants.{Field, Mark, Sequence, Choice, Optional, Check}
use Rattle.layout.specs.Refusals.{number_of, or_else}
use Rattle.layout.specs.Links.{is_set, any_node, ill_linked, stranded, too_deep}
use Rattle.layout.specs.Shapes.{names_none, relation_of, side_of, shape_of, node_of, any_set, stray_by, stray, arity_of, link_in, links, links_in, unknown, within, is_side, outside_by, outside, misplaced_column, misplaced_side, misplaced}
use Rattle.layout.specs.Trees.{some_number, or_zero, child_number}
use Rattle.layout.specs.Judged.{Limits, judged}
use Rattle.layout.proofs.Rising.{unset, positive}

-- what holds of every shape that a record may have holds of its own
pub by_shape : (P : Option Shape → Type 0) (r : NodeRecord) → P (Some (Field (record { code = r.kind; parameter = r.parameter }) (some_number r.column))) → P (Some (Mark r.parameter)) → P (Some (Sequence r.child)) → P (Some (Choice r.child)) → P (Some (Optional r.child)) → P (Some (Check (relation_of r.kind) r.column (side_of r.parameter))) → P None → P (shape_of r)
by_shape P r field mark sequence choice optional check none =
    cond_both (eqb r.shape 1) _ _ P (λ _. field)
    (λ _. cond_both (eqb r.shape 2) _ _ P (λ _. mark)
    (λ _. cond_both (eqb r.shape 3) _ _ P (λ _. sequence)
    (λ _. cond_both (eqb r.shape 4) _ _ P (λ _. choice)
    (λ _. cond_both (eqb r.shape 5) _ _ P (λ _. optional)
    (λ _. cond_both (eqb r.shape 7) _ _ P (λ _. check) (λ _. none))))))

-- a node without stray bits has the child that its record names
clean_child : (r : NodeRecord) → stray r ≡ false → child_number (unwrap_or (shape_of r) (Mark 0)) ≡ r.child
clean_child r =
    by_shape (λ s. stray_by s r ≡ false → child_number (unwrap_or s (Mark 0)) ≡ r.child) r
    (λ h. sym (unset r.child (or_parts (is_set r.child) (any_set (r.rest ∷ [])) h).0))
    (λ h.
    let a = or_parts (is_set r.kind) (any_set (r.column ∷ r.child ∷ r.rest ∷ [])) h in
    let b = or_parts (is_set r.column) (any_set (r.child ∷ r.rest ∷ [])) a.1 in
    sym (unset r.child (or_parts (is_set r.child) (any_set (r.rest ∷ [])) b.1).0))
    (λ _. refl)
    (λ _. refl)
    (λ _. refl)
    (λ h. sym (unset r.child (or_parts (is_set r.child) (any_set (r.rest ∷ [])) h).0))
    (λ h. absurd (false≢true (sym h)))

-- a number is what it names, and 0 where it names none
number_named : (n : ℕ) → or_zero (some_number n) ≡ n
number_named n = cond_both (eqb n 0) None (Some n) (λ o. or_zero o ≡ n) (λ z. sym (eqb-true n 0 z)) (λ _. refl)

named : (n : ℕ) → names_none (some_number n) ≡ false
named n = cond_both (eqb n 0) None (Some n) (λ o. names_none o ≡ false) (λ _. refl) (λ z. z)

-- the nodes hang as their records do
pub same_links : (rs : List NodeRecord) → list_any stray rs ≡ false → links (map node_of rs) ≡ links_in rs
same_links [] h = refl
same_links (r ∷ rs) h =
    let both = or_parts (stray r) (list_any stray rs) h in
    ap₂ ◌∷◌ (ap₂ (λ (c x : ℕ). record { arity = arity_of (node_of r).shape; child = c; next = x }) (clean_child r both.0) (number_named r.next)) (same_links rs both.1)

-- no node has 0 for its next
pub all_named : (rs : List NodeRecord) → list_any (λ n. names_none n.next) (map node_of rs) ≡ false
all_named [] = refl
all_named (r ∷ rs) = or_from (names_none (some_number r.next)) (list_any (λ n. names_none n.next) (map node_of rs)) (named r.next) (all_named rs)

-- a right side in range stands for a column or a constant that is there
side_placed : (columns k p : ℕ) → columns < 64 → is_side columns k p ≡ true → misplaced_side columns k (side_of p) ≡ false
side_placed columns k p few h =
    cond_both (leb 64 p) (Constant (p - 64)) (Column p) (λ s. misplaced_side columns k s ≡ false)
    (λ big. not_from_true (ltb (p - 64) k) (elim (or_cases (within 1 columns p) (within 64 127 p && ltb (p - 64) k) h) [
      | inl w ↦ absurd (omega (arith, leb-true 64 p big, leb-true p columns (and_parts (leb 1 p) (leb p columns) w).1))
      | inr w ↦ (and_parts (within 64 127 p) (ltb (p - 64) k) w).1
    ]))
    (λ small. not_from_true (within 1 columns p) (elim (or_cases (within 1 columns p) (within 64 127 p && ltb (p - 64) k) h) [
      | inl w ↦ w
      | inr w ↦ absurd (false≢true (sym small ∙ (and_parts (leb 64 p) (leb p 127) (and_parts (within 64 127 p) (ltb (p - 64) k) w).0).0))
    ]))

-- a column that is not too great is one, or is missing
column_placed : (columns n : ℕ) → ltb columns n ≡ false → misplaced_column columns (some_number n) ≡ false
column_placed columns n h =
    cond_both (eqb n 0) None (Some n) (λ o. misplaced_column columns o ≡ false) (λ _. refl)
    (λ z. not_from_true (within 1 columns n) (and_from (leb 1 n) (leb n columns) (le-leb 1 n (positive n z)) (le-leb n columns (ltb-false columns n h))))

placed : (columns k : ℕ) → columns < 64 → (r : NodeRecord) → outside columns k r ≡ false → misplaced columns k (unwrap_or (shape_of r) (Mark 0)) ≡ false
placed columns k few r =
    by_shape (λ s. outside_by columns k s r ≡ false → misplaced columns k (unwrap_or s (Mark 0)) ≡ false) r
    (λ h. column_placed columns r.column h)
    (λ _. refl)
    (λ _. refl)
    (λ _. refl)
    (λ _. refl)
    (λ h.
    let a = or_parts (not (within 1 4 r.kind)) (not (within 1 columns r.column) || not (is_side columns k r.parameter)) h in
    let b = or_parts (not (within 1 columns r.column)) (not (is_side columns k r.parameter)) a.1 in
    or_from (not (within 1 columns r.column)) (misplaced_side columns k (side_of r.parameter)) b.0 (side_placed columns k r.parameter few (not-false (is_side columns k r.parameter) b.1)))
    (λ _. refl)

pub all_placed : (columns k : ℕ) → columns < 64 → (rs : List NodeRecord) → list_any (outside columns k) rs ≡ false → list_any (λ n. misplaced columns k n.shape) (map node_of rs) ≡ false
all_placed columns k few [] h = refl
all_placed columns k few (r ∷ rs) h =
    let both = or_parts (outside columns k r) (list_any (outside columns k) rs) h in
    or_from (misplaced columns k (node_of r).shape) (list_any (λ n. misplaced columns k n.shape) (map node_of rs)) (placed columns k few r both.0) (all_placed columns k few rs both.1)

-- none of the refusals of a table
pub record Passed (most : Limits) (sorts : ℕ → ℕ → Sort) (k : ℕ) (rs : List NodeRecord) : Type 0 where
  pub clean : list_any stray rs ≡ false
  pub rising : any_node (λ i r. ill_linked (links_in rs) i (link_in r)) rs ≡ false
  pub once : any_node (λ i r. stranded (links_in rs) i (link_in r)) rs ≡ false
  pub known : list_any (unknown sorts) rs ≡ false
  pub inside : list_any (outside most.columns k) rs ≡ false

-- the number of what is told, and 8 where nothing is
abbrev rank : Option Refusal → ℕ
rank None = 8
rank (Some e) = number_of e

-- what is told with a later number has passed the test
or_else_past : (b : Bool) (e : Refusal) (later o : Option Refusal) → number_of e < rank o → or_else b e later ≡ o → (b ≡ false) × (later ≡ o)
or_else_past true e later o l h = absurd (omega (arith, ap rank h))
or_else_past false e later o l h = (refl, h)

module _ (most : Limits) (sorts : ℕ → ℕ → Sort) (k : ℕ) (rs : List NodeRecord) where
  abbrev deep : Bool
  deep = too_deep most.depth (links_in rs)

  -- what all but the last leave
  abbrev five : Option Refusal → Option Refusal
  five last =
      or_else (list_any stray rs) Bits
      (or_else (any_node (λ i r. ill_linked (links_in rs) i (link_in r)) rs) Links
      (or_else (any_node (λ i r. stranded (links_in rs) i (link_in r)) rs) Stranded
      (or_else (list_any (unknown sorts) rs) Kind
      (or_else (list_any (outside most.columns k) rs) Range last))))

  five_passed : (last o : Option Refusal) → 6 < rank o → five last ≡ o → Passed most sorts k rs × (last ≡ o)
  five_passed last o l h =
      let a = or_else_past _ Bits _ o (omega arith) h in
      let b = or_else_past _ Links _ o (omega arith) a.1 in
      let c = or_else_past _ Stranded _ o (omega arith) b.1 in
      let d = or_else_past _ Kind _ o (omega arith) c.1 in
      let e = or_else_past _ Range _ o (omega arith) d.1 in
      (record { clean = a.0; rising = b.0; once = c.0; known = d.0; inside = e.0 }, e.1)

  pub passed : judged most sorts k rs ≡ None → Passed most sorts k rs × (deep ≡ false)
  passed h =
      let p = five_passed (or_else deep Depth None) None (omega arith) h in
      (p.0, (or_else_past deep Depth None None (omega arith) p.1).0)

  pub passed_deep : judged most sorts k rs ≡ Some Depth → Passed most sorts k rs × (deep ≡ true)
  passed_deep h =
      let p = five_passed (or_else deep Depth None) (Some Depth) (omega arith) h in
      (p.0, last deep p.1)
    where
      last : (b : Bool) → or_else b Depth None ≡ Some Depth → b ≡ true
      last true h = refl
      last false h = absurd (none-some Depth h)
