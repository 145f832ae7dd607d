-- A node that is child or next of exactly one.
use Rattle.std.proofs.Common.{◌≡◌, ℕ, zero, suc, ◌+◌, ◌<◌, ◌≤◌, Bool, true, false, not, eqb, ltb, ◌⊎◌, List, [], ◌∷◌, length, get_or, sym, refl, ap, ◌∙◌, inl, inr, arith}
use Rattle.std.proofs.lemmas.Bool.{and_cases, not-false, eqb-true, eq-eqb, ltb-false, cases_order}
use Rattle.packed.specs.declared.record.NodeRecord.{NodeRecord}
use Rattle.layout.specs.Shapes.{link_in, links_in}
use Rattle.layout.specs.Links.{Link, no_link, one_if, leads, links_to, any_node, ill_linked, stranded}
use Rattle.std.proofs.lemmas.List.{length-map}
use Rattle.layout.proofs.Rising.{Rising, rising_in}
use Rattle.layout.proofs.Any.{node_lacks, any_map}

pub one_since : (a b : ℕ) → a ≡ b → one_if (eqb a b) ≡ 1
one_since a b h = ap one_if (eq-eqb a b h)

pub own_child : (k : ℕ) (l : Link) → l.child ≡ k → leads k l ≡ 1 + one_if (eqb l.next k)
own_child k l e = ap (λ n. n + one_if (eqb l.next k)) (one_since l.child k e)

pub own_next : (k : ℕ) (l : Link) → l.next ≡ k → leads k l ≡ one_if (eqb l.child k) + 1
own_next k l e = ap (λ n. one_if (eqb l.child k) + n) (one_since l.next k e)

one_cases : (a b : ℕ) → 0 < one_if (eqb a b) → a ≡ b
one_cases a b h = of (eqb a b) refl h
  where
    of : (t : Bool) → t ≡ eqb a b → 0 < one_if t → a ≡ b
    of true e h = eqb-true a b (sym e)
    of false e h = absurd (omega arith)

pub own_cases : (k : ℕ) (l : Link) → 0 < leads k l → (l.child ≡ k) ⊎ (l.next ≡ k)
own_cases k l h = elim (cases_order (one_if (eqb l.child k)) 0) [
  | inl e ↦ inr (one_cases l.next k (omega arith))
  | inr s ↦ inl (one_cases l.child k (elim s [ inl f ↦ absurd (omega arith) | inr f ↦ f ]))
]

-- one node's links are among all
pub own_le : (k : ℕ) (ls : List Link) (i : ℕ) (d : Link) → i < length ls → leads k (get_or ls i d) ≤ links_to k ls
own_le k [] i d h = absurd (omega arith)
own_le k (l ∷ ls) zero d h = omega arith
own_le k (l ∷ ls) (suc i) d h = omega (arith, own_le k ls i d (omega arith))

pub own_two : (k : ℕ) (ls : List Link) (i j : ℕ) (d : Link) → i < j → j < length ls → leads k (get_or ls i d) + leads k (get_or ls j d) ≤ links_to k ls
own_two k [] i j d h l = absurd (omega arith)
own_two k (l ∷ ls) i zero d h m = absurd (omega arith)
own_two k (l ∷ ls) zero (suc j) d h m = omega (arith, own_le k ls j d (omega arith))
own_two k (l ∷ ls) (suc i) (suc j) d h m = omega (arith, own_two k ls i j d (omega arith) (omega arith))

-- a node that is linked to is linked to by some node
pub own_some : (k : ℕ) (ls : List Link) (d : Link) → 0 < links_to k ls → (i : ℕ) × (i < length ls) × (0 < leads k (get_or ls i d))
own_some k [] d h = absurd (omega arith)
own_some k (l ∷ ls) d h = elim (cases_order (leads k l) 0) [
  | inl e ↦ let r = own_some k ls d (omega arith) in (suc r.0, omega (arith, r.1), r.2)
  | inr s ↦ (0, omega arith, elim s [ inl f ↦ absurd (omega arith) | inr f ↦ f ])
]

-- every node past the root is child or next of exactly one
abbrev pub Once : List Link → Type 0
Once ls = (k : ℕ) → 1 < k → k ≤ length ls → links_to k ls ≡ 1

pub once : (ls : List Link) → any_node (stranded ls) ls ≡ false → Once ls
once ls h k o l = elim (and_cases (ltb 1 k) (not (eqb (links_to k ls) 1)) (node_lacks (stranded ls) ls h k no_link (omega arith) l)) [
  | inl a ↦ absurd (omega (arith, ltb-false 1 k a))
  | inr a ↦ eqb-true (links_to k ls) 1 (not-false (eqb (links_to k ls) 1) a)
]

-- the same from the records
pub once_in : (rs : List NodeRecord) → any_node (λ i r. stranded (links_in rs) i (link_in r)) rs ≡ false → Once (links_in rs)
once_in rs h = once (links_in rs) (any_map (stranded (links_in rs)) link_in 0 rs ∙ h)

-- the only node that leads to k
pub same_source : (ls : List Link) (k i j : ℕ) (d : Link) → links_to k ls ≡ 1 → i < length ls → j < length ls → 0 < leads k (get_or ls i d) → 0 < leads k (get_or ls j d) → i ≡ j
same_source ls k i j d e hi hj a b = elim (cases_order i j) [
  | inl s ↦ s
  | inr s ↦ elim s [ inl lt ↦ absurd (omega (arith, own_two k ls i j d lt hj)) | inr gt ↦ absurd (omega (arith, own_two k ls j i d gt hi)) ]
]

-- the nodes hang together as one tree, however deep
pub record OneTree (ls : List Link) : Type 0 where
  pub some : 0 < length ls
  pub rises : Rising ls
  pub once : Once ls

-- the same from the records
pub tree_in : (rs : List NodeRecord) → 0 < length rs → any_node (λ i r. ill_linked (links_in rs) i (link_in r)) rs ≡ false → any_node (λ i r. stranded (links_in rs) i (link_in r)) rs ≡ false → OneTree (links_in rs)
tree_in rs o rising once = record { some = omega (arith, length-map rs link_in); rises = rising_in rs rising; once = once_in rs once }
