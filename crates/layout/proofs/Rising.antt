-- Links that are not astray rise, and stay in the table.
use Rattle.std.proofs.Common.{◌≡◌, ℕ, ◌<◌, ◌≤◌, false, ◌&&◌, ◌||◌, eqb, ltb, leb, List, length, ◌∙◌, inl, inr, arith}
use Rattle.std.proofs.lemmas.Bool.{or_parts, and_cases, not-false, eqb-true, eqb-false, leb-false, ltb-false, cases_lt}
use Rattle.packed.specs.declared.record.NodeRecord.{NodeRecord}
use Rattle.layout.specs.Shapes.{link_in, links_in}
use Rattle.layout.specs.Links.{Link, no_link, link_at, is_set, any_node, astray, childless, crowded, ill_linked}
use Rattle.layout.proofs.Any.{node_lacks, any_map}

-- c is no node, or one above i
abbrev pub Above : ℕ → ℕ → ℕ → Type 0
Above n i c = (c ≤ n) × (0 < c → i < c)

pub unset : (n : ℕ) → is_set n ≡ false → n ≡ 0
unset n h = eqb-true n 0 (not-false (eqb n 0) h)

pub positive : (n : ℕ) → eqb n 0 ≡ false → 0 < n
positive n h = elim (cases_lt 0 n) [ inl l ↦ l | inr l ↦ absurd (eqb-false n 0 h (omega arith)) ]

pub above : (n i c : ℕ) → astray n i c ≡ false → Above n i c
above n i c h = elim (and_cases (is_set c) (leb c i || ltb n c) h) [
  | inl e ↦ (omega (arith, unset c e), λ o. absurd (omega (arith, unset c e)))
  | inr e ↦
      let both = or_parts (leb c i) (ltb n c) e in
      (ltb-false n c both.1, λ _. leb-false c i both.0)
]

-- what a well linked node keeps
pub record Linked (ls : List Link) (i : ℕ) (l : Link) : Type 0 where
  pub child : Above (length ls) i l.child
  pub next : Above (length ls) i l.next
  pub needs : childless l.arity l.child ≡ false
  pub top : i ≡ 1 → l.next ≡ 0
  pub alone : crowded l.arity (link_at ls l.child).next ≡ false

top_of : (i n : ℕ) → (eqb i 1 && is_set n) ≡ false → i ≡ 1 → n ≡ 0
top_of i n h e = elim (and_cases (eqb i 1) (is_set n) h) [ inl f ↦ absurd (eqb-false i 1 f e) | inr f ↦ unset n f ]

pub linked : (ls : List Link) (i : ℕ) (l : Link) → ill_linked ls i l ≡ false → Linked ls i l
linked ls i l h =
    let n = length ls in
    let c = astray n i l.child in
    let x = astray n i l.next in
    let t = eqb i 1 && is_set l.next in
    let m = childless l.arity l.child in
    let w = crowded l.arity (link_at ls l.child).next in
    let a = or_parts (c || x) (t || (m || w)) h in
    let b = or_parts c x a.0 in
    let d = or_parts t (m || w) a.1 in
    let e = or_parts m w d.1 in
    record {
      child = above n i l.child b.0;
      next = above n i l.next b.1;
      needs = e.0;
      top = top_of i l.next d.0;
      alone = e.1;
    }

-- every node of the table is well linked
abbrev pub Rising : List Link → Type 0
Rising ls = (i : ℕ) → 0 < i → i ≤ length ls → Linked ls i (link_at ls i)

pub rising : (ls : List Link) → any_node (ill_linked ls) ls ≡ false → Rising ls
rising ls h i o l = linked ls i (link_at ls i) (node_lacks (ill_linked ls) ls h i no_link o l)

-- the same from the records
pub rising_in : (rs : List NodeRecord) → any_node (λ i r. ill_linked (links_in rs) i (link_in r)) rs ≡ false → Rising (links_in rs)
rising_in rs h = rising (links_in rs) (any_map (ill_linked (links_in rs)) link_in 0 rs ∙ h)
