-- The depth of a node: it has one at most, and the walk from the root finds one that is too great exactly where there is one.
use Rattle.std.proofs.Common.{◌≡◌, ℕ, zero, suc, ◌+◌, ◌-◌, ◌<◌, ◌≤◌, true, false, ◌||◌, ltb, List, length, sym, refl, ap, subst, inl, inr, arith}
use Rattle.std.proofs.lemmas.Bool.{or_cases, or_left, or_right, ltb-true, lt-ltb, cases_Bool, false≢true}
use Rattle.layout.specs.Links.{Link, no_link, link_at, leads, Depth, at_root, at_child, at_next, deeper, too_deep}
use Rattle.layout.proofs.Once.{OneTree, own_cases, own_child, own_next, own_le, same_source}

module _ (ls : List Link) (tree : OneTree ls) where
  -- what has a depth is a node
  pub depth_node : {k d : ℕ} → Depth ls k d → (0 < k) × (k ≤ length ls)
  depth_node at_root = (omega arith, tree.some)
  depth_node (at_child {i} p o) = let n = depth_node p in (o, (tree.rises i n.0 n.1).child.0)
  depth_node (at_next {i} p o) = let n = depth_node p in (o, (tree.rises i n.0 n.1).next.0)

  -- two nodes that lead to one are one
  same_node : (i j k : ℕ) → (0 < i) × (i ≤ length ls) → (0 < j) × (j ≤ length ls) → 1 < k → k ≤ length ls → 0 < leads k (link_at ls i) → 0 < leads k (link_at ls j) → i ≡ j
  same_node i j k hi hj o h a b =
      let e = same_source ls k (i - 1) (j - 1) no_link (tree.once k o h) (omega arith) (omega arith) a b in
      omega arith

  -- child and next of one node are two
  not_both : (i k : ℕ) → (0 < i) × (i ≤ length ls) → 1 < k → k ≤ length ls → (link_at ls i).child ≡ k → (link_at ls i).next ≡ k → ⊥
  not_both i k hi o h a b =
      omega (arith, tree.once k o h, own_le k ls (i - 1) no_link (omega arith), own_child k (link_at ls i) a, own_next k (link_at ls i) b, one_both)
    where
      one_both : 2 ≤ leads k (link_at ls i)
      one_both = omega (arith, own_child k (link_at ls i) a, own_next k (link_at ls i) b)

  -- a node that something leads to is not the root
  past_root : (i k : ℕ) → (0 < i) × (i ≤ length ls) → 0 < leads k (link_at ls i) → 0 < k → 1 < k
  past_root i k hi a o = elim (own_cases k (link_at ls i) a) [
    | inl e ↦ omega (arith, (tree.rises i hi.0 hi.1).child.1 (subst (λ n. 0 < n) (sym e) o))
    | inr e ↦ omega (arith, (tree.rises i hi.0 hi.1).next.1 (subst (λ n. 0 < n) (sym e) o))
  ]

  has_child : (i : ℕ) → 0 < leads (link_at ls i).child (link_at ls i)
  has_child i = omega (arith, own_child (link_at ls i).child (link_at ls i) refl)

  has_next : (i : ℕ) → 0 < leads (link_at ls i).next (link_at ls i)
  has_next i = omega (arith, own_next (link_at ls i).next (link_at ls i) refl)

  -- a node has one depth at most
  pub depth_unique : {k m d e : ℕ} → Depth ls k d → Depth ls m e → k ≡ m → d ≡ e
  depth_unique at_root at_root s = refl
  depth_unique at_root (at_child {i} q o) s = absurd (omega (arith, past_root i (link_at ls i).child (depth_node q) (has_child i) o))
  depth_unique at_root (at_next {i} q o) s = absurd (omega (arith, past_root i (link_at ls i).next (depth_node q) (has_next i) o))
  depth_unique (at_child {i} p o) at_root s = absurd (omega (arith, past_root i (link_at ls i).child (depth_node p) (has_child i) o))
  depth_unique (at_next {i} p o) at_root s = absurd (omega (arith, past_root i (link_at ls i).next (depth_node p) (has_next i) o))
  depth_unique (at_child {i} p o) (at_child {i = j} q r) s =
      let k = (link_at ls i).child in
      let t = past_root i k (depth_node p) (has_child i) o in
      ap (λ n. n + 1) (depth_unique p q (same_node i j k (depth_node p) (depth_node q) t (depth_node (at_child p o)).1 (has_child i) (subst (λ n. 0 < leads n (link_at ls j)) (sym s) (has_child j))))
  depth_unique (at_next {i} p o) (at_next {i = j} q r) s =
      let k = (link_at ls i).next in
      let t = past_root i k (depth_node p) (has_next i) o in
      depth_unique p q (same_node i j k (depth_node p) (depth_node q) t (depth_node (at_next p o)).1 (has_next i) (subst (λ n. 0 < leads n (link_at ls j)) (sym s) (has_next j)))
  depth_unique (at_child {i} p o) (at_next {i = j} q r) s =
      let k = (link_at ls i).child in
      let t = past_root i k (depth_node p) (has_child i) o in
      let l = (depth_node (at_child p o)).1 in
      let same = same_node i j k (depth_node p) (depth_node q) t l (has_child i) (subst (λ n. 0 < leads n (link_at ls j)) (sym s) (has_next j)) in
      absurd (not_both i k (depth_node p) t l refl (subst (λ n. (link_at ls n).next ≡ k) (sym same) (sym s)))
  depth_unique (at_next {i} p o) (at_child {i = j} q r) s =
      let k = (link_at ls i).next in
      let t = past_root i k (depth_node p) (has_next i) o in
      let l = (depth_node (at_next p o)).1 in
      let same = same_node i j k (depth_node p) (depth_node q) t l (has_next i) (subst (λ n. 0 < leads n (link_at ls j)) (sym s) (has_child j)) in
      absurd (not_both i k (depth_node p) t l (subst (λ n. (link_at ls n).child ≡ k) (sym same) (sym s)) refl)

  -- some node lies deeper than `most`
  abbrev pub Deeper : ℕ → Type 0
  Deeper most = (k : ℕ) × (d : ℕ) × Depth ls k d × (most < d)

  -- what the walk finds is there
  pub found_there : (most f d i : ℕ) → (0 < i → Depth ls i d) → deeper most ls f d i ≡ true → Deeper most
  found_there most zero d i p h = absurd (false≢true h)
  found_there most (suc f) d zero p h = absurd (false≢true h)
  found_there most (suc f) d (suc j) p h =
      let here : Depth ls (suc j) d = p (omega arith) in
      let c = deeper most ls f (d + 1) (link_at ls (suc j)).child in
      let x = deeper most ls f d (link_at ls (suc j)).next in
      elim (or_cases (ltb most d) (c || x) h) [
        | inl e ↦ (suc j, d, here, ltb-true most d e)
        | inr e ↦ elim (or_cases c x e) [
          | inl g ↦ found_there most f (d + 1) (link_at ls (suc j)).child (λ o. at_child here o) g
          | inr g ↦ found_there most f d (link_at ls (suc j)).next (λ o. at_next here o) g
        ]
      ]

  -- more fuel finds no less
  fuel_more : (most f g d i : ℕ) → f ≤ g → deeper most ls f d i ≡ true → deeper most ls g d i ≡ true
  fuel_more most zero g d i l h = absurd (false≢true h)
  fuel_more most (suc f) zero d i l h = absurd (omega arith)
  fuel_more most (suc f) (suc g) d zero l h = h
  fuel_more most (suc f) (suc g) d (suc j) l h =
      let c = deeper most ls f (d + 1) (link_at ls (suc j)).child in
      let x = deeper most ls f d (link_at ls (suc j)).next in
      let c' = deeper most ls g (d + 1) (link_at ls (suc j)).child in
      let x' = deeper most ls g d (link_at ls (suc j)).next in
      elim (or_cases (ltb most d) (c || x) h) [
        | inl e ↦ or_left (ltb most d) (c' || x') e
        | inr e ↦ or_right (ltb most d) (c' || x') (elim (or_cases c x e) [
          | inl a ↦ or_left c' x' (fuel_more most f g (d + 1) (link_at ls (suc j)).child (omega arith) a)
          | inr a ↦ or_right c' x' (fuel_more most f g d (link_at ls (suc j)).next (omega arith) a)
        ])
      ]

  by_child : (most f d i : ℕ) → 0 < i → deeper most ls f (d + 1) (link_at ls i).child ≡ true → deeper most ls (suc f) d i ≡ true
  by_child most f d zero o h = absurd (omega arith)
  by_child most f d (suc j) o h =
      or_right (ltb most d) _ (or_left (deeper most ls f (d + 1) (link_at ls (suc j)).child) (deeper most ls f d (link_at ls (suc j)).next) h)

  by_next : (most f d i : ℕ) → 0 < i → deeper most ls f d (link_at ls i).next ≡ true → deeper most ls (suc f) d i ≡ true
  by_next most f d zero o h = absurd (omega arith)
  by_next most f d (suc j) o h =
      or_right (ltb most d) _ (or_right (deeper most ls f (d + 1) (link_at ls (suc j)).child) (deeper most ls f d (link_at ls (suc j)).next) h)

  -- from a node that is found the walk leads back to the root
  from_root : (most f : ℕ) {k d : ℕ} → Depth ls k d → deeper most ls f d k ≡ true → deeper most ls (f + (k - 1)) 1 1 ≡ true
  from_root most f at_root h = fuel_more most f (f + (1 - 1)) 1 1 (omega arith) h
  from_root most f (at_child {i} {d} p o) h =
      let n = depth_node p in
      let up = (tree.rises i n.0 n.1).child.1 o in
      fuel_more most (suc f + (i - 1)) (f + ((link_at ls i).child - 1)) 1 1 (omega arith) (from_root most (suc f) p (by_child most f d i n.0 h))
  from_root most f (at_next {i} {d} p o) h =
      let n = depth_node p in
      let up = (tree.rises i n.0 n.1).next.1 o in
      fuel_more most (suc f + (i - 1)) (f + ((link_at ls i).next - 1)) 1 1 (omega arith) (from_root most (suc f) p (by_next most f d i n.0 h))

  here_deep : (most d k : ℕ) → 0 < k → most < d → deeper most ls 1 d k ≡ true
  here_deep most d zero o h = absurd (omega arith)
  here_deep most d (suc j) o h = or_left (ltb most d) _ (lt-ltb most d h)

  -- a node that lies too deep is found
  pub there_found : (most : ℕ) → Deeper most → too_deep most ls ≡ true
  there_found most (k, d, p, h) =
      let n = depth_node p in
      fuel_more most (1 + (k - 1)) (length ls) 1 1 (omega arith) (from_root most 1 p (here_deep most d k n.0 h))

  -- where every node has a depth that is not too great, none lies too deep
  pub all_shallow : (most : ℕ) → ((k : ℕ) → 0 < k → k ≤ length ls → (d : ℕ) × Depth ls k d × (d ≤ most)) → too_deep most ls ≡ false
  all_shallow most h = elim (cases_Bool (too_deep most ls)) [
    | inr e ↦ e
    | inl e ↦
        let w = found_there most (length ls) 1 1 (λ _. at_root) e in
        let n = depth_node w.2 in
        let s = h w.0 n.0 n.1 in
        absurd (omega (arith, depth_unique w.2 s.1 refl))
  ]
