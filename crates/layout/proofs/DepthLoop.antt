-- Depths worked out in one pass over the node numbers.
use Rattle.std.proofs.Common.{◌≡◌, ℕ, ◌+◌, ◌-◌, ◌<◌, ◌≤◌, true, false, ◌⊎◌, List, length, get_or, set, sym, ap, ◌∙◌, subst, inl, inr, arith}
use Rattle.std.proofs.lemmas.List.{length-set, get_or-set_same, get_or-set_other}
use Rattle.std.proofs.lemmas.Bool.{cases_eq, cases_lt}
use Rattle.layout.specs.Links.{Link, no_link, link_at, leads, Depth, at_root, at_child, at_next, too_deep}
use Rattle.layout.proofs.Once.{OneTree, own_cases, own_some}
use Rattle.layout.proofs.Depths.{there_found, all_shallow}

-- node j has k as child or next
abbrev Leads : List Link → ℕ → ℕ → Type 0
Leads ls j k = ((link_at ls j).child ≡ k) ⊎ ((link_at ls j).next ≡ k)

-- k is the root, or hangs on one of the first i nodes
abbrev Reached : List Link → ℕ → ℕ → Type 0
Reached ls i k = (k ≡ 1) ⊎ ((j : ℕ) × (0 < j) × (j ≤ i) × Leads ls j k)

-- after the first i nodes: the depths of what hangs on them are noted, and theirs are not too great
pub record Noted (most : ℕ) (ls : List Link) (ds : List ℕ) (i : ℕ) : Type 0 where
  pub room : length ls < length ds
  pub known : (k : ℕ) → 0 < k → k ≤ length ls → Reached ls i k → Depth ls k (get_or ds k 0)
  pub few : (k : ℕ) → 0 < k → k ≤ i → (d : ℕ) × Depth ls k d × (d ≤ most)

module _ (most : ℕ) (ls : List Link) (tree : OneTree ls) where
  pub noted_none : (ds : List ℕ) → length ls < length ds → get_or ds 1 0 ≡ 1 → Noted most ls ds 0
  noted_none ds h e =
      record {
        room = h;
        known = λ k o l r. elim r [
          | inl s ↦ subst (λ n. Depth ls n (get_or ds n 0)) (sym s) (subst (Depth ls 1) (sym e) at_root)
          | inr s ↦ absurd (omega (arith, s.1, s.2))
        ];
        few = λ k o l. absurd (omega arith);
      }

  -- every node is the root or hangs on one before it
  pub reached : (k : ℕ) → 0 < k → k ≤ length ls → (i : ℕ) → k ≤ i + 1 → Reached ls i k
  reached k o h i l = elim (cases_eq k 1) [
    | inl e ↦ inl e
    | inr n ↦
        let r = own_some k ls no_link (omega (arith, tree.once k (omega arith) h)) in
        let j = r.0 + 1 in
        let back : j - 1 ≡ r.0 = omega arith in
        let leads-it : 0 < leads k (link_at ls j) = subst (λ n. 0 < leads k (get_or ls n no_link)) (sym back) r.2 in
        let node = tree.rises j (omega arith) (omega (arith, r.1)) in
        let how = own_cases k (link_at ls j) leads-it in
        let before : j < k = elim how [
          | inl e ↦ omega (arith, node.child.1 (omega (arith, e)))
          | inr e ↦ omega (arith, node.next.1 (omega (arith, e)))
        ] in
        inr (j, omega arith, omega arith, how)
  ]

  pub noted_here : (ds : List ℕ) (i : ℕ) → Noted most ls ds i → i < length ls → Depth ls (i + 1) (get_or ds (i + 1) 0)
  noted_here ds i n h = n.known (i + 1) (omega arith) (omega arith) (reached (i + 1) (omega arith) (omega arith) i (omega arith))

  pub noted_more : (ds : List ℕ) (i : ℕ) → Noted most ls ds i → i < length ls → get_or ds (i + 1) 0 ≤ most → Noted most ls (set (set ds (link_at ls (i + 1)).child (get_or ds (i + 1) 0 + 1)) (link_at ls (i + 1)).next (get_or ds (i + 1) 0)) (i + 1)
  noted_more ds i n h low =
      let d = get_or ds (i + 1) 0 in
      let c = (link_at ls (i + 1)).child in
      let x = (link_at ls (i + 1)).next in
      let first = set ds c (d + 1) in
      let here = noted_here ds i n h in
      let long = length-set ds c (d + 1) in
      record {
        room = omega (arith, n.room, long, length-set first x d);
        known = λ k o l r. elim (cases_eq x k) [
          | inl e ↦ subst (Depth ls k) (sym (ap (λ m. get_or (set first m d) k 0) e ∙ get_or-set_same first k d 0 (omega (arith, n.room, long)))) (subst (λ m. Depth ls m d) e (at_next here (omega (arith, e))))
          | inr nx ↦ elim (cases_eq c k) [
            | inl e ↦ subst (Depth ls k) (sym (get_or-set_other first x k d 0 (λ e. nx (sym e)) ∙ (ap (λ m. get_or (set ds m (d + 1)) k 0) e ∙ get_or-set_same ds k (d + 1) 0 (omega (arith, n.room))))) (subst (λ m. Depth ls m (d + 1)) e (at_child here (omega (arith, e))))
            | inr nc ↦ subst (Depth ls k) (sym (get_or-set_other first x k d 0 (λ e. nx (sym e)) ∙ get_or-set_other ds c k (d + 1) 0 (λ e. nc (sym e)))) (n.known k o l (earlier k nc nx r))
          ]
        ];
        few = λ k o l. elim (cases_lt i k) [
          | inl lt ↦ let e : i + 1 ≡ k = omega arith in (d, subst (λ m. Depth ls m d) e here, low)
          | inr le ↦ n.few k o le
        ];
      }
    where
      earlier : (k : ℕ) → ((link_at ls (i + 1)).child ≡ k → ⊥) → ((link_at ls (i + 1)).next ≡ k → ⊥) → Reached ls (i + 1) k → Reached ls i k
      earlier k nc nx (inl e) = inl e
      earlier k nc nx (inr (j, o, l, how)) = elim (cases_eq j (i + 1)) [
        | inl e ↦ absurd (elim (subst (λ m. Leads ls m k) e how) [ inl a ↦ nc a | inr a ↦ nx a ])
        | inr e ↦ inr (j, o, omega arith, how)
      ]

  pub noted_deep : (ds : List ℕ) (i : ℕ) → Noted most ls ds i → i < length ls → most < get_or ds (i + 1) 0 → too_deep most ls ≡ true
  noted_deep ds i n h deep = there_found ls tree most (i + 1, get_or ds (i + 1) 0, noted_here ds i n h, deep)

  pub noted_all : (ds : List ℕ) (i : ℕ) → Noted most ls ds i → length ls ≤ i → too_deep most ls ≡ false
  noted_all ds i n h = all_shallow ls tree most (λ k o l. n.few k o (omega arith))
