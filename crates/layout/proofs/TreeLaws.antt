-- The tree of a table whose nodes hang together.
use Rattle.std.proofs.Common.{◌≡◌, ℕ, zero, suc, ◌+◌, ◌-◌, ◌<◌, ◌≤◌, max, false, ◌||◌, eqb, ltb, ◌⊎◌, List, [], ◌∷◌, ◌++◌, length, get_or, ℤ, Option, sym, refl, ap, ◌∙◌, subst, ap₂, inl, inr, arith}
use Rattle.std.proofs.lemmas.List.{append-nil, length-map}
use Rattle.std.proofs.lemmas.Bool.{or_parts, ltb-false, ne_eqb, cases_eq}
use Rattle.layout.specs.declared.node.Relation.{Relation}
use Rattle.layout.specs.declared.node.Shape.{Shape}
use Rattle.layout.specs.declared.node.Shape.TheVariants.{Field, Mark, Sequence, Choice, Optional, Check}
use Rattle.layout.specs.declared.node.Node.{Node}
use Rattle.layout.specs.Links.{Link, no_link, link_at, one_if, leads, links_to, childless, crowded, deeper, too_deep}
use Rattle.layout.specs.Shapes.{names_none, arity_of, link_of, links}
use Rattle.layout.specs.Trees.{Operand, Part, Parts, field, mark, check, sequence, choice, optional, end, ◌then◌, blank, node_at, child_of, child_number, next_number, operand_of, part_of, parts_in, parts_at, part_at, tree_of, Stands, nothing, siblings, numbers, numbers_of, entry, outline, outline_of, height, height_of, SomePart, OnePart, Filled, AllFilled, times, TreeOf}
use Rattle.layout.proofs.Views.{get_view}
use Rattle.layout.proofs.Rising.{Above, Rising, Linked, unset, positive}
use Rattle.layout.proofs.Once.{Once, one_since, own_child, own_next, own_cases, own_le, own_some, same_source}

-- the link of node i is that of its node
pub link_at_lem : (nodes : List Node) (i : ℕ) → link_at (links nodes) i ≡ link_of (node_at nodes i)
link_at_lem nodes i = get_view link_of nodes (i - 1) blank

module _ (nodes : List Node) (constants : List ℤ) (rises : Rising (links nodes)) where
  abbrev count : ℕ
  count = length nodes

  abbrev child_at : ℕ → ℕ
  child_at i = child_number (node_at nodes i).shape

  abbrev next_at : ℕ → ℕ
  next_at i = next_number (node_at nodes i)

  -- node i is well linked
  pub linked_at : (i : ℕ) → 0 < i → i ≤ count → Linked (links nodes) i (link_of (node_at nodes i))
  linked_at i o h = subst (Linked (links nodes) i) (link_at_lem nodes i) (rises i o (subst (λ n. i ≤ n) (sym (length-map nodes link_of)) h))

  pub child_above : (i : ℕ) → 0 < i → i ≤ count → Above count i (child_at i)
  child_above i o h = subst (λ n. Above n i (child_at i)) (length-map nodes link_of) (linked_at i o h).child

  pub next_above : (i : ℕ) → 0 < i → i ≤ count → Above count i (next_at i)
  next_above i o h = subst (λ n. Above n i (next_at i)) (length-map nodes link_of) (linked_at i o h).next

  -- its child, where it has one, is a node
  shape_named : (s : Shape) → childless (arity_of s) (child_number s) ≡ false → names_none (child_of s) ≡ false
  shape_named (Field kind column) h = refl
  shape_named (Mark byte) h = refl
  shape_named (Sequence child) h = h
  shape_named (Choice child) h = h
  shape_named (Optional child) h = h
  shape_named (Check relation left right) h = refl

  pub child_named : (i : ℕ) → 0 < i → i ≤ count → names_none (child_of (node_at nodes i).shape) ≡ false
  child_named i o h = shape_named (node_at nodes i).shape (linked_at i o h).needs

  abbrev made : ℕ → Parts → Parts → Parts
  made i below rest = part_of constants i (node_at nodes i).shape below then rest

  abbrev within : ℕ → ℕ → Type 0
  within f i = 0 < i → count < f + i

  -- fuel that is enough gives the same parts
  pub stable : (d f i : ℕ) → i ≤ count → within d i → within f i → parts_in nodes constants d i ≡ parts_in nodes constants f i
  stable zero zero i h k l = refl
  stable zero (suc f) zero h k l = refl
  stable zero (suc f) (suc j) h k l = absurd (omega (arith, k (omega arith)))
  stable (suc d) zero zero h k l = refl
  stable (suc d) zero (suc j) h k l = absurd (omega (arith, l (omega arith)))
  stable (suc d) (suc f) zero h k l = refl
  stable (suc d) (suc f) (suc j) h k l =
      let c = child_above (suc j) (omega arith) h in
      let x = next_above (suc j) (omega arith) h in
      let k' : count < suc d + suc j = k (omega arith) in
      let l' : count < suc f + suc j = l (omega arith) in
      ap₂ (made (suc j))
      (stable d f (child_at (suc j)) c.0 (λ o. omega (arith, c.1 o)) (λ o. omega (arith, c.1 o)))
      (stable d f (next_at (suc j)) x.0 (λ o. omega (arith, x.1 o)) (λ o. omega (arith, x.1 o)))

  -- a node and its later siblings: that node, and the siblings from its next on
  pub parts_at_lem : (i : ℕ) → 0 < i → i ≤ count → parts_at nodes constants i ≡ (part_at nodes constants i then parts_at nodes constants (next_at i))
  parts_at_lem zero o h = absurd (omega arith)
  parts_at_lem (suc j) o h =
      let c = child_above (suc j) o h in
      let x = next_above (suc j) o h in
      ap₂ (made (suc j))
      (stable count (suc count) (child_at (suc j)) c.0 (λ o. omega (arith, c.1 o)) (λ o. omega (arith, c.1 o)))
      (stable count (suc count) (next_at (suc j)) x.0 (λ o. omega (arith, x.1 o)) (λ o. omega (arith, x.1 o)))

  pub root_alone : 0 < count → parts_at nodes constants 1 ≡ (tree_of nodes constants then end)
  root_alone o = parts_at_lem 1 (omega arith) o ∙ ap (λ i. tree_of nodes constants then parts_at nodes constants i) ((linked_at 1 (omega arith) o).top refl)

  stands_in : (f i : ℕ) → i ≤ count → within f i → Stands nodes constants i (parts_in nodes constants f i)
  stands_in zero zero h l = nothing
  stands_in zero (suc j) h l = absurd (omega (arith, l (omega arith)))
  stands_in (suc f) zero h l = nothing
  stands_in (suc f) (suc j) h l =
      let c = child_above (suc j) (omega arith) h in
      let x = next_above (suc j) (omega arith) h in
      let l' : count < suc f + suc j = l (omega arith) in
      siblings (omega arith) h (stands_in f (child_at (suc j)) c.0 (λ o. omega (arith, c.1 o))) (stands_in f (next_at (suc j)) x.0 (λ o. omega (arith, x.1 o)))

  same_stand : {i j : ℕ} {ps qs : Parts} → Stands nodes constants i ps → Stands nodes constants j qs → i ≡ j → ps ≡ qs
  same_stand nothing nothing e = refl
  same_stand nothing (siblings o h a b) e = absurd (omega arith)
  same_stand (siblings o h a b) nothing e = absurd (omega arith)
  same_stand (siblings {i} o h a b) (siblings {i = j} {below = below} {rest = rest} p k c d) e =
      ap₂ (made i) (same_stand a c (ap child_at e)) (same_stand b d (ap next_at e)) ∙ ap (λ n. made n below rest) e

  parts_none : (f : ℕ) → parts_in nodes constants f 0 ≡ end
  parts_none zero = refl
  parts_none (suc f) = refl

  -- what holds of every part and what is below it holds of a node's: where it has no child, nothing is below
  at_part : (P : Part → Parts → Type 0) (i : ℕ) → ((k p : ℕ) (c : Option ℕ) → P (field i k p c) end) → ((b : ℕ) → P (mark i b) end) → ((r : Relation) (l : ℕ) (o : Operand) → P (check i r l o) end) → ((ps : Parts) → P (sequence i ps) ps) → ((ps : Parts) → P (choice i ps) ps) → ((ps : Parts) → P (optional i ps) ps) → (f : ℕ) (s : Shape) → P (part_of constants i s (parts_in nodes constants f (child_number s))) (parts_in nodes constants f (child_number s))
  at_part P i a b c d e g f (Field kind column) = subst (P (field i kind.code kind.parameter column)) (sym (parts_none f)) (a kind.code kind.parameter column)
  at_part P i a b c d e g f (Mark byte) = subst (P (mark i byte)) (sym (parts_none f)) (b byte)
  at_part P i a b c d e g f (Sequence child) = d (parts_in nodes constants f child)
  at_part P i a b c d e g f (Choice child) = e (parts_in nodes constants f child)
  at_part P i a b c d e g f (Optional child) = g (parts_in nodes constants f child)
  at_part P i a b c d e g f (Check relation left right) = subst (P (check i relation left (operand_of constants right))) (sym (parts_none f)) (c relation left (operand_of constants right))

  -- a part's numbers: its own, and those below it
  part_numbers : (i f : ℕ) (s : Shape) → numbers (part_of constants i s (parts_in nodes constants f (child_number s))) ≡ i ∷ numbers_of (parts_in nodes constants f (child_number s))
  part_numbers i = at_part (λ q below. numbers q ≡ i ∷ numbers_of below) i (λ _ _ _. refl) (λ _. refl) (λ _ _ _. refl) (λ _. refl) (λ _. refl) (λ _. refl)

  -- how often k stands among node i, its later siblings and what is below them
  abbrev occurs : ℕ → ℕ → ℕ → ℕ
  occurs f k i = times k (numbers_of (parts_in nodes constants f i))

  times_append : (k : ℕ) (xs ys : List ℕ) → times k (xs ++ ys) ≡ times k xs + times k ys
  times_append k [] ys = omega arith
  times_append k (x ∷ xs) ys = omega (arith, times_append k xs ys)

  occurs_at : (f k i : ℕ) → 0 < i → occurs (suc f) k i ≡ one_if (eqb i k) + (occurs f k (child_at i) + occurs f k (next_at i))
  occurs_at f k zero o = absurd (omega arith)
  occurs_at f k (suc j) o =
      let below = numbers_of (parts_in nodes constants f (child_at (suc j))) in
      let rest = numbers_of (parts_in nodes constants f (next_at (suc j))) in
      ap (λ ns. times k (ns ++ rest)) (part_numbers (suc j) f (node_at nodes (suc j)).shape)
      ∙ ap (λ n. one_if (eqb (suc j) k) + n) (times_append k below rest)

  occurs_none : (f k : ℕ) → occurs f k 0 ≡ 0
  occurs_none f k = ap (λ ps. times k (numbers_of ps)) (parts_none f)

  zero_if : (a b : ℕ) → (a ≡ b → ⊥) → one_if (eqb a b) ≡ 0
  zero_if a b h = ap one_if (ne_eqb a b h)

  -- a link is no node, or one above
  at_link : (P : ℕ → Type 0) (i c : ℕ) → Above count i c → P 0 → (i < c → c ≤ count → P c) → P c
  at_link P i zero a nil up = nil
  at_link P i (suc c) a nil up = up (a.1 (omega arith)) a.0

  -- a number that is neither node i nor above it, or that no node has, does not occur
  occurs_not : (f k i : ℕ) → i ≤ count → (k < i) ⊎ (count < k) → occurs f k i ≡ 0
  occurs_not zero k i h w = refl
  occurs_not (suc f) k zero h w = refl
  occurs_not (suc f) k (suc j) h w =
      let c = child_above (suc j) (omega arith) h in
      let x = next_above (suc j) (omega arith) h in
      let differs : suc j ≡ k → ⊥ = λ e. elim w [ inl a ↦ omega arith | inr a ↦ omega arith ] in
      let on : (n : ℕ) → suc j < n → (k < n) ⊎ (count < k) = λ n l. elim w [ inl a ↦ inl (omega arith) | inr a ↦ inr a ] in
      let below = at_link (λ n. occurs f k n ≡ 0) (suc j) (child_at (suc j)) c (occurs_none f k) (λ l m. occurs_not f k (child_at (suc j)) m (on (child_at (suc j)) l)) in
      let rest = at_link (λ n. occurs f k n ≡ 0) (suc j) (next_at (suc j)) x (occurs_none f k) (λ l m. occurs_not f k (next_at (suc j)) m (on (next_at (suc j)) l)) in
      omega (arith, occurs_at f k (suc j) (omega arith), zero_if (suc j) k differs, below, rest)

  -- node k occurs once among itself, its later siblings and what is below them
  occurs_self : (f k : ℕ) → 0 < k → k ≤ count → occurs (suc f) k k ≡ 1
  occurs_self f k o h =
      let c = child_above k o h in
      let x = next_above k o h in
      let below = at_link (λ n. occurs f k n ≡ 0) k (child_at k) c (occurs_none f k) (λ l m. occurs_not f k (child_at k) m (inl l)) in
      let rest = at_link (λ n. occurs f k n ≡ 0) k (next_at k) x (occurs_none f k) (λ l m. occurs_not f k (next_at k) m (inl l)) in
      omega (arith, occurs_at f k k o, one_since k k refl, below, rest)

  module _ (once : Once (links nodes)) where
    -- node i leads to node k so often
    abbrev leads_of : ℕ → ℕ → ℕ
    leads_of i k = leads k (link_of (node_at nodes i))

    leads_is : (i k : ℕ) → leads k (link_at (links nodes) i) ≡ leads_of i k
    leads_is i k = ap (leads k) (link_at_lem nodes i)

    once_at : (k : ℕ) → 1 < k → k ≤ count → links_to k (links nodes) ≡ 1
    once_at k o h = once k o (omega (arith, length-map nodes link_of))

    -- the one node that leads to k: it is below k, and leads to it once
    source : (k : ℕ) → 1 < k → k ≤ count → (j : ℕ) × (0 < j) × (j < k) × (leads_of j k ≡ 1)
    source k o h =
        let r = own_some k (links nodes) no_link (omega (arith, once_at k o h)) in
        let j = r.0 + 1 in
        let long = length-map nodes link_of in
        let in-range : j ≤ count = omega (arith, r.1) in
        let back : j - 1 ≡ r.0 = omega arith in
        let at : 0 < leads_of j k = subst (λ n. 0 < n) (leads_is j k) (subst (λ n. 0 < leads k (get_or (links nodes) n no_link)) (sym back) r.2) in
        let most : leads_of j k ≤ 1 = subst (λ n. n ≤ 1) (leads_is j k) (omega (arith, own_le k (links nodes) (j - 1) no_link (omega (arith, r.1)), once_at k o h)) in
        let below : j < k = elim (own_cases k (link_of (node_at nodes j)) at) [
          | inl e ↦ omega (arith, (child_above j (omega arith) in-range).1 (omega (arith, e)))
          | inr e ↦ omega (arith, (next_above j (omega arith) in-range).1 (omega (arith, e)))
        ] in
        (j, omega arith, below, omega arith)

    -- where i is not the one node that leads to k, its links lead elsewhere
    leads_not : (i j k : ℕ) → 0 < i → i ≤ count → 0 < j → j ≤ count → 1 < k → k ≤ count → leads_of j k ≡ 1 → (i ≡ j → ⊥) → leads_of i k ≡ 0
    leads_not i j k oi hi oj hj o h e n = elim (cases_eq (leads_of i k) 0) [
      | inl z ↦ z
      | inr z ↦
          let long = length-map nodes link_of in
          let a : 0 < leads k (link_at (links nodes) i) = omega (arith, leads_is i k) in
          let b : 0 < leads k (link_at (links nodes) j) = omega (arith, leads_is j k) in
          absurd (n (omega (arith, same_source (links nodes) k (i - 1) (j - 1) no_link (once_at k o h) (omega arith) (omega arith) a b)))
    ]

    not_child : (i k : ℕ) → leads_of i k ≡ 0 → child_at i ≡ k → ⊥
    not_child i k z e = omega (arith, own_child k (link_of (node_at nodes i)) e)

    not_next : (i k : ℕ) → leads_of i k ≡ 0 → next_at i ≡ k → ⊥
    not_next i k z e = omega (arith, own_next k (link_of (node_at nodes i)) e)

    some_fuel : (f k : ℕ) → 0 < f → 0 < k → k ≤ count → occurs f k k ≡ 1
    some_fuel zero k l o h = absurd (omega arith)
    some_fuel (suc f) k l o h = occurs_self f k o h

    -- k occurs where the node that leads to it does
    occurs_source : (f i j k : ℕ) → i ≤ count → within f i → 0 < j → j < k → 1 < k → k ≤ count → leads_of j k ≡ 1 → (i ≡ k → ⊥) → occurs f k i ≡ occurs f j i
    occurs_source zero i j k h l oj jk o hk e n = refl
    occurs_source (suc f) zero j k h l oj jk o hk e n = refl
    occurs_source (suc f) (suc m) j k h l oj jk o hk e n =
        let i = suc m in
        let oi : 0 < suc m = omega arith in
        let c = child_above i oi h in
        let x = next_above i oi h in
        let enough : count < suc f + suc m = l oi in
        let on : (q : ℕ) → Above count i q → (q ≡ k → ⊥) → occurs f k q ≡ occurs f j q =
        λ q a d. occurs_source f q j k a.0 (λ p. omega (arith, a.1 p)) oj jk o hk e d in
        -- at the node that leads to k, by the link q
        let hit : (q : ℕ) → Above count i q → q ≡ k → occurs f k q ≡ 1 + occurs f j q = λ q a s. (
        let enough' : 0 < f = omega (arith, a.1 (omega arith)) in
        ap (occurs f k) s ∙ some_fuel f k enough' (omega arith) hk ∙ ap (λ z. 1 + z) (sym (ap (occurs f j) s ∙ occurs_not f j k hk (inl jk)))) in
        let at-k = occurs_at f k i oi in
        let at_j = occurs_at f j i oi in
        let not-k = zero_if i k n in
        elim (cases_eq i j) [
          | inr d ↦
              let z = leads_not i j k oi h oj (omega arith) o hk e d in
              omega (arith, at-k, at_j, not-k, zero_if i j d, on (child_at i) c (not_child i k z), on (next_at i) x (not_next i k z))
          | inl s ↦
              let own-one : leads_of i k ≡ 1 = subst (λ q. leads_of q k ≡ 1) (sym s) e in
              elim (own_cases k (link_of (node_at nodes i)) (omega arith)) [
                | inl cc' ↦ omega (arith, at-k, at_j, not-k, one_since i j s, hit (child_at i) c cc', on (next_at i) x (λ w. omega (arith, own_child k (link_of (node_at nodes i)) cc', own_next k (link_of (node_at nodes i)) w)))
                | inr xx ↦ omega (arith, at-k, at_j, not-k, one_since i j s, hit (next_at i) x xx, on (child_at i) c (λ w. omega (arith, own_child k (link_of (node_at nodes i)) w, own_next k (link_of (node_at nodes i)) xx)))
              ]
        ]

    -- every node occurs once, b bounding its number
    occurs_once : (f b k : ℕ) → within f 1 → k ≤ b → 0 < k → k ≤ count → occurs f k 1 ≡ 1
    occurs_once f zero k w l o h = absurd (omega arith)
    occurs_once f (suc b) k w l o h = elim (cases_eq 1 k) [
      | inl e ↦ subst (λ n. occurs f n 1 ≡ 1) e (some_fuel f 1 (omega (arith, w (omega arith))) (omega arith) (omega arith))
      | inr n ↦
          let s = source k (omega arith) h in
          occurs_source f 1 s.0 k (omega arith) w s.1 s.2 (omega arith) h s.3 n
          ∙ occurs_once f b s.0 w (omega (arith, s.2)) s.1 (omega (arith, s.2))
    ]

  part_outline : (d i f : ℕ) (s : Shape) → outline d (part_of constants i s (parts_in nodes constants f (child_number s))) ≡ entry i d ∷ outline_of (d + 1) (parts_in nodes constants f (child_number s))
  part_outline d i = at_part (λ q below. outline d q ≡ entry i d ∷ outline_of (d + 1) below) i (λ _ _ _. refl) (λ _. refl) (λ _ _ _. refl) (λ _. refl) (λ _. refl) (λ _. refl)

  -- a node, what is below it, and its later siblings
  pub outline_at : (d i : ℕ) → 0 < i → i ≤ count → outline_of d (parts_at nodes constants i) ≡ entry i d ∷ (outline_of (d + 1) (parts_at nodes constants (child_at i)) ++ outline_of d (parts_at nodes constants (next_at i)))
  outline_at d i o h =
      ap (outline_of d) (parts_at_lem i o h)
      ∙ ap (λ es. es ++ outline_of d (parts_at nodes constants (next_at i))) (part_outline d i (suc count) (node_at nodes i).shape)

  part_height : (i f : ℕ) (s : Shape) → height (part_of constants i s (parts_in nodes constants f (child_number s))) ≡ 1 + height_of (parts_in nodes constants f (child_number s))
  part_height i = at_part (λ q below. height q ≡ 1 + height_of below) i (λ _ _ _. refl) (λ _. refl) (λ _ _ _. refl) (λ _. refl) (λ _. refl) (λ _. refl)

  -- where no node from i on lies too deep, the levels from i on are few
  few_levels : (most f d i : ℕ) → deeper most (links nodes) f d i ≡ false → height_of (parts_in nodes constants f i) ≤ (most + 1) - d
  few_levels most zero d i h = omega arith
  few_levels most (suc f) d zero h = omega arith
  few_levels most (suc f) d (suc j) h =
      let l = link_at (links nodes) (suc j) in
      let a = or_parts (ltb most d) (deeper most (links nodes) f (d + 1) l.child || deeper most (links nodes) f d l.next) h in
      let b = or_parts (deeper most (links nodes) f (d + 1) l.child) (deeper most (links nodes) f d l.next) a.1 in
      let same = link_at_lem nodes (suc j) in
      let c = few_levels most f (d + 1) (child_at (suc j)) (subst (λ (k : Link). deeper most (links nodes) f (d + 1) k.child ≡ false) same b.0) in
      let x = few_levels most f d (next_at (suc j)) (subst (λ (k : Link). deeper most (links nodes) f d k.next ≡ false) same b.1) in
      omega (arith, ltb-false most d a.0, c, x, part_height (suc j) f (node_at nodes (suc j)).shape)

  -- what is below a node is as its arity says
  some_below : (f c : ℕ) → 0 < c → SomePart (parts_in nodes constants (suc f) c)
  some_below f zero o = absurd (omega arith)
  some_below f (suc j) o = tt

  one_below : (f c : ℕ) → 0 < c → next_at c ≡ 0 → OnePart (parts_in nodes constants (suc f) c)
  one_below f zero o e = absurd (omega arith)
  one_below f (suc j) o e = subst (λ ps. OnePart (part_of constants (suc j) (node_at nodes (suc j)).shape (parts_in nodes constants f (child_at (suc j))) then ps)) (sym (ap (parts_in nodes constants f) e ∙ parts_none f)) tt

  part_filled : (i f : ℕ) (s : Shape) → (0 < child_number s → 0 < f) → childless (arity_of s) (child_number s) ≡ false → crowded (arity_of s) (next_at (child_number s)) ≡ false → AllFilled (parts_in nodes constants f (child_number s)) → Filled (part_of constants i s (parts_in nodes constants f (child_number s)))
  part_filled i f (Field kind column) more c w all = tt
  part_filled i f (Mark byte) more c w all = tt
  part_filled i zero (Sequence child) more c w all = absurd (omega (arith, more (positive child c)))
  part_filled i (suc f) (Sequence child) more c w all = (some_below f child (positive child c), all)
  part_filled i zero (Choice child) more c w all = absurd (omega (arith, more (positive child c)))
  part_filled i (suc f) (Choice child) more c w all = (some_below f child (positive child c), all)
  part_filled i zero (Optional child) more c w all = absurd (omega (arith, more (positive child c)))
  part_filled i (suc f) (Optional child) more c w all = (one_below f child (positive child c) (unset (next_at child) w), all)
  part_filled i f (Check relation left right) more c w all = tt

  all_filled : (f i : ℕ) → i ≤ count → within f i → AllFilled (parts_in nodes constants f i)
  all_filled zero i h l = tt
  all_filled (suc f) zero h l = tt
  all_filled (suc f) (suc j) h l =
      let o : 0 < suc j = omega arith in
      let k = linked_at (suc j) o h in
      let c = child_above (suc j) o h in
      let x = next_above (suc j) o h in
      let enough : count < suc f + suc j = l o in (
        part_filled (suc j) f (node_at nodes (suc j)).shape (λ p. omega (arith, c.1 p)) k.needs (ap (λ (m : Link). crowded (arity_of (node_at nodes (suc j)).shape) m.next) (sym (link_at_lem nodes (child_at (suc j)))) ∙ k.alone)
            (all_filled f (child_at (suc j)) c.0 (λ p. omega (arith, c.1 p))),
        all_filled f (next_at (suc j)) x.0 (λ p. omega (arith, x.1 p)),
      )

  -- a table whose nodes hang together stands for one tree
  pub tree_of_lem : (most : ℕ) → 0 < count → Once (links nodes) → too_deep most (links nodes) ≡ false → TreeOf most nodes constants
  tree_of_lem most o once shallow =
      let alone = root_alone o in
      let tree = tree_of nodes constants in
      let enough : within (suc count) 1 = λ _. omega arith in
      let as_parts : (k : ℕ) → times k (numbers tree) ≡ occurs (suc count) k 1 = λ k. ap (times k) (sym (append-nil (numbers tree))) ∙ ap (λ ps. times k (numbers_of ps)) (sym alone) in
      let here : Stands nodes constants 1 (tree then end) = subst (Stands nodes constants 1) alone (stands_in (suc count) 1 o enough) in
      let levels : height_of (parts_in nodes constants count 1) ≤ (most + 1) - 1 = few_levels most count 1 1 (subst (λ n. deeper most (links nodes) n 1 1 ≡ false) (length-map nodes link_of) shallow) in
      let same-levels : height_of (parts_in nodes constants count 1) ≡ max (height tree) 0 = ap height_of (stable count (suc count) 1 o (λ _. omega arith) enough ∙ alone) in
      record {
        stands = here;
        alone = λ ps s. same_stand s here refl;
        once = λ k a b. as_parts k ∙ occurs_once once (suc count) k k enough (omega arith) a b;
        below = as_parts 0 ∙ occurs_not (suc count) 0 1 o (inl (omega arith));
        above = λ k a. as_parts k ∙ occurs_not (suc count) k 1 o (inr a);
        shallow = omega (arith, levels, same-levels);
        filled = (subst AllFilled alone (all_filled (suc count) 1 o enough)).0;
      }
