-- What the numbers of a layout's table lead to, whatever number is looked up.
use Rattle.std.proofs.Common.{◌≡◌, ℕ, zero, suc, ◌-◌, ◌<◌, ◌≤◌, false, List, length, ℤ, Some, None, Option, sym, refl, ap, ◌∙◌, subst, inl, inr, arith}
use Rattle.std.proofs.lemmas.Bool.{cases_lt}
use Rattle.std.proofs.lemmas.List.{get_or_past}
use Rattle.std.specs.List.{list_any}
use Rattle.std.specs.Option.{unwrap_or}
use Rattle.layout.specs.declared.node.Shape.{Shape}
use Rattle.layout.specs.declared.node.Node.{Node}
use Rattle.layout.specs.Links.{hang_ill}
use Rattle.layout.specs.Shapes.{names_none, links}
use Rattle.layout.specs.Trees.{or_zero, blank, node_at, child_of, child_number, next_number, parts_at}
use Rattle.layout.proofs.Any.{lacks}
use Rattle.layout.proofs.Rising.{Rising, positive}
use Rattle.layout.proofs.LoadLaws.{sound_rising}
use Rattle.layout.proofs.TreeLaws.{child_above, child_named, next_above, linked_at, parts_at_lem}
use Rattle.reader.specs.Models.{parts_from}

module _ (nodes : List Node) (constants : List ℤ) (hangs : hang_ill 16 (links nodes) ≡ false) (numbered : list_any (λ n. names_none n.next) nodes ≡ false) where
  rises : Rising (links nodes)
  rises = sound_rising 16 nodes hangs

  -- a number that names a node, or none
  from_is : (o : Option ℕ) → names_none o ≡ false → or_zero o ≤ length nodes → parts_from nodes constants o ≡ parts_at nodes constants (or_zero o)
  from_is None n h = refl
  from_is (Some i) n h = sym (parts_at_lem nodes constants rises i (positive i n) h)

  -- a number past the table leads to a blank mark, and 0 to the root
  at_any : (P : ℕ → Node → Type 0) (i : ℕ) → ((j : ℕ) → 0 < j → j ≤ length nodes → P j (node_at nodes j)) → ((j : ℕ) → P j blank) → ((n : Node) → n ≡ node_at nodes 1 → 0 < length nodes → P 0 n) → P i (node_at nodes i)
  at_any P zero here past root = elim (cases_lt 0 (length nodes)) [
    | inl h ↦ root (node_at nodes 0) refl h
    | inr h ↦ subst (P 0) (sym (get_or_past nodes 0 blank h)) (past 0)
  ]
  at_any P (suc i) here past root = elim (cases_lt (suc i - 1) (length nodes)) [
    | inl h ↦ here (suc i) (omega arith) (omega arith)
    | inr h ↦ subst (P (suc i)) (sym (get_or_past nodes (suc i - 1) blank h)) (past (suc i))
  ]

  abbrev NextIs : ℕ → Node → Type 0
  NextIs i n = parts_from nodes constants n.next ≡ parts_at nodes constants (next_number n)

  next_here : (i : ℕ) → 0 < i → i ≤ length nodes → NextIs i (node_at nodes i)
  next_here i o h =
      from_is (node_at nodes i).next (lacks (λ (n : Node). names_none n.next) nodes numbered (i - 1) blank (omega arith)) (next_above nodes constants rises i o h).0

  -- the later siblings of a node
  pub next_is : (i : ℕ) → parts_from nodes constants (node_at nodes i).next ≡ parts_at nodes constants (next_number (node_at nodes i))
  next_is i = at_any NextIs i next_here (λ j. refl) (λ n e o. subst (NextIs 0) (sym e) (next_here 1 (omega arith) (omega arith)))

  abbrev ChildIs : ℕ → Node → Type 0
  ChildIs i n = parts_from nodes constants (child_of n.shape) ≡ parts_at nodes constants (child_number n.shape)

  child_here : (i : ℕ) → 0 < i → i ≤ length nodes → ChildIs i (node_at nodes i)
  child_here i o h = from_is (child_of (node_at nodes i).shape) (child_named nodes constants rises i o h) (child_above nodes constants rises i o h).0

  -- what is below a node
  pub child_is : (i c : ℕ) (s : Shape) → (node_at nodes i).shape ≡ s → child_of s ≡ Some c → parts_from nodes constants (Some c) ≡ parts_at nodes constants c
  child_is i c s e d =
      let k = ap child_of e ∙ d in
      sym (ap (parts_from nodes constants) k) ∙ at_any ChildIs i child_here (λ j. refl) (λ n e o. subst (ChildIs 0) (sym e) (child_here 1 (omega arith) (omega arith))) ∙ ap (λ o. parts_at nodes constants (or_zero o)) k

  abbrev NextLater : ℕ → Node → Type 0
  NextLater i n = i < 65536 → i < unwrap_or n.next 65536

  later_some : (o : Option ℕ) (i : ℕ) → names_none o ≡ false → (0 < or_zero o → i < or_zero o) → i < 65536 → i < unwrap_or o 65536
  later_some None i n h l = l
  later_some (Some r) i n h l = h (positive r n)

  never : (o : Option ℕ) → names_none o ≡ false → or_zero o ≡ 0 → 0 < unwrap_or o 65536
  never None n h = omega arith
  never (Some r) n h = positive r n

  named : (i : ℕ) → 0 < i → i ≤ length nodes → names_none (node_at nodes i).next ≡ false
  named i o h = lacks (λ (n : Node). names_none n.next) nodes numbered (i - 1) blank (omega arith)

  -- a sibling's number is above its own
  pub next_later : (i : ℕ) → i < 65536 → i < unwrap_or (node_at nodes i).next 65536
  next_later i =
      at_any NextLater i
      (λ j o h. later_some (node_at nodes j).next j (named j o h) (next_above nodes constants rises j o h).1)
      (λ j l. l)
      (λ n e o l. subst (λ (n : Node). 0 < unwrap_or n.next 65536) (sym e) (never (node_at nodes 1).next (named 1 (omega arith) (omega arith)) ((linked_at nodes constants rises 1 (omega arith) (omega arith)).top refl)))

  -- a number of a child is one
  child_some : (s : Shape) (c : ℕ) → child_of s ≡ Some c → names_none (child_of s) ≡ false → 0 < c
  child_some s c e n = positive c (sym (ap names_none e) ∙ n)

  pub child_set : (i c : ℕ) (s : Shape) → (node_at nodes i).shape ≡ s → child_of s ≡ Some c → 0 < c
  child_set i c s e d =
      child_some s c d (sym (ap (λ x. names_none (child_of x)) e) ∙ at_any (λ j n. names_none (child_of n.shape) ≡ false) i (child_named nodes constants rises) (λ j. refl) (λ n k o. ap (λ (n : Node). names_none (child_of n.shape)) k ∙ child_named nodes constants rises 1 (omega arith) (omega arith)))
