-- What an accepted file gives, and what the refusal of the depth says.
use Rattle.std.proofs.Common.{◌≡◌, ℕ, zero, suc, ◌+◌, ◌-◌, ◌<◌, ◌≤◌, true, false, cond, ◌||◌, eqb, List, [], ◌∷◌, ◌++◌, map, length, ℤ, Some, None, Ok, Err, Option, Result, unwrap_or, sym, refl, ap, ◌∙◌, subst, inl, inr, append_assoc, arith, MatchResult, vec_items}
use Rattle.std.proofs.lemmas.Bool.{or_parts, both_ways, cases_lt, cond-false, cond_both, ne_eqb, false≢true}
use Rattle.std.specs.List.{list_any}
use Rattle.std.specs.Result.{is_err}
use Rattle.fields.specs.declared.cause.Sort.{Sort}
use Rattle.packed.specs.declared.record.NodeRecord.{NodeRecord}
use Rattle.layout.specs.declared.node.Node.{Node}
use Rattle.layout.specs.declared.node.Entry.{Entry}
use Rattle.layout.specs.declared.node.Shape.TheVariants.{Mark}
use Rattle.layout.specs.declared.refusal.Refusal.{Refusal}
use Rattle.layout.specs.declared.refusal.Refusal.TheVariants.{Size, Bits, Links, Stranded, Kind, Range, Depth}
use Rattle.layout.specs.declared.table.Layout.{Layout}
use Rattle.layout.specs.Links.{Link, any_node, ill_linked, stranded, too_deep, hang_ill, Depths, Shallow, Deep, Depth as At, at_root, at_child, at_next}
use Rattle.layout.specs.Shapes.{shape_of, node_of, links, links_in, is_unknown, unknown_by, unknown, KnownShape, Known}
use Rattle.layout.specs.Trees.{node_at, child_number, next_number, parts_at, entry, outline_of, TreeOf}
use Rattle.layout.specs.Judged.{limits, judged}
use Rattle.layout.specs.Files.{records_in, Sized, refusal, answer}
use Rattle.layout.specs.Loading.{DepthTold}
use Rattle.layout.proofs.Rising.{Above, Rising, positive, rising}
use Rattle.layout.proofs.Once.{once, OneTree, tree_in}
use Rattle.layout.proofs.Depths.{depth_unique, found_there, there_found}
use Rattle.layout.proofs.DepthLoop.{reached}
use Rattle.layout.proofs.TreeLaws.{tree_of_lem, outline_at}
use Rattle.layout.proofs.Accepted.{by_shape, passed, passed_deep}
use Rattle.layout.proofs.FileLaws.{records_count, judged_file}

-- nodes that hang together stand for one tree
pub sound_tree : (most : ℕ) (nodes : List Node) (constants : List ℤ) → 1 ≤ length nodes → hang_ill most (links nodes) ≡ false → TreeOf most nodes constants
sound_tree most nodes constants o h =
    let ls = links nodes in
    let a = or_parts (any_node (ill_linked ls) ls) (any_node (stranded ls) ls || too_deep most ls) h in
    let b = or_parts (any_node (stranded ls) ls) (too_deep most ls) a.1 in
    tree_of_lem nodes constants (rising ls a.0) most o (once ls b.0) b.1

-- so does every layout
pub layout_tree : (l : Layout) → TreeOf 16 (vec_items l.nodes) (vec_items l.constants)
layout_tree l = sound_tree 16 (vec_items l.nodes) (vec_items l.constants) (omega (arith, l.few.0, l.nodes.ok.0)) l.hangs

module _ (sorts : ℕ → ℕ → Sort) where
  -- a record whose kind is known
  known_record : (r : NodeRecord) → unknown sorts r ≡ false → KnownShape sorts (unwrap_or (shape_of r) (Mark 0))
  known_record r =
      by_shape (λ s. unknown_by sorts s ≡ false → KnownShape sorts (unwrap_or s (Mark 0))) r
      (λ h u. both_ways (is_unknown (sorts r.kind r.parameter)) h (ap is_unknown u))
      (λ h. tt)
      (λ h. tt)
      (λ h. tt)
      (λ h. tt)
      (λ h. tt)
      (λ h. tt)

  pub all_known : (rs : List NodeRecord) → list_any (unknown sorts) rs ≡ false → Known sorts (map node_of rs)
  all_known [] h = tt
  all_known (r ∷ rs) h =
      let both = or_parts (unknown sorts r) (list_any (unknown sorts) rs) h in
      (known_record r both.0, all_known rs both.1)

module _ (ls : List Link) (tree : OneTree ls) where
  -- every node has a depth, b bounding its number
  has_depth : (b i : ℕ) → i ≤ b → 1 ≤ i → i ≤ length ls → (d : ℕ) × At ls i d
  has_depth zero i l o h = absurd (omega arith)
  has_depth (suc b) i l o h = elim (reached 0 ls tree i o h (i - 1) (omega arith)) [
    | inl e ↦ (1, subst (λ n. At ls n 1) (sym e) at_root)
    | inr s ↦
        let j = s.0 in
        let up = has_depth b j (omega (arith, s.2)) s.1 (omega (arith, s.2)) in
        elim s.3 [
          | inl e ↦ (up.0 + 1, subst (λ n. At ls n (up.0 + 1)) e (at_child up.1 (omega (arith, e))))
          | inr e ↦ (up.0, subst (λ n. At ls n up.0) e (at_next up.1 (omega (arith, e))))
        ]
  ]

  pub depths : Depths ls
  depths = record { each = λ i o h. has_depth i i (omega arith) o h; only = λ i d e p q. depth_unique ls tree p q refl }

  pub shallow : (most : ℕ) → too_deep most ls ≡ false → Shallow most ls
  shallow most h i d p = elim (cases_lt most d) [
    | inl l ↦ absurd (both_ways (too_deep most ls) h (there_found ls tree most (i, d, p, l)))
    | inr l ↦ l
  ]

  pub deep : (most : ℕ) → too_deep most ls ≡ true → Deep most ls
  deep most h = found_there ls tree most (length ls) 1 1 (λ _. at_root) h

module _ (sorts : ℕ → ℕ → Sort) (bytes : List ℕ) (n k : ℕ) (sized : Sized bytes n k) where
  told : (o : Option Refusal) → judged limits sorts k (records_in bytes) ≡ o → DepthTold bytes (answer o)
  told None e =
      let rs = records_in bytes in
      let p = passed limits sorts k rs e in
      let tree = tree_in rs (omega (arith, records_count bytes n k sized, sized.some)) p.0.rising p.0.once in
      (depths (links_in rs) tree, shallow (links_in rs) tree 16 p.1)
  told (Some Size) e = tt
  told (Some Bits) e = tt
  told (Some Links) e = tt
  told (Some Stranded) e = tt
  told (Some Kind) e = tt
  told (Some Range) e = tt
  told (Some Depth) e =
      let rs = records_in bytes in
      let p = passed_deep limits sorts k rs e in
      let tree = tree_in rs (omega (arith, records_count bytes n k sized, sized.some)) p.0.rising p.0.once in
      (depths (links_in rs) tree, deep (links_in rs) tree 16 p.1)

  pub depth_told : DepthTold bytes (answer (refusal sorts bytes))
  depth_told = subst (λ o. DepthTold bytes (answer o)) (judged_file bytes n k sized sorts) (told (judged limits sorts k (records_in bytes)) refl)

  pub accepted_known : refusal sorts bytes ≡ None → Known sorts (map node_of (records_in bytes))
  accepted_known h = all_known sorts (records_in bytes) (passed limits sorts k (records_in bytes) (judged_file bytes n k sized sorts ∙ h)).0.known

-- done means that there is no refusal
pub none_refused : (o : Option Refusal) → Ok tt ≡ answer o → o ≡ None
none_refused None e = refl
none_refused (Some x) e = absurd (false≢true (ap is_err e))

-- what an accepted answer gives
pub when_accepted : (r : Result (Unit {0}) Refusal) (o : Option Refusal) (A C B : Type 0) → r ≡ answer o → MatchResult r (λ _. A) (λ _. B) → (o ≡ None → A → C) → MatchResult r (λ _. C) (λ _. B)
when_accepted (Ok x) o A C B e h f = f (none_refused o e) h
when_accepted (Err x) o A C B e h f = h

-- the links of nodes that hang together rise
pub sound_rising : (most : ℕ) (nodes : List Node) → hang_ill most (links nodes) ≡ false → Rising (links nodes)
sound_rising most nodes h =
    let ls = links nodes in
    rising ls (or_parts (any_node (ill_linked ls) ls) (any_node (stranded ls) ls || too_deep most ls) h).0

-- how many nodes are left from i on; 0 is no node
abbrev pub left_from : ℕ → ℕ → ℕ
left_from n i = cond (eqb i 0) 0 (suc n - i)

pub link_falls : (n i c : ℕ) → 0 < i → i ≤ n → Above n i c → left_from n c < left_from n i
link_falls n i c o h a =
    let here : left_from n i ≡ suc n - i = cond-false (eqb i 0) 0 (suc n - i) (ne_eqb i 0 (λ e. omega arith)) in
    cond_both (eqb c 0) 0 (suc n - c) (λ m. m < left_from n i) (λ _. omega (arith, here)) (λ e. omega (arith, here, a.0, a.1 (positive c e)))

-- an outline that goes on: a node, what is below it, and its later siblings
pub outline_more : {first behind all : List Entry} (most : ℕ) (nodes : List Node) (constants : List ℤ) (before : List Entry) (d i c x : ℕ) → hang_ill most (links nodes) ≡ false → 0 < i → i ≤ length nodes → c ≡ child_number (node_at nodes i).shape → x ≡ (next_number (node_at nodes i)) → first ≡ before ++ entry i d ∷ [] → behind ≡ first ++ outline_of (d + 1) (parts_at nodes constants c) → all ≡ behind ++ outline_of d (parts_at nodes constants x) → all ≡ before ++ outline_of d (parts_at nodes constants i)
outline_more {first} {behind} most nodes constants before d i c x hang o h ce xe f b a =
    let below = outline_of (d + 1) (parts_at nodes constants (child_number (node_at nodes i).shape)) in
    let rest = outline_of d (parts_at nodes constants (next_number (node_at nodes i))) in
    a
    ∙ ap (λ n. behind ++ outline_of d (parts_at nodes constants n)) xe
    ∙ ap (λ es. es ++ rest) (b ∙ ap (λ n. first ++ outline_of (d + 1) (parts_at nodes constants n)) ce ∙ ap (λ es. es ++ below) f)
    ∙ regroup before (entry i d) below rest
    ∙ sym (ap (λ es. before ++ es) (outline_at nodes constants (sound_rising most nodes hang) d i o h))
  where
    regroup : (xs : List Entry) (e : Entry) (ys zs : List Entry) → ((xs ++ e ∷ []) ++ ys) ++ zs ≡ xs ++ (e ∷ (ys ++ zs))
    regroup xs e ys zs = simp append_assoc
