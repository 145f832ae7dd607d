-- A turn keeps the open nodes nested, the place within the row, and the lines within the reach.
use Rattle.std.proofs.Common.{◌≡◌, ℕ, ◌+◌, ◌≤◌, if◌then◌else◌, Bool, true, false, List, [], ◌∷◌, ◌++◌, length, take, drop, ℤ, pos, Some, None, Ok, Err, Option, sym, refl, ap, subst, arith, length-append}
use Rattle.std.proofs.lemmas.List.{length_push, length-set, length-take-le}
use Rattle.std.proofs.lemmas.Bool.{false≢true}
use Rattle.fields.specs.Meanings.{Meaning, Reading}
use Rattle.layout.specs.declared.node.Node.{Node}
use Rattle.layout.specs.Trees.{Part, Parts, field, mark, check, sequence, choice, optional, end, ◌then◌, height, height_of}
use Rattle.report.specs.declared.outcome.Outcome.TheVariants.{Good as good_outcome}
use Rattle.report.specs.declared.line.Line.{Line}
use Rattle.report.specs.Lines.{begun}
use Rattle.report.specs.Leaves.{mark_reads, first_from}
use Rattle.report.specs.Recovery.{node_of, byte_of, found}
use Rattle.report.proofs.Marks.{IsMark, mark_is, IsFound, found_from, stands_below}
use Rattle.reader.specs.declared.open.Way.{Way}
use Rattle.reader.specs.declared.open.Way.TheVariants.{Sequence, Tried, Choice, Optional}
use Rattle.reader.specs.declared.open.Told.{Told}
use Rattle.reader.specs.declared.open.Told.TheVariants.{Begin, Clean, Fault, Seek, Skip}
use Rattle.reader.specs.Turns.{Pending, moved, State, raised, leaf_begun, opened, sequence_way, completed, shut, sought, begin, next_tried, next_branch, next_child, mended, passed, hunted, next_sought, next_skipped, turn_by}
use Rattle.reader.specs.Nesting.{Gives, InTrial, Context, Good}
use Rattle.reader.proofs.Chains.{chain_more, began_more}
use Rattle.reader.proofs.Going.{moved_good, undone_good, part_levels}

module _ (means : ℕ → ℕ → Meaning) (nodes : List Node) (row : List ℕ)
    (inside : (k a p : ℕ) (x : ℕ × ℤ) → p ≤ length row → (means k a).reads (drop p row) ≡ Ok x → p + x.0 ≤ length row) where
  abbrev pub GoodState : State → Type 0
  GoodState s = Good row s.stack s.lines s.place s.reach

  -- one line more, at a place further on
  one_more : (fs : List Pending) (ls : List Line) (l : Line) (p q r : ℕ) → Good row fs ls p r → p ≤ q → q ≤ length row → Good row fs (ls ++ l ∷ []) q (raised ls 1 r)
  one_more fs ls l p q r g h w =
      let long = length_push ls l in
      record {
        chain = chain_more fs (length ls) (length (ls ++ l ∷ [])) (omega (arith, long)) g.chain;
        began = began_more fs p q h g.began;
        levels = g.levels;
        low = omega (arith, long);
        within = w;
        bytes = g.bytes;
      }

  leaf_good : (i : ℕ) (fs : List Pending) (ls : List Line) (p r : ℕ) (x : Reading) → Good row fs ls p r → ((y : ℕ × ℤ) → x ≡ Ok y → p + y.0 ≤ length row) → GoodState (leaf_begun i fs ls p r x)
  leaf_good i fs ls p r (Ok y) g h = one_more fs ls _ p (p + y.0) r g (omega arith) (h y refl)
  leaf_good i fs ls p r (Err c) g h = one_more fs ls _ p p r g (omega arith) g.within

  mark_inside : (b p : ℕ) (x : Reading) → IsMark row b p x → (y : ℕ × ℤ) → x ≡ Ok y → p + y.0 ≤ length row
  mark_inside b p (Ok z) m y e = omega (arith, stands_below row b p m.1, ap (λ (k : ℕ × ℤ). k.0) m.0, ok_same z y e)
    where
      ok_same : (z y : ℕ × ℤ) → ◌≡◌ {A = Reading} (Ok z) (Ok y) → z.0 ≡ y.0
      ok_same z y e = ap (λ (r : Reading). elim r [ Ok k ↦ k.0 | Err c ↦ 0 ]) e
  mark_inside b p (Err c) m y e = absurd (err_ok y e)
    where
      err_ok : (y : ℕ × ℤ) → ◌≡◌ {A = Reading} (Err c) (Ok y) → ⊥
      err_ok y e = false≢true (ap (λ (r : Reading). elim r [ Ok k ↦ true | Err d ↦ false ]) e)

  open_good : (w : Way) (i : ℕ) (q : Part) (qs : Parts) (fs : List Pending) (ls : List Line) (p r : ℕ) → Good row fs ls p r → Context w fs → height_of qs + (length fs + 1) ≤ 16 → GoodState (opened w i q qs fs ls p r)
  open_good w i q qs fs ls p r g k h =
      let more = one_more fs ls (begun i p) p p r g (omega arith) g.within in
      record {
        chain = (omega (arith, length_push ls (begun i p)), k, g.chain);
        began = (omega arith, g.began);
        levels = (h, g.levels);
        low = more.low;
        within = g.within;
        bytes = g.bytes;
      }

  context_of : (t : Bool) (fs : List Pending) → (t ≡ true → InTrial fs) → Context (sequence_way t) fs
  context_of true fs k = k refl
  context_of false fs k = tt

  pub begun_good : (t : Bool) (q : Part) (fs : List Pending) (ls : List Line) (p r : ℕ) → Good row fs ls p r → (t ≡ true → InTrial fs) → height q + length fs ≤ 16 → GoodState (begin means nodes row t q fs ls p r)
  begun_good t (field i kind parameter column) fs ls p r g k h =
      leaf_good i fs ls p r ((means kind parameter).reads (drop p row)) g (λ y e. inside kind parameter p y g.within e)
  begun_good t (mark i byte) fs ls p r g k h = leaf_good i fs ls p r (mark_reads byte (drop p row)) g (mark_inside byte p (mark_reads byte (drop p row)) (mark_is row byte p (drop p row) refl))
  begun_good t (check i relation left right) fs ls p r g k h = one_more fs ls _ p p r g (omega arith) g.within
  begun_good t (sequence i qs) fs ls p r g k h = open_good (sequence_way t) i (sequence i qs) qs fs ls p r g (context_of t fs k) (omega (arith, h))
  begun_good t (choice i qs) fs ls p r g k h = open_good Choice i (choice i qs) qs fs ls p r g tt (omega (arith, h))
  begun_good t (optional i qs) fs ls p r g k h = open_good Optional i (optional i qs) qs fs ls p r g tt (omega (arith, h))

  module _ (f : Pending) (fs : List Pending) (ls : List Line) (p r : ℕ) (g : Good row (f ∷ fs) ls p r) where
    -- the node is no longer open, and as many lines stand
    closed_good : (ms : List Line) → length ms ≡ length ls → Good row fs ms p r
    closed_good ms e =
        record {
          chain = chain_more fs f.at (length ms) (omega (arith, g.chain.0, e)) g.chain.2;
          began = began_more fs f.start p g.began.0 g.began.1;
          levels = g.levels.1;
          low = omega (arith, e, g.low);
          within = g.within;
          bytes = g.bytes;
        }

    -- what was read under it is taken back, for a line of its own
    undone_closed : (l : Line) → Good row fs (take f.at ls ++ l ∷ []) f.start r
    undone_closed l =
        let long = length_push (take f.at ls) l in
        let at = length-take-le f.at ls (omega (arith, g.chain.0)) in
        record {
          chain = chain_more fs f.at (length (take f.at ls ++ l ∷ [])) (omega (arith, long, at)) g.chain.2;
          began = g.began.1;
          levels = g.levels.1;
          low = omega (arith, long, at, g.chain.0, g.low);
          within = omega (arith, g.began.0, g.within);
          bytes = g.bytes;
        }

    -- the next part is begun
    part_good : (t : Bool) (q : Part) (qs : Parts) (n : ℕ) → f.rest ≡ (q then qs) → (t ≡ true → InTrial (f ∷ fs)) → GoodState (begin means nodes row t q (moved f q qs n ∷ fs) ls p r)
    part_good t q qs n e k =
        begun_good t q (moved f q qs n ∷ fs) ls p r (moved_good row f fs ls p r g q q qs n e) k (omega (arith, part_levels row f fs ls p r g q qs e))

    tried_good : (z : ℤ) (qs : Parts) → f.rest ≡ qs → InTrial (f ∷ fs) → GoodState (next_tried means nodes row z f fs ls p r qs)
    tried_good z end e k = closed_good (completed f ls p good_outcome z) (length-set ls f.at _)
    tried_good z (q then qs) e k = part_good true q qs f.branch e (λ _. k)

    child_good : (qs : Parts) → f.rest ≡ qs → GoodState (next_child means nodes row f fs ls p r qs)
    child_good end e = closed_good (shut f ls p) (length-set ls f.at _)
    child_good (q then qs) e = part_good false q qs f.branch e (λ x. absurd (false≢true x))

    passed_good : (t : Told) (q : Part) (qs : Parts) → f.rest ≡ (q then qs) → GoodState (passed means nodes row t f fs ls p r q qs)
    passed_good t q qs e = one_more (moved f q qs f.branch ∷ fs) ls _ p p r (moved_good row f fs ls p r g q q qs f.branch e) (omega arith) g.within

    -- the sought mark is found, and m is open behind it
    sought_good : (i b : ℕ) (m : Pending) (o : Option ℕ) → Good row (m ∷ fs) ls p r → IsFound row b p o → GoodState (sought i f m fs ls p r o)
    sought_good i b m None h x = g
    sought_good i b m (Some j) h x =
        let long = length-append ls (found i p j) in
        record {
          chain = chain_more (m ∷ fs) (length ls) (length (ls ++ found i p j)) (omega (arith, long)) h.chain;
          began = began_more (m ∷ fs) p (j + 1) (omega (arith, x.0)) h.began;
          levels = h.levels;
          low = omega (arith, long);
          within = omega (arith, stands_below row b j x.1);
          bytes = g.bytes;
        }

    mended_good : (o : Option ℕ) → GoodState (mended means nodes row f fs ls p r o)
    mended_good None = g
    mended_good (Some b) = sought_good (node_of f.last) b f (first_from row b p) g (found_from row b p)

    hunted_good : (q : Part) (qs : Parts) (o : Option ℕ) → f.rest ≡ (q then qs) → GoodState (hunted means nodes row f fs ls p r q qs o)
    hunted_good q qs None e = passed_good Seek q qs e
    hunted_good q qs (Some b) e = sought_good (node_of q) b (moved f q qs f.branch) (first_from row b p) (moved_good row f fs ls p r g q q qs f.branch e) (found_from row b p)

    next_sought_good : (qs : Parts) → f.rest ≡ qs → GoodState (next_sought means nodes row f fs ls p r qs)
    next_sought_good end e = closed_good (shut f ls p) (length-set ls f.at _)
    next_sought_good (q then qs) e = hunted_good q qs (byte_of q) e

    next_skipped_good : (qs : Parts) → f.rest ≡ qs → GoodState (next_skipped means nodes row f fs ls p r qs)
    next_skipped_good end e = closed_good (shut f ls p) (length-set ls f.at _)
    next_skipped_good (q then qs) e = passed_good Skip q qs e

  -- xs are the lines up to the choice's own
  branch_good : (f : Pending) (fs : List Pending) (xs : List Line) (r : ℕ) → Good row (f ∷ fs) xs f.start r → (qs : Parts) → f.rest ≡ qs → InTrial (f ∷ fs) → GoodState (next_branch means nodes row f fs xs r qs)
  branch_good f fs xs r g end e k = undone_closed f fs xs f.start r g _
  branch_good f fs xs r g (q then qs) e k = part_good f fs xs f.start r g true q qs (f.branch + 1) e (λ _. k)

  module _ (f : Pending) (fs : List Pending) (ls : List Line) (p r : ℕ) (g : Good row (f ∷ fs) ls p r) where
    gives : (w : Way) → f.way ≡ w → Gives w (InTrial fs) → InTrial (f ∷ fs)
    gives w e k = subst (λ v. Gives v (InTrial fs)) (sym e) k

    turned_good : (w : Way) (t : Told) → f.way ≡ w → Context w fs → GoodState (turn_by means nodes row w f fs ls p r t)
    turned_good Sequence Begin e k = child_good f fs ls p r g f.rest refl
    turned_good Sequence Clean e k = child_good f fs ls p r g f.rest refl
    turned_good Sequence Fault e k = mended_good f fs ls p r g (byte_of f.last)
    turned_good Sequence Seek e k = next_sought_good f fs ls p r g f.rest refl
    turned_good Sequence Skip e k = next_skipped_good f fs ls p r g f.rest refl
    turned_good Tried Begin e k = tried_good f fs ls p r g (pos 0) f.rest refl (gives Tried e k)
    turned_good Tried Clean e k = tried_good f fs ls p r g (pos 0) f.rest refl (gives Tried e k)
    turned_good Tried Fault e k = closed_good f fs ls p r g ls refl
    turned_good Tried Seek e k = closed_good f fs ls p r g ls refl
    turned_good Tried Skip e k = closed_good f fs ls p r g ls refl
    turned_good Choice Begin e k = branch_good f fs (take (f.at + 1) ls) r (undone_good row f fs ls p r g) f.rest refl (gives Choice e tt)
    turned_good Choice Clean e k = closed_good f fs ls p r g (completed f ls p good_outcome (pos f.branch)) (length-set ls f.at _)
    turned_good Choice Fault e k = branch_good f fs (take (f.at + 1) ls) r (undone_good row f fs ls p r g) f.rest refl (gives Choice e tt)
    turned_good Choice Seek e k = branch_good f fs (take (f.at + 1) ls) r (undone_good row f fs ls p r g) f.rest refl (gives Choice e tt)
    turned_good Choice Skip e k = branch_good f fs (take (f.at + 1) ls) r (undone_good row f fs ls p r g) f.rest refl (gives Choice e tt)
    turned_good Optional Begin e k = tried_good f fs ls p r g (pos 1) f.rest refl (gives Optional e tt)
    turned_good Optional Clean e k = tried_good f fs ls p r g (pos 1) f.rest refl (gives Optional e tt)
    turned_good Optional Fault e k = undone_closed f fs ls p r g _
    turned_good Optional Seek e k = undone_closed f fs ls p r g _
    turned_good Optional Skip e k = undone_closed f fs ls p r g _

    -- a turn
    pub turn_good : (t : Told) → GoodState (turn_by means nodes row f.way f fs ls p r t)
    turn_good t = turned_good f.way t refl g.chain.1
