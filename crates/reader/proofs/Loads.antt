-- How much is left to do: a turn leaves less.
use Rattle.std.proofs.Common.{◌≡◌, ℕ, ◌+◌, ◌*◌, ◌<◌, ◌≤◌, if◌then◌else◌, Bool, true, false, List, [], ◌∷◌, take, drop, ℤ, pos, Some, None, Ok, Err, Option, refl, ap, arith}
use Rattle.fields.specs.Meanings.{Meaning, Reading}
use Rattle.layout.specs.declared.node.Node.{Node}
use Rattle.layout.specs.Trees.{Part, Parts, field, mark, check, sequence, choice, optional, end, ◌then◌}
use Rattle.report.specs.declared.line.Line.{Line}
use Rattle.report.specs.Leaves.{mark_reads, first_from}
use Rattle.report.specs.Recovery.{node_of, byte_of}
use Rattle.reader.specs.declared.open.Way.{Way}
use Rattle.reader.specs.declared.open.Way.TheVariants.{Sequence, Tried, Choice, Optional}
use Rattle.reader.specs.declared.open.Told.{Told}
use Rattle.reader.specs.declared.open.Told.TheVariants.{Begin, Clean, Fault, Seek, Skip}
use Rattle.reader.specs.Turns.{Pending, moved, State, leaf_begun, begin, next_tried, next_branch, next_child, mended, sought, passed, hunted, next_sought, next_skipped, turn_by}

-- how many nodes there are
abbrev mutual
  pub size : Part → ℕ
  size (field i kind parameter column) = 1
  size (mark i byte) = 1
  size (check i relation left right) = 1
  size (sequence i parts) = 1 + sizes parts
  size (choice i parts) = 1 + sizes parts
  size (optional i parts) = 1 + sizes parts

  pub sizes : Parts → ℕ
  sizes end = 0
  sizes (q then qs) = size q + sizes qs

pub some : (q : Part) → 1 ≤ size q
some (field i kind parameter column) = omega arith
some (mark i byte) = omega arith
some (check i relation left right) = omega arith
some (sequence i parts) = omega arith
some (choice i parts) = omega arith
some (optional i parts) = omega arith

abbrev pub still : List Pending → ℕ
still [] = 0
still (f ∷ fs) = 2 * sizes f.rest + 1 + still fs

abbrev rank : Told → ℕ
rank Begin = 0
rank Clean = 0
rank Fault = 3
rank Seek = 2
rank Skip = 1

abbrev pub load : State → ℕ
load s = 4 * still s.stack + rank s.told

low : (t : Told) → rank t ≤ 3
low Begin = omega arith
low Clean = omega arith
low Fault = omega arith
low Seek = omega arith
low Skip = omega arith

module _ (means : ℕ → ℕ → Meaning) (nodes : List Node) (row : List ℕ) where
  leaf_load : (i : ℕ) (fs : List Pending) (ls : List Line) (p r : ℕ) (x : Reading) → load (leaf_begun i fs ls p r x) + 4 ≤ 4 * still fs + 8
  leaf_load i fs ls p r (Ok x) = omega arith
  leaf_load i fs ls p r (Err c) = omega arith

  begun_load : (t : Bool) (q : Part) (fs : List Pending) (ls : List Line) (p r : ℕ) → load (begin means nodes row t q fs ls p r) + 4 ≤ 4 * still fs + 8 * size q
  begun_load t (field i kind parameter column) fs ls p r = leaf_load i fs ls p r ((means kind parameter).reads (drop p row))
  begun_load t (mark i byte) fs ls p r = leaf_load i fs ls p r (mark_reads byte (drop p row))
  begun_load t (check i relation left right) fs ls p r = omega (arith, low (begin means nodes row t (check i relation left right) fs ls p r).told)
  begun_load t (sequence i parts) fs ls p r = omega arith
  begun_load t (choice i parts) fs ls p r = omega arith
  begun_load t (optional i parts) fs ls p r = omega arith

  module _ (f : Pending) (fs : List Pending) (ls : List Line) (p r : ℕ) where
    -- what is left to do before the turn, without what f is told
    abbrev before : ℕ
    before = 4 * still (f ∷ fs)

    part_less : (t : Bool) (q : Part) (qs : Parts) (n at : ℕ) (xs : List Line) → f.rest ≡ (q then qs) → load (begin means nodes row t q (moved f q qs n ∷ fs) xs at r) < before
    part_less t q qs n at xs e = omega (arith, begun_load t q (moved f q qs n ∷ fs) xs at r, ap sizes e)

    tried_less : (z : ℤ) (qs : Parts) → f.rest ≡ qs → load (next_tried means nodes row z f fs ls p r qs) < before
    tried_less z end e = omega arith
    tried_less z (q then qs) e = part_less true q qs f.branch p ls e

    child_less : (qs : Parts) → f.rest ≡ qs → load (next_child means nodes row f fs ls p r qs) < before
    child_less end e = omega arith
    child_less (q then qs) e = part_less false q qs f.branch p ls e

    branch_less : (xs : List Line) (qs : Parts) → f.rest ≡ qs → load (next_branch means nodes row f fs xs r qs) < before
    branch_less xs end e = omega arith
    branch_less xs (q then qs) e = part_less true q qs (f.branch + 1) f.start xs e

    mended_less : (o : Option ℕ) → load (mended means nodes row f fs ls p r o) < before + 3
    mended_less None = omega arith
    mended_less (Some b) = by (first_from row b p)
      where
        by : (o : Option ℕ) → load (sought (node_of f.last) f f fs ls p r o) < before + 3
        by None = omega arith
        by (Some j) = omega arith

    passed_less : (t : Told) (q : Part) (qs : Parts) → f.rest ≡ (q then qs) → load (passed means nodes row t f fs ls p r q qs) < before
    passed_less t q qs e = omega (arith, low t, ap sizes e, some q)

    hunted_less : (q : Part) (qs : Parts) (o : Option ℕ) → f.rest ≡ (q then qs) → load (hunted means nodes row f fs ls p r q qs o) < before + 2
    hunted_less q qs None e = omega (arith, passed_less Seek q qs e)
    hunted_less q qs (Some b) e = by (first_from row b p)
      where
        by : (o : Option ℕ) → load (sought (node_of q) f (moved f q qs f.branch) fs ls p r o) < before + 2
        by None = omega arith
        by (Some j) = omega (arith, ap sizes e)

    sought_less : (qs : Parts) → f.rest ≡ qs → load (next_sought means nodes row f fs ls p r qs) < before + 2
    sought_less end e = omega arith
    sought_less (q then qs) e = hunted_less q qs (byte_of q) e

    skipped_less : (qs : Parts) → f.rest ≡ qs → load (next_skipped means nodes row f fs ls p r qs) < before + 1
    skipped_less end e = omega arith
    skipped_less (q then qs) e = omega (arith, passed_less Skip q qs e)

    -- a turn leaves less to do
    pub turn_less : (w : Way) (t : Told) → load (turn_by means nodes row w f fs ls p r t) < before + rank t
    turn_less Sequence Begin = omega (arith, child_less f.rest refl)
    turn_less Sequence Clean = omega (arith, child_less f.rest refl)
    turn_less Sequence Fault = mended_less (byte_of f.last)
    turn_less Sequence Seek = sought_less f.rest refl
    turn_less Sequence Skip = skipped_less f.rest refl
    turn_less Tried Begin = omega (arith, tried_less (pos 0) f.rest refl)
    turn_less Tried Clean = omega (arith, tried_less (pos 0) f.rest refl)
    turn_less Tried Fault = omega arith
    turn_less Tried Seek = omega arith
    turn_less Tried Skip = omega arith
    turn_less Choice Begin = omega (arith, branch_less (take (f.at + 1) ls) f.rest refl)
    turn_less Choice Clean = omega arith
    turn_less Choice Fault = omega (arith, branch_less (take (f.at + 1) ls) f.rest refl)
    turn_less Choice Seek = omega (arith, branch_less (take (f.at + 1) ls) f.rest refl)
    turn_less Choice Skip = omega (arith, branch_less (take (f.at + 1) ls) f.rest refl)
    turn_less Optional Begin = omega (arith, tried_less (pos 1) f.rest refl)
    turn_less Optional Clean = omega (arith, tried_less (pos 1) f.rest refl)
    turn_less Optional Fault = omega arith
    turn_less Optional Seek = omega arith
    turn_less Optional Skip = omega arith
