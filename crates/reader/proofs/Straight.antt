-- Reading straight on: each part is one turn, and an open sequence at its end, of which all lines are plain, is closed as good.
use Rattle.std.proofs.Common.{◌≡◌, ℕ, ◌+◌, max, false, List, [], ◌∷◌, ◌++◌, length, drop, ℤ, pos, Some, Ok, Err, Option, sym, refl, ap, ap₂, ◌∙◌, subst, arith}
use Rattle.std.proofs.lemmas.Bool.{false≢true}
use Rattle.std.proofs.lemmas.List.{length_push}
use Rattle.fields.specs.declared.family.Family.{Ghosts}
use Rattle.fields.specs.Laws.{Bytes, Lawful}
use Rattle.fields.specs.Meanings.{Meaning, Reading}
use Rattle.layout.specs.declared.node.Node.{Node}
use Rattle.layout.specs.Trees.{Parts, end}
use Rattle.report.specs.declared.outcome.Outcome.TheVariants.{Good}
use Rattle.report.specs.declared.line.Line.{Line}
use Rattle.report.specs.Lines.{line, faults, overall}
use Rattle.reader.specs.declared.open.Open.{Open}
use Rattle.reader.specs.declared.open.Way.{Way}
use Rattle.reader.specs.declared.open.Way.TheVariants.{Sequence}
use Rattle.reader.specs.declared.open.Told.{Told}
use Rattle.reader.specs.declared.open.Told.TheVariants.{Begin, Clean, Fault, Seek, Skip}
use Rattle.reader.specs.declared.reader.Reader.{Reader}
use Rattle.reader.specs.declared.source.Source.{Source}
use Rattle.reader.specs.Turns.{Pending, moved, State, state, raised, leaf_begun, begin, completed, next_child, turn_by}
use Rattle.reader.specs.Models.{nodes_of, constants_of, node_in, part_in, later_in, parts_from, state_in, under_node, broke}
use Rattle.reader.specs.Resuming.{Mid, finish_by, resume, GoingIn}
use Rattle.reader.proofs.Whole.{goes}

module _ (means : ℕ → ℕ → Meaning) (nodes : List Node) (row : List ℕ) (f : Pending) (fs : List Pending) (ls : List Line) (p r : ℕ) where
  abbrev pub closed : State
  closed = state [] (completed f ls p Good (pos 0)) p Clean r

  module _ (way : f.way ≡ Sequence) (last : f.rest ≡ end) (alone : fs ≡ []) (good : overall (faults (drop (f.at + 1) ls)) ≡ Good) where
    child_end : next_child means nodes row f fs ls p r f.rest ≡ closed
    child_end =
        ap (λ (qs : Parts). next_child means nodes row f fs ls p r qs) last
        ∙ ap₂ (λ gs o. state gs (completed f ls p o (pos 0)) p Clean r) alone good

    pub ended : (t : Told) → broke t ≡ false → turn_by means nodes row f.way f fs ls p r t ≡ closed
    ended Begin h = ap (λ (w : Way). turn_by means nodes row w f fs ls p r Begin) way ∙ child_end
    ended Clean h = ap (λ (w : Way). turn_by means nodes row w f fs ls p r Clean) way ∙ child_end
    ended Fault h = absurd (false≢true (sym h))
    ended Seek h = absurd (false≢true (sym h))
    ended Skip h = absurd (false≢true (sym h))

module _ {F : Type 0} (s : Source F) (m : Reader) (f : Open) where
  -- the sequence f, whose last part is this and whose next this, where these lines stand
  abbrev pub going_on : ℕ → Option ℕ → List Line → ℕ → State
  going_on last next ls p =
      state (moved (node_in s f) (part_in s last) (parts_from (nodes_of s) (constants_of s) next) f.branch ∷ (state_in s m ls).stack) ls p Clean (max m.reach (length ls))

  module _ (family : Ghosts F) where
    -- what f ends as is the same as it begins and once a part of it is read
    begin_or_clean : (t : Told) (ls : List Line) (p r : ℕ) → broke t ≡ false →
        finish_by (family.means s.family.now) (nodes_of s) s.row.now Sequence t (node_in s f) ls p r ≡ finish_by (family.means s.family.now) (nodes_of s) s.row.now Sequence Clean (node_in s f) ls p r
    begin_or_clean Begin ls p r u = refl
    begin_or_clean Clean ls p r u = refl
    begin_or_clean Fault ls p r u = absurd (false≢true (sym u))
    begin_or_clean Seek ls p r u = absurd (false≢true (sym u))
    begin_or_clean Skip ls p r u = absurd (false≢true (sym u))

    -- it is at its beginning as it was
    pub begins_on : (ls : List Line) → f.way ≡ Sequence → broke m.told ≡ false → GoingIn family s (under_node (node_in s f) (state_in s m ls)) → GoingIn family s (going_on f.last f.rest ls m.place)
    begins_on ls way unbroken h =
        let means = family.means s.family.now in
        let nodes = nodes_of s in
        let row = s.row.now in
        let fs = (state_in s m ls).stack in
        let as_sequence : (t : Told) → finish_by means nodes row f.way t (node_in s f) ls m.place m.reach ≡ finish_by means nodes row Sequence t (node_in s f) ls m.place m.reach = λ t. ap (λ (w : Way). finish_by means nodes row w t (node_in s f) ls m.place m.reach) way in
        let told = as_sequence m.told ∙ begin_or_clean m.told ls m.place m.reach unbroken ∙ sym (as_sequence Clean) in
        let high : max m.reach (length ls) ≡ m.reach = omega (arith, h.good.low) in
        record {
          good = record { chain = h.good.chain; began = h.good.began; levels = h.good.levels; low = omega arith; within = h.good.within; bytes = h.good.bytes };
          same =
              ap (λ r. resume means nodes row (node_in s f ∷ fs) ls m.place Clean r) high
              ∙ sym (ap (λ (d : Mid). resume means nodes row fs d.lines d.place d.told d.reach) told)
              ∙ h.same;
        }

    module _ (lawful : (k a : ℕ) → Lawful (family.means s.family.now k a)) (bytes : Bytes s.row.now) (way : f.way ≡ Sequence)
        (last part : ℕ) (ls : List Line) (p : ℕ) (x : Reading)
        (is : (gs : List Pending) (ms : List Line) (r : ℕ) → begin (family.means s.family.now) (nodes_of s) s.row.now false (part_in s part) gs ms p r ≡ leaf_begun part gs ms p r x)
        (before : GoingIn family s (going_on last (Some part) ls p)) where
      -- the next part is read, or faults: a turn
      pub leaf_on : GoingIn family s (leaf_begun part (moved (node_in s f) (part_in s part) (later_in s part) f.branch ∷ (state_in s m ls).stack) ls p (max m.reach (length ls)) x)
      leaf_on =
          let means = family.means s.family.now in
          let nodes = nodes_of s in
          let constants = constants_of s in
          let row = s.row.now in
          let fs = (state_in s m ls).stack in
          let r = max m.reach (length ls) in
          let g = moved (node_in s f) (part_in s last) (parts_from nodes constants (Some part)) f.branch in
          subst (GoingIn family s)
          (ap (λ (w : Way). turn_by means nodes row w g fs ls p r Clean) way ∙ is (moved g (part_in s part) (later_in s part) f.branch ∷ fs) ls r)
          (goes means nodes constants row lawful bytes g fs ls p r Clean before)

      -- where it is read
      pub good_on : (n : ℕ) (z : ℤ) (ms : List Line) (next : Option ℕ) → x ≡ Ok (n, z) → ms ≡ ls ++ line part Good p n z ∷ [] → parts_from (nodes_of s) (constants_of s) next ≡ later_in s part → GoingIn family s (going_on part next ms (p + n))
      good_on n z ms next e items later =
          let fs = (state_in s m ls).stack in
          let r = max m.reach (length ls) in
          let g = moved (node_in s f) (part_in s part) (later_in s part) f.branch in
          let reach : raised ls 1 r ≡ max m.reach (length ms) = omega (arith, ap length items, length_push ls (line part Good p n z)) in
          subst (GoingIn family s)
          (ap (leaf_begun part (g ∷ fs) ls p r) e
          ∙ ap₂ (λ xs y. state (g ∷ fs) xs (p + n) Clean y) (sym items) reach
          ∙ ap (λ qs. state (moved (node_in s f) (part_in s part) qs f.branch ∷ fs) ms (p + n) Clean (max m.reach (length ms))) (sym later))
          leaf_on

-- an open node that is held beside the others while a part is read
pub under_leaf : (g : Pending) (i : ℕ) (fs : List Pending) (ls : List Line) (p r : ℕ) (x : Reading) → under_node g (leaf_begun i fs ls p r x) ≡ leaf_begun i (g ∷ fs) ls p r x
under_leaf g i fs ls p r (Ok z) = refl
under_leaf g i fs ls p r (Err c) = refl
