-- What the loop keeps, from its first turn to its last.
use Rattle.std.proofs.Common.{◌≡◌, ℕ, ◌+◌, ◌<◌, ◌≤◌, Bool, true, false, List, [], ◌∷◌, length, take, drop, ℤ, Ok, sym, refl, ap₂, ◌∙◌, subst, arith, length-drop, get_or-drop}
use Rattle.std.proofs.lemmas.Bool.{false≢true}
use Rattle.fields.specs.Meanings.{Meaning}
use Rattle.fields.specs.Laws.{Bytes, Lawful}
use Rattle.layout.specs.declared.node.Node.{Node}
use Rattle.layout.specs.Trees.{tree_of, height}
use Rattle.report.specs.declared.line.Line.{Line}
use Rattle.report.specs.Trials.{Trial, clean, given_up, trials, branches}
use Rattle.report.specs.Recovery.{OpenReading, gave}
use Rattle.report.specs.Readings.{open_reading}
use Rattle.reader.specs.declared.open.Way.{Way}
use Rattle.reader.specs.declared.open.Way.TheVariants.{Sequence, Tried, Choice, Optional}
use Rattle.reader.specs.declared.open.Told.{Told}
use Rattle.reader.specs.declared.open.Told.TheVariants.{Begin, Clean, Fault, Seek, Skip}
use Rattle.reader.specs.Turns.{Pending, state, begin, turn_by}
use Rattle.reader.specs.Nesting.{Good}
use Rattle.reader.specs.Models.{broke}
use Rattle.reader.specs.Resuming.{tells, tried_end, option_end, choice_end, finish_by, resume, Going}
use Rattle.reader.proofs.Resumed.{cont_open, begun_open, turn_is}
use Rattle.reader.proofs.Keeps.{begun_good, turn_good}

module _ (means : ℕ → ℕ → Meaning) (nodes : List Node) (constants : List ℤ) (row : List ℕ) where
  -- the reach never falls
  tried_reach : (f : Pending) (ls : List Line) (p r : ℕ) (t : Trial) → r ≤ (tried_end f ls p r t).reach
  tried_reach f ls p r (clean ms q x) = omega arith
  tried_reach f ls p r (given_up x) = omega arith

  option_reach : (f : Pending) (ls : List Line) (r : ℕ) (t : Trial) → r ≤ (option_end f ls r t).reach
  option_reach f ls r (clean ms q x) = omega arith
  option_reach f ls r (given_up x) = omega arith

  choice_reach : (f : Pending) (ls : List Line) (r : ℕ) (t : Trial) → r ≤ (choice_end f ls r t).reach
  choice_reach f ls r (clean ms q x) = omega arith
  choice_reach f ls r (given_up x) = omega arith

  finish_reach : (w : Way) (t : Told) (f : Pending) (ls : List Line) (p r : ℕ) → r ≤ (finish_by means nodes row w t f ls p r).reach
  finish_reach Sequence t f ls p r = omega arith
  finish_reach Tried Begin f ls p r = tried_reach f ls p r (trials means nodes row f.rest ls p)
  finish_reach Tried Clean f ls p r = tried_reach f ls p r (trials means nodes row f.rest ls p)
  finish_reach Tried Fault f ls p r = omega arith
  finish_reach Tried Seek f ls p r = omega arith
  finish_reach Tried Skip f ls p r = omega arith
  finish_reach Choice Begin f ls p r = choice_reach f (take (f.at + 1) ls) r (branches means nodes row f.rest f.node (f.branch + 1) (take (f.at + 1) ls) f.start)
  finish_reach Choice Clean f ls p r = omega arith
  finish_reach Choice Fault f ls p r = choice_reach f (take (f.at + 1) ls) r (branches means nodes row f.rest f.node (f.branch + 1) (take (f.at + 1) ls) f.start)
  finish_reach Choice Seek f ls p r = choice_reach f (take (f.at + 1) ls) r (branches means nodes row f.rest f.node (f.branch + 1) (take (f.at + 1) ls) f.start)
  finish_reach Choice Skip f ls p r = choice_reach f (take (f.at + 1) ls) r (branches means nodes row f.rest f.node (f.branch + 1) (take (f.at + 1) ls) f.start)
  finish_reach Optional Begin f ls p r = option_reach f ls r (trials means nodes row f.rest ls p)
  finish_reach Optional Clean f ls p r = option_reach f ls r (trials means nodes row f.rest ls p)
  finish_reach Optional Fault f ls p r = omega arith
  finish_reach Optional Seek f ls p r = omega arith
  finish_reach Optional Skip f ls p r = omega arith

  pub reach_kept : (fs : List Pending) (ls : List Line) (p : ℕ) (t : Told) (r : ℕ) → r ≤ (resume means nodes row fs ls p t r).reach
  reach_kept [] ls p t r = omega arith
  reach_kept (f ∷ fs) ls p t r =
      let m = finish_by means nodes row f.way t f ls p r in
      omega (arith, finish_reach f.way t f ls p r, reach_kept fs m.lines m.place m.told m.reach)

  alone : (d : OpenReading) → cont_open means nodes row [] [] 0 d ≡ d
  alone d = ap₂ (λ b r. gave d.lines d.place b r) (by d.broke) (omega arith)
    where
      by : (b : Bool) → broke (tells b) ≡ b
      by true = refl
      by false = refl

  module _ (lawful : (k a : ℕ) → Lawful (means k a)) (bytes : Bytes row) where
    -- a field lies within the row
    inside : (k a p : ℕ) (x : ℕ × ℤ) → p ≤ length row → (means k a).reads (drop p row) ≡ Ok x → p + x.0 ≤ length row
    inside k a p x h e =
        let n = (lawful k a).within (drop p row) x.0 x.1 (λ j. subst (λ b. b < 256) (sym (get_or-drop p row j 0)) (bytes (p + j))) e in
        omega (arith, n, length-drop p row)

    none_good : Good row [] [] 0 0
    none_good = record { chain = tt; began = tt; levels = tt; low = omega arith; within = omega arith; bytes = bytes }

    -- the root is begun
    pub begins : height (tree_of nodes constants) ≤ 16 → Going means nodes row constants (begin means nodes row false (tree_of nodes constants) [] [] 0 0)
    begins h = record {
      good = begun_good means nodes row inside false (tree_of nodes constants) [] [] 0 0 none_good (λ e. absurd (false≢true e)) (omega (arith, h));
      same = begun_open means nodes row (tree_of nodes constants) [] [] 0 0 ∙ alone (open_reading means nodes row (tree_of nodes constants) [] 0);
    }

    -- a turn
    pub goes : (f : Pending) (fs : List Pending) (ls : List Line) (p r : ℕ) (t : Told) → Going means nodes row constants (state (f ∷ fs) ls p t r) → Going means nodes row constants (turn_by means nodes row f.way f fs ls p r t)
    goes f fs ls p r t g = record {
      good = turn_good means nodes row inside f fs ls p r g.good t;
      same = turn_is means nodes row f fs ls p r t g.good.low g.good.chain ∙ g.same;
    }
