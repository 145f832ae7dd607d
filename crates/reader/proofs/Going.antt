-- Open nodes stay nested as more is read.
use Rattle.std.proofs.Common.{◌≡◌, ℕ, ◌+◌, ◌≤◌, List, ◌∷◌, length, take, ap, arith}
use Rattle.std.proofs.lemmas.List.{length-take-le}
use Rattle.layout.specs.Trees.{Part, Parts, ◌then◌, height, height_of}
use Rattle.report.specs.declared.line.Line.{Line}
use Rattle.reader.specs.Turns.{Pending, moved}
use Rattle.reader.specs.Nesting.{Good}

module _ (row : List ℕ) (f : Pending) (fs : List Pending) (ls : List Line) (p r : ℕ) (g : Good row (f ∷ fs) ls p r) where
  -- a part of it is begun, or passed over
  pub moved_good : (q l : Part) (qs : Parts) (n : ℕ) → f.rest ≡ (q then qs) → Good row (moved f l qs n ∷ fs) ls p r
  moved_good q l qs n e =
      record { chain = g.chain; began = g.began; levels = (omega (arith, g.levels.0, ap height_of e), g.levels.1); low = g.low; within = g.within; bytes = g.bytes }

  -- what was written under it is gone
  pub undone_good : Good row (f ∷ fs) (take (f.at + 1) ls) f.start r
  undone_good =
      let long = length-take-le (f.at + 1) ls (omega (arith, g.chain.0)) in
      record {
        chain = (omega (arith, long), g.chain.1, g.chain.2);
        began = (omega arith, g.began.1);
        levels = g.levels;
        low = omega (arith, long, g.chain.0, g.low);
        within = omega (arith, g.began.0, g.within);
        bytes = g.bytes;
      }

  -- its part has no more levels than may be
  pub part_levels : (q : Part) (qs : Parts) → f.rest ≡ (q then qs) → height q + (length fs + 1) ≤ 16
  part_levels q qs e = omega (arith, g.levels.0, ap height_of e)
