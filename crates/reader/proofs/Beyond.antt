-- A choice reaches beyond the lines before it, since its own line stands.
use Rattle.std.proofs.Common.{ℕ, ◌+◌, ◌≤◌, List, [], ◌∷◌, ◌++◌, length, ℤ, pos, arith}
use Rattle.std.proofs.lemmas.List.{length_push}
use Rattle.fields.specs.Meanings.{Meaning}
use Rattle.layout.specs.declared.node.Node.{Node}
use Rattle.layout.specs.Trees.{Parts, end, ◌then◌}
use Rattle.report.specs.declared.line.Line.{Line}
use Rattle.report.specs.Lines.{begun}
use Rattle.report.specs.Trials.{Trial, clean, given_up, at_least, under, or_else, trial, branches}
use Rattle.report.proofs.ReachLaws.{Reaches, part_reaches, trial_reaches}

abbrev pub Beyond : ℕ → Trial → Type 0
Beyond n (clean ls q r) = n + 1 ≤ r
Beyond n (given_up r) = n + 1 ≤ r

raised_beyond : (n r : ℕ) (t : Trial) → Beyond n t → Beyond n (at_least r t)
raised_beyond n r (clean ls q s) h = omega arith
raised_beyond n r (given_up s) h = omega arith

else_beyond : (n : ℕ) (t u : Trial) → Beyond n t → Beyond n u → Beyond n (or_else t u)
else_beyond n (clean ls q r) u h k = h
else_beyond n (given_up r) u h k = raised_beyond n r u k

under_beyond : (i : ℕ) (pre : List Line) (p : ℕ) (z : ℤ) (t : Trial) → Reaches (length (pre ++ begun i p ∷ [])) t → Beyond (length pre) (under i p z t)
under_beyond i pre p z (clean ls q r) h = omega (arith, h, length_push pre (begun i p))
under_beyond i pre p z (given_up r) h = omega (arith, h, length_push pre (begun i p))

module _ (means : ℕ → ℕ → Meaning) (nodes : List Node) (row : List ℕ) where
  pub branches_beyond : (qs : Parts) (i n : ℕ) (pre : List Line) (p : ℕ) → Beyond (length pre) (branches means nodes row qs i n (pre ++ begun i p ∷ []) p)
  branches_beyond end i n pre p = omega (arith, length_push pre (begun i p))
  branches_beyond (q then qs) i n pre p =
      else_beyond (length pre) _ _
      (under_beyond i pre p (pos n) (trial means nodes row q (pre ++ begun i p ∷ []) p) (part_reaches (length (pre ++ begun i p ∷ [])) _ (trial_reaches means nodes row q (pre ++ begun i p ∷ []) p)))
      (branches_beyond qs i (n + 1) pre p)
