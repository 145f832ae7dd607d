-- The open nodes of a reader, which has the innermost last.
use Rattle.std.proofs.Common.{◌≡◌, ℕ, List, [], ◌∷◌, ◌++◌, map, ℤ, Some, None, Option, refl, ap, ◌∙◌}
use Rattle.std.proofs.lemmas.List.{reverse-append}
use Rattle.layout.specs.declared.node.Node.{Node}
use Rattle.reader.specs.declared.open.Open.{Open}
use Rattle.report.specs.declared.line.Line.{Line}
use Rattle.reader.specs.declared.open.Told.{Told}
use Rattle.reader.specs.declared.source.Source.{Source}
use Rattle.reader.specs.Turns.{Pending, State, state}
use Rattle.reader.specs.Models.{pending_of, stack_of, innermost_in}

module _ (nodes : List Node) (constants : List ℤ) where
  -- one node more is open
  pub pushed : (xs ys : List Open) (x : Open) (f : Pending) → ys ≡ xs ++ x ∷ [] → pending_of nodes constants x ≡ f → stack_of nodes constants ys ≡ f ∷ stack_of nodes constants xs
  pushed xs ys x f e d =
      ap (stack_of nodes constants) e
      ∙ ap (λ zs. map (pending_of nodes constants) zs) (reverse-append xs (x ∷ []))
      ∙ ap (λ p. p ∷ stack_of nodes constants xs) d

-- states that agree
pub states : (t : Told) {fs gs : List Pending} {ls ms : List Line} {p q r s : ℕ} → fs ≡ gs → ls ≡ ms → p ≡ q → r ≡ s → state fs ls p t r ≡ state gs ms q t s
states t {gs = gs} {ls = ls} {ms = ms} {p = p} {q = q} {r = r} a b c d =
    ap (λ x. state x ls p t r) a ∙ ap (λ x. state gs x p t r) b ∙ ap (λ x. state gs ms x t r) c ∙ ap (λ x. state gs ms q t x) d

-- to hold the innermost open node beside the others leaves the reach
pub reach_of : {F : Type 0} (s : Source F) (o : Option Open) (x : State) → (innermost_in s o x).reach ≡ x.reach
reach_of s None x = refl
reach_of s (Some f) x = refl
