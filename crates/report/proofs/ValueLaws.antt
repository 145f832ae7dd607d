-- The values of lines: of lines one behind the other, and of lines whose node has no column.
use Rattle.std.proofs.Common.{◌≡◌, ℕ, List, [], ◌∷◌, ◌++◌, ℤ, Some, None, Option, sym, refl, ap, ◌∙◌, append_assoc, append-nil}
use Rattle.layout.specs.declared.node.Node.{Node}
use Rattle.layout.specs.Trees.{node_at}
use Rattle.report.specs.declared.outcome.Outcome.{Outcome}
use Rattle.report.specs.declared.outcome.Outcome.TheVariants.{Good, SyntaxFault, CheckFault, Absent, Skipped, FaultBelow, Scrap}
use Rattle.report.specs.declared.line.Line.{Line}
use Rattle.report.specs.Values.{Value, column_of, entered, value_of, values, later, in_column, latest}

module _ (nodes : List Node) where
  pub values_append : (xs ys : List Line) → values nodes (xs ++ ys) ≡ values nodes xs ++ values nodes ys
  values_append [] ys = refl
  values_append (x ∷ xs) ys =
      ap (λ vs. value_of nodes x ++ vs) (values_append xs ys) ∙ sym (append_assoc (value_of nodes x) (values nodes xs) (values nodes ys))

  -- node i has no column
  abbrev pub Bare : ℕ → Type 0
  Bare i = column_of (node_at nodes i).shape ≡ None

  none_entered : (o : Outcome) (z : ℤ) → entered o None z ≡ []
  none_entered Good z = refl
  none_entered SyntaxFault z = refl
  none_entered CheckFault z = refl
  none_entered Absent z = refl
  none_entered Skipped z = refl
  none_entered FaultBelow z = refl
  none_entered Scrap z = refl

  pub bare_value : (l : Line) → Bare l.node → value_of nodes l ≡ []
  bare_value l h = ap (λ c. entered l.outcome c l.number) h ∙ none_entered l.outcome l.number

  -- a line of such a node adds nothing
  pub bare_more : (pre : List Line) (l : Line) → Bare l.node → values nodes (pre ++ l ∷ []) ≡ values nodes pre
  bare_more pre l h =
      values_append pre (l ∷ [])
      ∙ ap (λ vs. values nodes pre ++ (vs ++ [])) (bare_value l h)
      ∙ append-nil (values nodes pre)

  not_entered : (o : Outcome) (c : Option ℕ) (z : ℤ) → (o ≡ Good → ⊥) → entered o c z ≡ []
  not_entered Good c z h = absurd (h refl)
  not_entered SyntaxFault c z h = refl
  not_entered CheckFault c z h = refl
  not_entered Absent c z h = refl
  not_entered Skipped c z h = refl
  not_entered FaultBelow c z h = refl
  not_entered Scrap c z h = refl

  -- nor does a line that is not good
  pub no_value : (pre : List Line) (l : Line) → (l.outcome ≡ Good → ⊥) → values nodes (pre ++ l ∷ []) ≡ values nodes pre
  no_value pre l h =
      values_append pre (l ∷ [])
      ∙ ap (λ vs. values nodes pre ++ (vs ++ [])) (not_entered l.outcome (column_of (node_at nodes l.node).shape) l.number h)
      ∙ append-nil (values nodes pre)

  -- nor does one of a node without a column where other lines stand behind it
  pub bare_before : (pre : List Line) (l m : Line) (ls : List Line) → Bare l.node → Bare m.node → values nodes (pre ++ l ∷ ls) ≡ values nodes ((pre ++ m ∷ []) ++ ls)
  bare_before pre l m ls h k =
      values_append pre (l ∷ ls)
      ∙ ap (λ vs. values nodes pre ++ (vs ++ values nodes ls)) (bare_value l h)
      ∙ ap (λ vs. vs ++ values nodes ls) (sym (bare_more pre m k))
      ∙ sym (values_append (pre ++ m ∷ []) ls)

-- one more value at the end
later_assoc : (a b c : Option ℤ) → later (later a b) c ≡ later a (later b c)
later_assoc a b None = refl
later_assoc a b (Some z) = refl

pub latest_append : (c : ℕ) (vs ws : List Value) → latest c (vs ++ ws) ≡ later (latest c vs) (latest c ws)
latest_append c [] ws = go (latest c ws)
  where
    go : (o : Option ℤ) → o ≡ later None o
    go None = refl
    go (Some z) = refl
latest_append c (v ∷ vs) ws = ap (later (in_column c v)) (latest_append c vs ws) ∙ sym (later_assoc (in_column c v) (latest c vs) (latest c ws))
