-- A tree of parts agrees with the table of nodes that it comes from.
use Rattle.std.proofs.Common.{◌≡◌, ℕ, List, ℤ}
use Rattle.layout.specs.declared.node.Side.{Side}
use Rattle.layout.specs.declared.node.Shape.{Shape}
use Rattle.layout.specs.declared.node.Shape.TheVariants.{Field, Mark, Sequence, Choice, Optional, Check}
use Rattle.layout.specs.declared.node.Node.{Node}
use Rattle.layout.specs.Trees.{Part, Parts, field, mark, check, sequence, choice, optional, end, ◌then◌, node_at, operand_of}

-- node i has this shape
abbrev pub Has : List Node → ℕ → Shape → Type 0
Has nodes i s = (node_at nodes i).shape ≡ s

module _ (nodes : List Node) (constants : List ℤ) where
  abbrev mutual
    pub Fits : Part → Type 0
    Fits (field i kind parameter column) = Has nodes i (Field (record { code = kind; parameter = parameter }) column)
    Fits (mark i byte) = Has nodes i (Mark byte)
    Fits (check i relation left right) = (side : Side) × (Has nodes i (Check relation left side)) × (right ≡ operand_of constants side)
    Fits (sequence i parts) = ((child : ℕ) × Has nodes i (Sequence child)) × AllFit parts
    Fits (choice i parts) = ((child : ℕ) × Has nodes i (Choice child)) × AllFit parts
    Fits (optional i parts) = ((child : ℕ) × Has nodes i (Optional child)) × AllFit parts

    pub AllFit : Parts → Type 0
    AllFit end = Unit {0}
    AllFit (q then qs) = Fits q × AllFit qs
