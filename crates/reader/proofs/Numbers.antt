-- The number and the byte of a node's part.
use Rattle.std.proofs.Common.{◌≡◌, ℕ, List, ℤ, Some, refl, ap}
use Rattle.layout.specs.declared.node.Shape.{Shape}
use Rattle.layout.specs.declared.node.Shape.TheVariants.{Field, Mark, Sequence, Choice, Optional, Check}
use Rattle.layout.specs.declared.node.Node.{Node}
use Rattle.layout.specs.Trees.{Parts, node_at, child_number, part_of, parts_at, part_at}
use Rattle.report.specs.Recovery.{node_of, byte_of}

module _ (nodes : List Node) (constants : List ℤ) where
  number_of_part : (i : ℕ) (s : Shape) (below : Parts) → node_of (part_of constants i s below) ≡ i
  number_of_part i (Field kind column) below = refl
  number_of_part i (Mark byte) below = refl
  number_of_part i (Sequence child) below = refl
  number_of_part i (Choice child) below = refl
  number_of_part i (Optional child) below = refl
  number_of_part i (Check relation left right) below = refl

  pub number_is : (i : ℕ) → node_of (part_at nodes constants i) ≡ i
  number_is i = number_of_part i (node_at nodes i).shape (parts_at nodes constants (child_number (node_at nodes i).shape))

  pub byte_is : (i b : ℕ) → (node_at nodes i).shape ≡ Mark b → byte_of (part_at nodes constants i) ≡ Some b
  byte_is i b e = ap (λ s. byte_of (part_of constants i s (parts_at nodes constants (child_number s)))) e
