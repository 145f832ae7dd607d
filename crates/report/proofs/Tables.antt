-- The tree of a table agrees with it, whatever the table.
use Rattle.std.proofs.Common.{ℕ, zero, suc, List, length, ℤ, refl}
use Rattle.layout.specs.declared.node.Shape.{Shape}
use Rattle.layout.specs.declared.node.Shape.TheVariants.{Field, Mark, Sequence, Choice, Optional, Check}
use Rattle.layout.specs.declared.node.Node.{Node}
use Rattle.layout.specs.Trees.{Parts, node_at, child_number, next_number, part_of, parts_in, part_at, tree_of}
use Rattle.report.proofs.Fits.{Has, Fits, AllFit}

module _ (nodes : List Node) (constants : List ℤ) where
  part_fits : (i : ℕ) (s : Shape) (below : Parts) → Has nodes i s → AllFit nodes constants below → Fits nodes constants (part_of constants i s below)
  part_fits i (Field kind column) below e h = e
  part_fits i (Mark byte) below e h = e
  part_fits i (Sequence child) below e h = ((child, e), h)
  part_fits i (Choice child) below e h = ((child, e), h)
  part_fits i (Optional child) below e h = ((child, e), h)
  part_fits i (Check relation left right) below e h = (right, e, refl)

  parts_fit : (fuel i : ℕ) → AllFit nodes constants (parts_in nodes constants fuel i)
  parts_fit zero i = tt
  parts_fit (suc fuel) zero = tt
  parts_fit (suc fuel) (suc j) =
      (part_fits (suc j) (node_at nodes (suc j)).shape _ refl (parts_fit fuel (child_number (node_at nodes (suc j)).shape)), parts_fit fuel (next_number (node_at nodes (suc j))))

  -- every node with what is below it
  pub node_fits : (i : ℕ) → Fits nodes constants (part_at nodes constants i)
  node_fits i = part_fits i (node_at nodes i).shape _ refl (parts_fit (suc (length nodes)) (child_number (node_at nodes i).shape))

  pub tree_fits : Fits nodes constants (tree_of nodes constants)
  tree_fits = node_fits 1
