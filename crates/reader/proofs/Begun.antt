-- A node with parts is begun as its part of the tree is.
use Rattle.std.proofs.Common.{◌≡◌, ℕ, false, Bool, List, ℤ, Some, sym, refl, ap, ap₂, ◌∙◌}
use Rattle.std.specs.List.{list_any}
use Rattle.fields.specs.Meanings.{Meaning}
use Rattle.layout.specs.declared.node.Shape.{Shape}
use Rattle.layout.specs.declared.node.Shape.TheVariants.{Sequence, Choice, Optional}
use Rattle.layout.specs.declared.node.Node.{Node}
use Rattle.layout.specs.Links.{hang_ill}
use Rattle.layout.specs.Shapes.{names_none, links}
use Rattle.layout.specs.Trees.{Part, sequence, choice, optional, node_at, child_of, child_number, part_of, parts_at, part_at}
use Rattle.report.specs.declared.line.Line.{Line}
use Rattle.reader.specs.declared.open.Way.{Way}
use Rattle.reader.specs.declared.open.Way.TheVariants as ways
use Rattle.reader.specs.Turns.{Pending, opened, sequence_way, begin}
use Rattle.reader.specs.Models.{parts_from}
use Rattle.reader.proofs.Tables.{child_is}

module _ (means : ℕ → ℕ → Meaning) (nodes : List Node) (constants : List ℤ) (row : List ℕ) (hangs : hang_ill 16 (links nodes) ≡ false) (numbered : list_any (λ n. names_none n.next) nodes ≡ false) where
  -- the part of a node with this shape
  part_is : (i : ℕ) (s : Shape) → (node_at nodes i).shape ≡ s → part_at nodes constants i ≡ part_of constants i s (parts_at nodes constants (child_number s))
  part_is i s e = ap (λ s. part_of constants i s (parts_at nodes constants (child_number s))) e

  module _ (t : Bool) (i c : ℕ) (fs : List Pending) (ls : List Line) (p r : ℕ) where
    open_as : (w : Way) (s : Shape) (q : Part) → (node_at nodes i).shape ≡ s → child_of s ≡ Some c → part_at nodes constants i ≡ q →
        opened w i q (parts_at nodes constants c) fs ls p r ≡ begin means nodes row t q fs ls p r →
        opened w i (part_at nodes constants i) (parts_from nodes constants (Some c)) fs ls p r ≡ begin means nodes row t (part_at nodes constants i) fs ls p r
    open_as w s q e d k same =
        ap₂ (λ x ps. opened w i x ps fs ls p r) k (child_is nodes constants hangs numbered i c s e d)
        ∙ same
        ∙ ap (λ x. begin means nodes row t x fs ls p r) (sym k)

    pub begun_sequence : (w : Way) → w ≡ sequence_way t → (node_at nodes i).shape ≡ Sequence c → opened w i (part_at nodes constants i) (parts_from nodes constants (Some c)) fs ls p r ≡ begin means nodes row t (part_at nodes constants i) fs ls p r
    begun_sequence w h e =
        open_as w (Sequence c) (sequence i (parts_at nodes constants c)) e refl (part_is i (Sequence c) e) (ap (λ w. opened w i (sequence i (parts_at nodes constants c)) (parts_at nodes constants c) fs ls p r) h)

    pub begun_choice : (node_at nodes i).shape ≡ Choice c → opened ways.Choice i (part_at nodes constants i) (parts_from nodes constants (Some c)) fs ls p r ≡ begin means nodes row t (part_at nodes constants i) fs ls p r
    begun_choice e = open_as ways.Choice (Choice c) (choice i (parts_at nodes constants c)) e refl (part_is i (Choice c) e) refl

    pub begun_option : (node_at nodes i).shape ≡ Optional c → opened ways.Optional i (part_at nodes constants i) (parts_from nodes constants (Some c)) fs ls p r ≡ begin means nodes row t (part_at nodes constants i) fs ls p r
    begun_option e = open_as ways.Optional (Optional c) (optional i (parts_at nodes constants c)) e refl (part_is i (Optional c) e) refl
