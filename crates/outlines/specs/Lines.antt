-- What `neskvaru layout` writes: a line for each node of the tree, in the order of reading, indented by its depth.
use Rattle.std.specs.Prelude.{List, ◌++◌, map, ℕ, ℤ, codes, decimal}
use Rattle.layout.specs.declared.node.Entry.{Entry}
use Rattle.layout.specs.declared.node.Node.{Node}
use Rattle.layout.specs.declared.node.Shape.{Shape}
use Rattle.layout.specs.Trees.{node_at, outline, tree_of}
use Rattle.cli.specs.declared.families.FamilyWords.{FamilyWords}
use Rattle.outlines.specs.declared.line.NodeLine.{NodeLine}
use Rattle.outlines.specs.Words.{indent, shape_words}

abbrev pub node_line : FamilyWords → List ℤ → Entry → Shape → List ℕ
node_line family constants entry shape =
    indent entry.depth ++ (codes "node " ++ (decimal entry.number ++ (codes ": " ++ shape_words family constants shape)))

-- how a line of the program is written
abbrev pub line_text : NodeLine → List ℕ
line_text line = node_line line.family line.constants.now line.entry line.shape

-- the lines of a table's tree
abbrev pub tree_lines : FamilyWords → List Node → List ℤ → List (List ℕ)
tree_lines family nodes constants = map (λ e. node_line family constants e (node_at nodes e.number).shape) (outline 1 (tree_of nodes constants))
