-- The lines of the entries so far.
use Rattle.std.proofs.Common.{◌≡◌, map, take, vec_items}
use Rattle.layout.specs.Trees.{node_at}
use Rattle.outlines.specs.Lines.{line_text, node_line}
use Rattle.outlines.proofs.tree.tree_lines.Given as goal

abbrev pub invariant-loop-entry : goal.invariant-loop-entry
invariant-loop-entry l =
    map line_text (vec_items l.lines)
    ≡ map (λ e. node_line l.family (vec_items l.layout.constants) e (node_at (vec_items l.layout.nodes) e.number).shape) (take l.entry-index l.entry-items)
