-- The root has no siblings.
use Rattle.std.proofs.Common.{◌++◌, vec_items, ap, ◌∙◌, arith}
use Rattle.std.proofs.lemmas.List.{append-nil}
use Rattle.layout.specs.Trees.{tree_of, parts_at, outline, outline_of}
use Rattle.layout.proofs.TreeLaws.{root_alone}
use Rattle.layout.proofs.LoadLaws.{sound_rising}
use Rattle.layout.proofs.table.Layout.outline.Goals as goal

pub returns : goal.returns
returns c =
    let l = c.args.self.now in
    let nodes = vec_items l.nodes in
    let constants = vec_items l.constants in
    c.in_ok-add_from.ensures
    ∙ ap (λ es. es ++ outline_of 1 (parts_at nodes constants 1)) c.new-out.ensures.items
    ∙ ap (outline_of 1) (root_alone nodes constants (sound_rising 16 nodes l.hangs) (omega (arith, l.few.0, l.nodes.ok.0)))
    ∙ append-nil (outline 1 (tree_of nodes constants))
