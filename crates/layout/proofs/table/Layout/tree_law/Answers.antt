-- What hangs together is one tree.
use Rattle.layout.proofs.LoadLaws.{layout_tree}
use Rattle.layout.proofs.table.Layout.tree_law.Goals as goal

pub returns : goal.returns
returns c = layout_tree c.args.self.now
