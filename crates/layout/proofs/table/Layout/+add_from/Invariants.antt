-- Links rise, so that fewer nodes are left each time.
use Rattle.std.proofs.Common.{length, vec_items}
use Rattle.layout.specs.Trees.{or_zero}
use Rattle.layout.proofs.LoadLaws.{left_from}
use Rattle.layout.proofs.table.Layout.+add_from.Given as goal

abbrev pub decreases-add_from : goal.decreases-add_from
decreases-add_from l = left_from (length (vec_items l.self.now.nodes)) (or_zero l.number)
