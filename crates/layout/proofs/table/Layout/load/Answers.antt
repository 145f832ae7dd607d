-- The refusal of the size, and what follows once the size is right.
use Rattle.std.proofs.Common.{sym, subst, rules}
use Rattle.layout.specs.Shapes.{sorts, Known}
use Rattle.layout.specs.Files.{Sized, refusal}
use Rattle.layout.specs.Loading.{DepthTold}
use Rattle.layout.proofs.LoadLaws.{layout_tree, depth_told, accepted_known, when_accepted}
use Rattle.layout.proofs.table.Layout.load.Goals as goal

pub returns-in_err-header-clause-tree : goal.returns-in_err-header-clause-tree
returns-in_err-header-clause-tree g c = layout_tree c.args.self.now

pub returns : goal.returns
returns g c =
    let bytes = c.args.bytes.now in
    let knows = sorts (g.F.Family.means c.args.family.now) in
    let header = c.in_ok-header.header in
    let sized : Sized bytes header.nodes header.constants = search rules in
    let value = c.load_records.ensures.value in
    record {
      value = value;
      after = when_accepted _ (refusal knows bytes) _ _ _ value c.load_records.ensures.after (λ e h. record {
        nodes_are = h.0;
        constants_are = h.1;
        known = subst (Known knows) (sym h.0) (accepted_known knows bytes header.nodes header.constants sized e);
      });
      room = c.load_records.ensures.room;
      tree = layout_tree c.load_records.new.self;
      depth = subst (DepthTold bytes) (sym value) (depth_told knows bytes header.nodes header.constants sized);
    }
