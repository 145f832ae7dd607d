-- Set on the file, the rule has the whole listing to come.
use Rattle.std.proofs.Common.{length}
use Rattle.cli.proofs.Closing.{whole_listing}
use Rattle.cli.proofs.listing.Listing.new.Goals as goal

pub returns : goal.returns
returns g c =
    let f = c.args.file.now in
    rw c.in_ok-set_on.ensures.after (whole_listing ((g.R.RowRule.means c.args.rule).cut f) (length f))
