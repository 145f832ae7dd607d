-- The counts, the tail and the notice are written one after another.
use Rattle.tracing.proofs.Streams.{appends_both, if_ok}
use Rattle.explaining.proofs.explain.write_closing.Goals as goal

pub returns : goal.returns
returns g c =
    if_ok c.write_notice.result (λ h. appends_both _ _ _ _ _ (c.in_ok-writeln.ensures.bytes) (appends_both _ _ _ _ _ (c.in_ok-writeln-2.ensures.bytes) h)) c.write_notice.ensures
