-- Two empty imports: no row is open, and their families mean what was handed in.
use Rattle.std.proofs.Common.{[], ap}
use Rattle.import.specs.Models.{Model}
use Rattle.import.specs.Stages.{open_at}
use Rattle.import.proofs.import.matching.Matcher.new.Goals as goal

pub invariant_of-result : goal.invariant_of-result
invariant_of-result g c = record {
  first_closed = ap (λ (m : Model). open_at m.stage) (c.in_ok-first.ensures []);
  resent_closed = ap (λ (m : Model). open_at m.stage) (c.in_ok-resent.ensures []);
}

pub returns : goal.returns
returns g c = (ap (λ (m : Model). m.setting.means) (c.in_ok-first.ensures []), ap (λ (m : Model). m.setting.means) (c.in_ok-resent.ensures []))
