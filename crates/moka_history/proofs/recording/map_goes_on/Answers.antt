use Rattle.std.specs.Prelude.{None}
use Rattle.moka_history.proofs.Maps.{map_more}
use Rattle.moka_history.proofs.recording.map_goes_on.Goals as goal

pub returns : goal.returns
returns g c = record { map = λ eq es e q. map_more eq (λ k. None) es e q }
