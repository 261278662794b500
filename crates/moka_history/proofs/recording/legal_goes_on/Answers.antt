use Rattle.std.specs.Prelude.{None}
use Rattle.moka_history.proofs.Maps.{legal_more}
use Rattle.moka_history.proofs.recording.legal_goes_on.Goals as goal

pub returns : goal.returns
returns g c = record { legal = λ eq es e legal now. legal_more eq (λ k. None) es e legal now }
