use Rattle.std.specs.Prelude.{None}
use Rattle.moka_history.proofs.Maps.{legal_front}
use Rattle.moka_history.proofs.recording.legal_was_legal.Goals as goal

pub returns : goal.returns
returns g c = record { legal = λ eq es more legal. legal_front eq (λ k. None) es more legal }
