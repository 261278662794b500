use Rattle.moka_laws.proofs.Noticing.{in_noticing}
use Rattle.moka_laws.proofs.SettledNotices.{notices_settled}
use Rattle.moka_laws.proofs.listening.notices_are_settled.Goals as goal

pub returns : goal.returns
returns g c = record { settled = λ s h. notices_settled s (in_noticing g.K.PartialEq.eq s h) }
