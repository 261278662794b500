use Rattle.std.proofs.Common.{[], refl}
use Rattle.moka_behind_run.proofs.playing.shed_all.Goals as goal

pub returns-clause-serves : goal.returns-clause-serves
returns-clause-serves c = λ seen s stands.
    let shed = c.in_ok-shed.ensures.shed seen.told s.truth s.stored s.sent stands in
    record { after = record s { stored = [] }; replies = (refl, shed.0, refl); stands = shed.1 }
