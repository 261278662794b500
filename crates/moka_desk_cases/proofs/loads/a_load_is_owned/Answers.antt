use Rattle.std.proofs.Common.{refl}
use Rattle.moka_desk_cases.specs.Rests.{untouched}
use Rattle.moka_desk_cases.proofs.loads.a_load_is_owned.Goals as goal

pub wait_or_own-claim-requires : goal.wait_or_own-claim-requires
wait_or_own-claim-requires g c =
    let new = c.in_ok-desk.ensures in
    record { free = (untouched new.0, new.1, (refl, refl, λ owner e. refl)) }
