use Rattle.std.proofs.Common.{refl}
use Rattle.moka_desk_cases.specs.Rests.{untouched}
use Rattle.moka_desk_cases.proofs.writes.a_key_is_locked.Goals as goal

pub lock_key-locked-requires : goal.lock_key-locked-requires
lock_key-locked-requires g c =
    let new = c.in_ok-desk.ensures in
    record { free = (untouched new.0, new.1, (refl, refl)) }
