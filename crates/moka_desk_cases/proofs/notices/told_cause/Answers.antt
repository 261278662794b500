use Rattle.std.proofs.Common.{refl}
use Rattle.moka_desk_cases.specs.Rests.{untouched}
use Rattle.moka_desk_cases.proofs.notices.told_cause.Goals as goal

pub open_notice-cause-requires : goal.open_notice-cause-requires
open_notice-cause-requires c =
    let new = c.in_ok-desk.ensures in
    (untouched new.0, new.1, refl)
