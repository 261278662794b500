use Rattle.std.proofs.Common.{refl}
use Rattle.moka_desk_cases.specs.Rests.{untouched}
use Rattle.moka_desk_cases.proofs.notices.are_handed_out.Goals as goal

pub open_notice-requires : goal.open_notice-requires
open_notice-requires g c = (untouched c.requires.0, c.requires.1, refl)
