use Rattle.std.proofs.Common.{refl}
use Rattle.moka_desk_cases.specs.Rests.{untouched}
use Rattle.moka_desk_cases.proofs.writes.take_moments.Goals as goal

pub stamp_moment-requires : goal.stamp_moment-requires
stamp_moment-requires g c = (untouched c.requires.0, c.requires.1, (refl, record { stands = refl; held = λ n h e. cc }))
