use Rattle.std.proofs.Common.{refl}
use Rattle.moka_desk_cases.specs.Rests.{untouched}
use Rattle.moka_desk_cases.proofs.asks.closed_once.Goals as goal

pub open_ask-requires : goal.open_ask-requires
open_ask-requires c = (untouched c.requires.0, c.requires.1, (refl, refl))
