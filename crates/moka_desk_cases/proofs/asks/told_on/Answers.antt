use Rattle.std.proofs.Common.{refl}
use Rattle.moka_hist.specs.Visits.{opened}
use Rattle.moka_desk_cases.specs.Rests.{untouched}
use Rattle.moka_desk_cases.proofs.Steps.{answer_is_there}
use Rattle.moka_desk_cases.proofs.asks.told_on.Goals as goal

pub open_ask-requires : goal.open_ask-requires
open_ask-requires c = (untouched c.requires.0, c.requires.1, (refl, refl))

pub take_told-requires : goal.take_told-requires
take_told-requires c =
    let w = untouched c.requires.0 in
    answer_is_there (opened w 3 c.args.takes) 3 refl c.args.told c.tell.result c.tell.new.self
    (c.tell.ensures.makes (opened w 3 c.args.takes) (c.in_ok-open_ask.ensures.makes w c.requires.1 (refl, refl)))
