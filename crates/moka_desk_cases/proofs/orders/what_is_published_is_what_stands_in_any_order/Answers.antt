-- Both desks rest, and nothing was applied.
use Rattle.std.proofs.Common.{[]}
use Rattle.moka_desk_cases.specs.Rests.{none_handed, untouched}
use Rattle.moka_desk_cases.proofs.orders.what_is_published_is_what_stands_in_any_order.Goals as goal

pub are_counted-in_whole-requires : goal.are_counted-in_whole-requires
are_counted-in_whole-requires g c = ([], (untouched c.rules_with.result, c.in_ok-whole.ensures.stands none_handed))

pub are_counted-in_brief-requires : goal.are_counted-in_brief-requires
are_counted-in_brief-requires g c = ([], (untouched c.rules_with-in-loop-order.result, c.in_ok-brief.ensures.stands none_handed))
