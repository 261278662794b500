-- Both desks rest, and nothing was applied.
use Rattle.moka_desk_cases.specs.Rests.{none_handed, untouched}
use Rattle.moka_desk_cases.proofs.orders.a_look_is_forgotten_with_its_record_where_there_is_no_history.Goals as goal

pub forgets_what_left-in_whole-requires : goal.forgets_what_left-in_whole-requires
forgets_what_left-in_whole-requires g c = (untouched c.idle_rules.result, c.in_ok-whole.ensures.stands none_handed)

pub forgets_what_left-in_brief-requires : goal.forgets_what_left-in_brief-requires
forgets_what_left-in_brief-requires g c = (untouched c.idle_rules-2.result, c.in_ok-brief.ensures.stands none_handed)
