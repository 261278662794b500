-- Both desks rest, and nothing was applied.
use Rattle.moka_desk_cases.specs.Rests.{none_handed, untouched}
use Rattle.moka_desk_cases.proofs.orders.a_number_is_forgotten_with_its_record_where_there_is_no_history.Goals as goal

pub may_be_stamped-in_whole-requires : goal.may_be_stamped-in_whole-requires
may_be_stamped-in_whole-requires g c = (untouched c.rules_with.result, c.in_ok-whole.ensures.stands none_handed)

pub may_be_stamped-in_brief-requires : goal.may_be_stamped-in_brief-requires
may_be_stamped-in_brief-requires g c = (untouched c.rules_with-2.result, c.in_ok-brief.ensures.stands none_handed)
