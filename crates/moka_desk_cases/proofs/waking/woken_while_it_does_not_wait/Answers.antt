use Rattle.std.proofs.Common.{refl}
use Rattle.moka_hist.specs.Visits.{opened}
use Rattle.moka_hist.specs.declared.visits.Takes.TheVariants as takes
use Rattle.moka_desk_cases.specs.Rests.{untouched}
use Rattle.moka_desk_cases.proofs.waking.woken_while_it_does_not_wait.Goals as goal

pub open_ask-requires : goal.open_ask-requires
open_ask-requires c = (untouched c.requires.0, c.requires.1, (refl, refl))

pub woken_with_its_answer-requires : goal.woken_with_its_answer-requires
woken_with_its_answer-requires c =
    let w = untouched c.requires.0 in
    (opened w 3 takes.Value, c.in_ok-open_ask.ensures.makes w c.requires.1 (refl, refl), refl)
