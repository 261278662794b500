use Rattle.std.proofs.Common.{refl}
use Rattle.moka_hist.specs.Visits.{opened, took_told}
use Rattle.moka_hist.specs.declared.visits.Takes.TheVariants as takes
use Rattle.moka_desk_cases.specs.Rests.{untouched}
use Rattle.moka_desk_cases.proofs.waking.woken_while_it_waits.Goals as goal

pub open_ask-requires : goal.open_ask-requires
open_ask-requires c = (untouched c.requires.0, c.requires.1, (refl, refl))

pub take_told-requires : goal.take_told-requires
take_told-requires c =
    let w = untouched c.requires.0 in
    (opened w 3 takes.Value, c.in_ok-open_ask.ensures.makes w c.requires.1 (refl, refl), refl)

pub woken_with_its_answer-woken-requires : goal.woken_with_its_answer-woken-requires
woken_with_its_answer-woken-requires c =
    let w = untouched c.requires.0 in
    let opens = c.in_ok-open_ask.ensures.makes w c.requires.1 (refl, refl) in
    (took_told (opened w 3 takes.Value) 3, c.take_told.ensures.makes (opened w 3 takes.Value) opens refl, refl)
