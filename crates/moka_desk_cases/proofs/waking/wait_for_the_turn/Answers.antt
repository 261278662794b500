use Rattle.std.proofs.Common.{Some, refl}
use Rattle.moka_hist.specs.Visits.{ended_turn}
use Rattle.moka_desk_cases.specs.Rests.{untouched}
use Rattle.moka_desk_cases.proofs.waking.wait_for_the_turn.Goals as goal

pub taken-requires : goal.taken-requires
taken-requires g c = (untouched c.requires.0, c.requires.1)

pub end_turn-requires : goal.end_turn-requires
end_turn-requires g c =
    let has = c.in_ok-taken.ensures in
    (record has.0 { turn = Some 1 }, has.1, refl)

pub taken_again-requires : goal.taken_again-requires
taken_again-requires g c =
    let has = c.in_ok-taken.ensures in
    let w = record has.0 { turn = Some 1 } in
    (ended_turn w, c.end_turn.ensures.makes w has.1 refl)
