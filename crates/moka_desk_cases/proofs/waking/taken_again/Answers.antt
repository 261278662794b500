-- Call 2 has the turn, and call 3 doesn't.
use Rattle.std.proofs.Common.{Some, None, refl}
use Rattle.moka_desk_cases.proofs.Steps.{differ}
use Rattle.moka_desk_cases.proofs.waking.taken_again.Goals as goal

pub take_turn-requires : goal.take_turn-requires
take_turn-requires c = (record c.requires.0 { turn = None }, c.requires.1, λ e. cc)

pub take_turn-requires-2 : goal.take_turn-requires-2
take_turn-requires-2 c =
    let w = c.requires.0 in
    (record w { turn = Some 2 }, c.in_ok-second.ensures.makes (record w { turn = None }) c.requires.1 (λ e. cc), differ 2 3 refl)
