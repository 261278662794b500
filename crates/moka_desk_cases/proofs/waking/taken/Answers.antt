-- Call 1 has the turn, and then nobody else takes it.
use Rattle.std.proofs.Common.{ℕ, Option, Some, None, refl}
use Rattle.moka_hist.specs.State.{DeskPart}
use Rattle.moka_desk_cases.proofs.Steps.{differ}
use Rattle.moka_desk_cases.proofs.waking.taken.Goals as goal

abbrev turn_of : DeskPart ℕ ℕ ℕ → Option ℕ → DeskPart ℕ ℕ ℕ
turn_of w call = record w { turn = call }

pub take_turn-requires : goal.take_turn-requires
take_turn-requires c = (turn_of c.requires.0 None, c.requires.1, λ e. cc)

pub take_turn-requires-2 : goal.take_turn-requires-2
take_turn-requires-2 c =
    let w = c.requires.0 in
    (turn_of w (Some 1), c.in_ok-first.ensures.makes (turn_of w None) c.requires.1 (λ e. cc), differ 1 2 refl)

pub take_turn-requires-3 : goal.take_turn-requires-3
take_turn-requires-3 c =
    let w = c.requires.0 in
    let first = c.in_ok-first.ensures.makes (turn_of w None) c.requires.1 (λ e. cc) in
    (turn_of w (Some 1), c.in_ok-second.ensures.makes (turn_of w (Some 1)) first (differ 1 2 refl), differ 1 3 refl)

pub returns-then-not-second : goal.returns-then-not-second
returns-then-not-second c =
    let w = c.requires.0 in
    let first = c.in_ok-first.ensures.makes (turn_of w None) c.requires.1 (λ e. cc) in
    let second = c.in_ok-second.ensures.makes (turn_of w (Some 1)) first (differ 1 2 refl) in
    (w, c.in_ok-third.ensures.makes (turn_of w (Some 1)) second (differ 1 3 refl))

pub returns-else-not-second : goal.returns-else-not-second
returns-else-not-second c =
    let w = c.requires.0 in
    let first = c.in_ok-first.ensures.makes (turn_of w None) c.requires.1 (λ e. cc) in
    let second = c.in_ok-second.ensures.makes (turn_of w (Some 1)) first (differ 1 2 refl) in
    (w, c.in_ok-third.ensures.makes (turn_of w (Some 1)) second (differ 1 3 refl))
