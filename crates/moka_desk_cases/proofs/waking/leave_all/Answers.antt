use Rattle.std.proofs.Common.{ℕ, None}
use Rattle.moka_hist.specs.Dropping.{left}
use Rattle.moka_hist.specs.State.{DeskPart}
use Rattle.moka_desk_cases.proofs.waking.leave_all.Goals as goal

-- nobody holds a write
abbrev free : DeskPart ℕ ℕ ℕ → DeskPart ℕ ℕ ℕ
free w = record w { holding = λ _. None }

pub leave-requires : goal.leave-requires
leave-requires g c =
    let w = c.in_ok-wait_for_call_1.ensures.0 in
    (free w, c.in_ok-wait_for_call_1.ensures.1, tt)

pub leave-requires-2 : goal.leave-requires-2
leave-requires-2 g c =
    let w = c.in_ok-wait_for_call_1.ensures.0 in
    (left (free w) 1 None, c.leave.ensures.makes (free w) c.in_ok-wait_for_call_1.ensures.1 tt, tt)

pub leave-requires-3 : goal.leave-requires-3
leave-requires-3 g c =
    let w = c.in_ok-wait_for_call_1.ensures.0 in
    (left (left (free w) 1 None) 2 None, c.leave-2.ensures.makes (left (free w) 1 None) (c.leave.ensures.makes (free w) c.in_ok-wait_for_call_1.ensures.1 tt) tt, tt)
