use Rattle.moka_hist.specs.Visits.{is_replaced}
use Rattle.moka_desk.proofs.applied.Applied.reserve.Goals as goal

pub returns-in_err-reserve-clause-same : goal.returns-in_err-reserve-clause-same
returns-in_err-reserve-clause-same c = λ writes h.
    record { records = c.reserve.ensures.same writes (is_replaced writes) h.records; history = h.history }

pub returns-in_err-reserve_writes-clause-same : goal.returns-in_err-reserve_writes-clause-same
returns-in_err-reserve_writes-clause-same c = λ writes h.
    c.reserve_writes.ensures.same writes (record { records = c.reserve.ensures.same writes (is_replaced writes) h.records; history = h.history })

pub returns-clause-same : goal.returns-clause-same
returns-clause-same c = λ writes h.
    let there = c.reserve_writes.ensures.same writes (record { records = c.reserve.ensures.same writes (is_replaced writes) h.records; history = h.history }) in
    record { records = there.records; history = there.history }
