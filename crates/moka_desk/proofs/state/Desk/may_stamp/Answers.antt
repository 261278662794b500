use Rattle.moka_desk.specs.Writes.{write_part}
use Rattle.moka_desk.specs.History.{keeps_history}
use Rattle.moka_desk.proofs.Allowing.{alike_unused}
use Rattle.moka_desk.proofs.Histories.{keeps_writes, tests_by}
use Rattle.moka_desk.proofs.state.Desk.may_stamp.Goals as goal

pub returns-then-holds_nothing : goal.returns-then-holds_nothing
returns-then-holds_nothing g c = λ w s.
    let call = c.args.call in
    let desk = c.args.self.now in
    let none = (c.holds_nothing.ensures w s).0 c.if-holds_nothing.true in
    let all = c.is_unused.ensures in
    tests_by (keeps_history desk) c.is_unused.result
    (λ whole.
    let unused = all.exact (keeps_writes desk.writes.applied.history desk.notices.history desk.moments whole) (write_part w) s.writes in (
      (λ t. (none, record { stands = (unused.0 t).stands; held = (unused.0 t).held })),
      (λ h. unused.1 (record { stands = h.1.stands; held = h.1.held })),
    ))
    (λ h. all.no (write_part w) s.writes (record { stands = h.1.stands; held = h.1.held }))
    (λ yes. alike_unused g.K.PartialEq.eq desk w s call none (all.forgotten yes (write_part w) s.writes))
