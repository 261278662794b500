use Rattle.moka_desk.specs.History.{keeps_history}
use Rattle.moka_desk.specs.Notices.{notice_part}
use Rattle.moka_desk.proofs.Allowing.{alike_unopened}
use Rattle.moka_desk.proofs.Coming.{is_false}
use Rattle.moka_desk.proofs.Histories.{keeps_notices, not_recalled, not_there, tests_by}
use Rattle.moka_desk.proofs.state.Desk.opened_none.Goals as goal

pub returns : goal.returns
returns g c = λ w s.
    let desk = c.args.self.now in
    let call = c.args.call in
    let recalled = c.recalls.ensures in
    tests_by (keeps_history desk) _
    (λ whole. not_there c.recalls.result (w.notices call) (recalled.exact (keeps_notices desk.writes.applied.history desk.notices.history desk.moments whole) (notice_part w) s.notices))
    (not_recalled c.recalls.result (w.notices call) (recalled.opened (notice_part w) s.notices))
    (λ yes. let no = is_false c.recalls.result yes in alike_unopened g.K.PartialEq.eq desk w s call (recalled.quiet no) (recalled.over no))
