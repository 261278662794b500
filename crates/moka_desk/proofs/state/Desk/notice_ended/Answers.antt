use Rattle.std.proofs.Common.{◌≡◌, true, sym, ◌∙◌}
use Rattle.moka_hist.specs.Visits.{is_running}
use Rattle.moka_desk.proofs.Misses.{left_listed, wait_listed}
use Rattle.moka_desk.proofs.state.Desk.notice_ended.Goals as goal

pub returns-then-is_running-clause-misses : goal.returns-then-is_running-clause-misses
returns-then-is_running-clause-misses g c = λ w h may m.
    let number = c.args.notice in
    let here : c.is_running.result ≡ true = c.if-is_running.true in
    let runs : is_running w number ≡ true =
    sym (h.notices.running number) ∙ sym c.is_running.ensures ∙ here in
    record {
      turns = m.turns;
      settlements = m.settlements;
      answers = m.answers;
      locks = m.locks;
      notices = wait_listed _ _ _ _ number c.args.call c.in_ok-wait.ensures.ok runs (λ n k is. is) m.notices;
    }

pub returns-clause-misses : goal.returns-clause-misses
returns-clause-misses g c = λ w h may m. record {
  turns = m.turns;
  settlements = m.settlements;
  answers = m.answers;
  locks = m.locks;
  notices = left_listed _ _ _ _ c.args.call c.leave.ensures.off (λ n k other is. is) m.notices;
}
