use Rattle.std.proofs.Common.{◌≡◌, false, sym, subst, ◌∙◌}
use Rattle.moka_sync.specs.Waiting.{waits}
use Rattle.moka_desk.specs.Waits.{turn_line}
use Rattle.moka_desk.proofs.Outcomes.{on_err}
use Rattle.moka_desk.proofs.Misses.{kept_turn, anothers_turn, left_listed, not_this, wait_listed}
use Rattle.moka_desk.proofs.state.Desk.take_turn.Goals as goal

pub returns-in-Some-clause-misses : goal.returns-in-Some-clause-misses
returns-in-Some-clause-misses g c = λ w h may m.
    let holder = anothers_turn _ c.args.call c.in-Some.holder (sym c.turn_of_another.ensures ∙ c.in-Some.is) in
    record {
      turns = wait_listed _ _ _ _ c.in-Some.holder c.args.call c.in_ok-wait.ensures.ok (kept_turn w.turn c.in-Some.holder c.args.call (sym h.turn ∙ holder.0), holder.1)
          (λ n k is. (kept_turn w.turn n c.args.call is.0, is.1)) m.turns;
      settlements = m.settlements;
      answers = m.answers;
      locks = m.locks;
      notices = m.notices;
    }

pub returns-clause-misses : goal.returns-clause-misses
returns-clause-misses g c = λ w h may m. record {
  turns = left_listed _ _ _ _ c.args.call c.leave.ensures.off (λ n k other is. (kept_turn w.turn n c.args.call is.0, is.1)) m.turns;
  settlements = m.settlements;
  answers = m.answers;
  locks = m.locks;
  notices = m.notices;
}

pub returns-in_err-wait-clause-needs_place : goal.returns-in_err-wait-clause-needs_place
returns-in_err-wait-clause-needs_place g c = on_err c.from_residual.result (λ holder is.
    let self = c.args.self.now in
    let had = anothers_turn _ c.args.call c.in-Some.holder (sym c.turn_of_another.ensures ∙ c.in-Some.is) in
    subst (λ n. waits c.args.call (turn_line self n) ≡ false) (not_this self.turn c.in-Some.holder holder had.0 is) c.in_err-wait.ensures.needs)
