use Rattle.std.proofs.Common.{◌≡◌, ◌==◌, ◌&&◌, ◌++◌, [], false, cond, is_some, refl, sym, ap, ◌∙◌}
use Rattle.std.proofs.lemmas.Bool.{eqb-true}
use Rattle.std.specs.Option.{option_map, option_map_or}
use Rattle.moka_hist.specs.Telling.{with_end}
use Rattle.moka_hist.specs.Visits.{runs}
use Rattle.moka_desk.specs.Locks.{lock_part}
use Rattle.moka_desk.specs.Notices.{notice_part}
use Rattle.moka_desk.specs.Waits.{lock_line}
use Rattle.moka_desk.specs.Woken.{and_calls, is_out}
use Rattle.moka_desk.proofs.LockParts.{keeping_at}
use Rattle.moka_desk.proofs.Misses.{come_if_listed, come_listed, some_ended}
use Rattle.moka_desk.proofs.state.Desk.end.Goals as goal

pub returns-clause-makes : goal.returns-clause-makes
returns-clause-makes g c = λ w h may. record {
  rules = h.rules;
  clock = h.clock;
  valid_after = h.valid_after;
  predicates = h.predicates;
  accessed = h.accessed;
  turn = h.turn;
  published = h.published;
  last = h.last;
  writes = h.writes;
  loads = h.loads;
  locks = c.release-kept.ensures.makes (lock_part w) h.locks;
  notices = c.end.ensures.makes (notice_part w) h.notices may;
  asks = h.asks;
  listed = h.listed;
}

pub returns-clause-misses : goal.returns-clause-misses
returns-clause-misses g c = λ w h m.
    let notice = c.args.notice in
    let keeps : c.release-kept.result ≡ is_some (w.kept notice) =
    c.release-kept.ensures.freed ∙ keeping_at g.K.PartialEq.eq c.args.self.now.locks (lock_part w) h.locks notice in
    record {
      turns = m.turns;
      settlements = m.settlements;
      answers = m.answers;
      locks = come_if_listed _ _ _ _ notice c.release-kept.result c.take_if-lock.ensures.none
          (λ n k away is. (some_ended c.release-kept.result (notice == n) (w.locked n) (w.kept n) away (λ e. ap (λ m. is_some (w.kept m)) (sym (eqb-true notice n e)) ∙ sym keeps) is.0, is.1))
          m.locks;
      notices = come_listed _ _ _ _ notice c.take-heard.ensures.none
          (λ n k away is. ap (λ b. option_map_or (λ x. runs x.state) (cond b (option_map with_end (w.notices notice)) (w.notices n)) false) away ∙ is)
          m.notices;
    }

pub returns-clause-woken : goal.returns-clause-woken
returns-clause-woken g c =
    let self = c.args.self.now in
    c.hand_both.ensures
    ∙ (λ i. c.take-heard.ensures.all i
    ++ (c.take_if-lock.ensures.all ∙ ap (λ b. cond b (lock_line self c.args.notice) []) c.release-kept.ensures.freed) i)

pub returns-clause-waits : goal.returns-clause-waits
returns-clause-waits g c = record {
  notices = c.take-heard.ensures.none;
  locks = λ n. c.take_if-lock.ensures.none n ∙ ap (λ b. cond (b && c.args.notice == n) [] (lock_line c.args.self.now n)) c.release-kept.ensures.freed;
  others = refl;
  asks = refl;
}

pub returns-clause-wakes : goal.returns-clause-wakes
returns-clause-wakes g c = record {
  turns = λ k. refl;
  settlements = λ k. refl;
  answers = λ k. refl;
  locks = λ k. c.take_if-lock.ensures.woken k
      ∙ ap (λ b. and_calls (cond b (lock_line c.args.self.now c.args.notice) []) (is_out c.args.self.now.waits.locks) k) c.release-kept.ensures.freed;
  notices = c.take-heard.ensures.woken;
}
