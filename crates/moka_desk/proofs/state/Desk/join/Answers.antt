-- A call joins an owner, on its list.
use Rattle.std.proofs.Common.{Some, ap, ◌∙◌}
use Rattle.moka_sync.specs.Waiting.{waits}
use Rattle.moka_desk.specs.Loads.{load_part}
use Rattle.moka_desk.specs.Waits.{settlement_line}
use Rattle.moka_desk.proofs.Misses.{still_at, wait_listed}
use Rattle.moka_desk.proofs.Outcomes.{on_err}
use Rattle.moka_desk.proofs.Parts.{join_stands}
use Rattle.moka_desk.proofs.Waiters.{joins_listed, put_here}
use Rattle.moka_desk.proofs.state.Desk.join.Goals as goal

pub join-requires-clause-apart : goal.join-requires-clause-apart
join-requires-clause-apart g c = c.make_room_to_join.ensures.joined c.args.call ∙ c.requires.apart

pub returns-clause-makes : goal.returns-clause-makes
returns-clause-makes g c = λ w h owns.
    let self = c.args.self.now in
    let call = c.args.call in
    let owner = c.args.owner in
    join_stands g.K.PartialEq.eq self w h call owner c.join.new.self c.wait.new.self
    (c.join.ensures.makes (load_part w) (c.make_room_to_join.ensures.same (load_part w) h.loads))
    (joins_listed (settlement_line self) w.joined w.settled w.owning h.listed call owner _ owns c.in_ok-wait.ensures.ok)

pub returns-in_err-wait-clause-err : goal.returns-in_err-wait-clause-err
returns-in_err-wait-clause-err g c = on_err c.from_residual-in_err-wait.result (λ w h. record {
  rules = h.rules;
  clock = h.clock;
  valid_after = h.valid_after;
  predicates = h.predicates;
  accessed = h.accessed;
  turn = h.turn;
  published = h.published;
  last = h.last;
  writes = h.writes;
  loads = c.make_room_to_join.ensures.same (load_part w) h.loads;
  locks = h.locks;
  notices = h.notices;
  asks = h.asks;
  listed = λ k n is none.
      let was = h.listed k n is none in
      (was.0, ap (waits k) (c.in_err-wait.ensures.err n) ∙ was.1);
})

pub returns-clause-misses : goal.returns-clause-misses
returns-clause-misses g c = λ w none unended m.
    let call = c.args.call in
    let owner = c.args.owner in
    record {
      turns = m.turns;
      settlements = wait_listed _ _ _ _ owner call c.in_ok-wait.ensures.ok (put_here w.joined call owner, unended)
          (λ n k is. (still_at w.joined call k (Some owner) n none is.0, is.1)) m.settlements;
      answers = m.answers;
      locks = m.locks;
      notices = m.notices;
    }
