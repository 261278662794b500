-- An owner ends, and those on its list are handed out.
use Rattle.std.proofs.Common.{nat_lt}
use Rattle.moka_desk.specs.Waits.{settlement_line}
use Rattle.moka_desk.proofs.Waiters.{settles_listed, some_reader}
use Rattle.moka_desk.proofs.state.Desk.settle.Goals as goal

pub returns-clause-makes : goal.returns-clause-makes
returns-clause-makes g c = λ w h may.
    let self = c.args.self.now in
    let call = c.args.call in
    record {
      rules = h.rules;
      clock = h.clock;
      valid_after = h.valid_after;
      predicates = h.predicates;
      accessed = h.accessed;
      turn = h.turn;
      published = h.published;
      last = h.last;
      writes = h.writes;
      loads = c.settle.ensures w h.loads;
      locks = h.locks;
      notices = h.notices;
      asks = h.asks;
      listed = settles_listed (settlement_line self) w.joined w.settled w.owning h.listed call c.args.with (nat_lt 0 (w.readers call)) _
          (λ k mine. some_reader g.K.PartialEq.eq self.loads w h.loads k call mine) c.hand_out.ensures.none;
    }
