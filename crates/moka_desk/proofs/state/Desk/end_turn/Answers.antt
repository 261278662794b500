-- What is published is what stands.
use Rattle.std.proofs.Common.{refl}
use Rattle.moka_desk.proofs.state.Desk.end_turn.Goals as goal

pub returns-clause-makes : goal.returns-clause-makes
returns-clause-makes g c = λ w h may. record {
  rules = h.rules;
  clock = h.clock;
  valid_after = h.valid_after;
  predicates = h.predicates;
  accessed = h.accessed;
  turn = refl;
  published = c.standing-self.ensures w.applied h.writes.applied;
  last = h.last;
  writes = h.writes;
  loads = h.loads;
  locks = h.locks;
  notices = h.notices;
  asks = h.asks;
  listed = h.listed;
}
