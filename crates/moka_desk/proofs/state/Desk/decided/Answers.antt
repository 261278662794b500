use Rattle.moka_desk.specs.Writes.{write_part}
use Rattle.moka_desk.proofs.state.Desk.decided.Goals as goal

pub returns-clause-makes : goal.returns-clause-makes
returns-clause-makes g c = λ w h. record {
  rules = h.rules;
  clock = h.clock;
  valid_after = h.valid_after;
  predicates = h.predicates;
  accessed = h.accessed;
  turn = h.turn;
  published = h.published;
  last = h.last;
  writes = c.decide.ensures.makes (write_part w) h.writes;
  loads = h.loads;
  locks = h.locks;
  notices = h.notices;
  asks = h.asks;
  listed = h.listed;
}
