use Rattle.moka_desk.specs.Writes.{write_part}
use Rattle.moka_desk.proofs.Allowed.{leaves_none}
use Rattle.moka_desk.proofs.state.Desk.read_clock.Goals as goal

pub returns-clause-makes : goal.returns-clause-makes
returns-clause-makes g c = λ w h may. record {
  rules = h.rules;
  clock = h.clock;
  valid_after = h.valid_after;
  predicates = h.predicates;
  accessed = h.accessed;
  turn = h.turn;
  published = h.published;
  last = h.last;
  writes = c.give_up.ensures.makes (write_part w) h.writes (leaves_none (w.holding c.args.call) c.args.call may);
  loads = h.loads;
  locks = h.locks;
  notices = h.notices;
  asks = h.asks;
  listed = h.listed;
}
