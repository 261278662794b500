-- The predicates leave, and all else is as it was.
use Rattle.std.proofs.Common.{ℕ, List, subst}
use Rattle.moka_desk.specs.Predicates.{predicate_part, without_named, PredicatesAre}
use Rattle.moka_desk.proofs.state.Desk.retire.Goals as goal

pub returns-clause-makes : goal.returns-clause-makes
returns-clause-makes g c = λ w h. record {
  rules = h.rules;
  clock = h.clock;
  valid_after = h.valid_after;
  predicates = subst (λ (ids : List (ℕ × ℕ)). PredicatesAre c.retire.new.self (without_named (predicate_part w) ids)) c.as_slice.ensures (c.retire.ensures (predicate_part w) h.predicates);
  accessed = h.accessed;
  turn = h.turn;
  published = h.published;
  last = h.last;
  writes = h.writes;
  loads = h.loads;
  locks = h.locks;
  notices = h.notices;
  asks = h.asks;
  listed = h.listed;
}

pub returns-clause-misses : goal.returns-clause-misses
returns-clause-misses g c = λ w h m. record {
  turns = m.turns;
  settlements = m.settlements;
  answers = m.answers;
  locks = m.locks;
  notices = m.notices;
}
