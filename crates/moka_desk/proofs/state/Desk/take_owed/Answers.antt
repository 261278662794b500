use Rattle.std.proofs.Common.{◌∙◌}
use Rattle.moka_hist.proofs.Owners.{is_none_of}
use Rattle.moka_desk.specs.Writes.{write_part}
use Rattle.moka_desk.proofs.state.Desk.take_owed.Goals as goal

pub take_owed-requires : goal.take_owed-requires
take_owed-requires g c =
    let w = c.requires.0 in
    let h = c.requires.1 in
    record { free = h.writes.holding c.args.call ∙ is_none_of (w.holding c.args.call) c.requires.2 }

pub returns-clause-makes : goal.returns-clause-makes
returns-clause-makes g c = λ w h may. record {
  rules = h.rules;
  clock = h.clock;
  valid_after = h.valid_after;
  predicates = h.predicates;
  accessed = h.accessed;
  turn = h.turn;
  published = h.published;
  last = h.last;
  writes = c.take_owed.ensures.makes (write_part w) h.writes;
  loads = h.loads;
  locks = h.locks;
  notices = h.notices;
  asks = h.asks;
  listed = h.listed;
}
