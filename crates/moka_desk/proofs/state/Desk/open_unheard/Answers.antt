use Rattle.moka_desk.specs.Notices.{notice_part}
use Rattle.moka_desk.specs.Writes.{write_part}
use Rattle.moka_desk.proofs.Outcomes.{on_err}
use Rattle.moka_hist.proofs.Owners.{is_none_of}
use Rattle.moka_desk.proofs.state.Desk.open_unheard.Goals as goal

pub returns-in_err-asked-clause-err : goal.returns-in_err-asked-clause-err
returns-in_err-asked-clause-err g c = on_err c.from_residual.result (λ w h. record {
  rules = h.rules;
  clock = h.clock;
  valid_after = h.valid_after;
  predicates = h.predicates;
  accessed = h.accessed;
  turn = h.turn;
  published = h.published;
  last = h.last;
  writes = h.writes;
  loads = h.loads;
  locks = h.locks;
  notices = c.in_err-asked.ensures.err (notice_part w) h.notices;
  asks = h.asks;
  listed = h.listed;
})

pub returns-clause-makes : goal.returns-clause-makes
returns-clause-makes g c = λ key value w h may. record {
  rules = h.rules;
  clock = h.clock;
  valid_after = h.valid_after;
  predicates = h.predicates;
  accessed = h.accessed;
  turn = h.turn;
  published = h.published;
  last = h.last;
  writes = c.decide.ensures.makes (write_part w) h.writes;
  loads = h.loads;
  locks = h.locks;
  notices = rw (← c.cause_of-cause.ensures w h) (c.in_ok-asked.ensures.ok (record { key = key; value = value; cause = c.cause_of-cause.result }) (notice_part w) h.notices (is_none_of (w.notices c.args.call) may));
  asks = h.asks;
  listed = h.listed;
}
