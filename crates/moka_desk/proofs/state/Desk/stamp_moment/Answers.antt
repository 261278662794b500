use Rattle.std.proofs.Common.{◌≡◌, ◌++◌, map, nat_eq, sym, ◌∙◌}
use Rattle.std.specs.HashMap.{get}
use Rattle.moka_hist.specs.Finite.{times}
use Rattle.moka_hist.specs.Visits.{number_of}
use Rattle.moka_hist.proofs.Owners.{is_none_of}
use Rattle.moka_desk.specs.Held.{held_by}
use Rattle.moka_desk.specs.Notices.{notice_part}
use Rattle.moka_desk.specs.Writes.{write_part}
use Rattle.moka_desk.proofs.Numbers.{unposted, unused_logged}
use Rattle.moka_desk.proofs.Owing.{has_no_place}
use Rattle.moka_desk.proofs.Outcomes.{on_err}
use Rattle.moka_desk.proofs.state.Desk.stamp_moment.Goals as goal

pub stamp-requires-clause-unused : goal.stamp-requires-clause-unused
stamp-requires-clause-unused g c =
    let h = c.requires.1 in
    let may = c.requires.2 in
    let s = c.args.self.now.writes in
    let call = c.args.call in
    let w = c.requires.0 in
    let nowhere : times call (map number_of (map (λ o. o.write) s.owed.items ++ s.log.items ++ w.applied)) ≡ 0 = rw (h.writes.owed, h.writes.log) may.1.stands in
    is_none_of _ (has_no_place (get nat_eq s.held.holders) (held_by s.held.holdings) s.held.agree s.owed.items s.log.items w.applied s.nobody_holds_owed call nowhere
    (λ n held is. may.1.held n held (sym (h.writes.holding n) ∙ is)))

pub stamp-requires-clause-unposted : goal.stamp-requires-clause-unposted
stamp-requires-clause-unposted g c =
    let w = c.requires.0 in
    let h = c.requires.1 in
    let s = c.args.self.now.writes in
    let call = c.args.call in
    let none : times call (map number_of s.log.items) ≡ 0 = rw h.writes.log (unused_logged call w.owed w.log w.applied c.requires.2.1.stands) in
    unposted _ _ (s.posted_are call) none

pub stamp-requires-clause-free : goal.stamp-requires-clause-free
stamp-requires-clause-free g c =
    let w = c.requires.0 in
    let h = c.requires.1 in
    h.writes.holding c.args.call ∙ is_none_of (w.holding c.args.call) c.requires.2.0

pub returns-in_err-reserve-clause-err : goal.returns-in_err-reserve-clause-err
returns-in_err-reserve-clause-err g c = on_err c.from_residual.result (λ w h. record {
  rules = h.rules;
  clock = h.clock;
  valid_after = h.valid_after;
  predicates = h.predicates;
  accessed = h.accessed;
  turn = h.turn;
  published = h.published;
  last = h.last;
  writes = h.writes;
  loads = h.loads;
  locks = h.locks;
  notices = c.reserve.ensures.same (notice_part w) h.notices;
  asks = h.asks;
  listed = h.listed;
})

pub returns-in_err-stamp-clause-err : goal.returns-in_err-stamp-clause-err
returns-in_err-stamp-clause-err g c = on_err c.from_residual-in_err-stamp.result (λ w h. record {
  rules = h.rules;
  clock = h.clock;
  valid_after = h.valid_after;
  predicates = h.predicates;
  accessed = h.accessed;
  turn = h.turn;
  published = h.published;
  last = h.last;
  writes = c.in_err-stamp.ensures.err (write_part w) h.writes;
  loads = h.loads;
  locks = h.locks;
  notices = c.reserve.ensures.same (notice_part w) h.notices;
  asks = h.asks;
  listed = h.listed;
})

pub returns-clause-makes : goal.returns-clause-makes
returns-clause-makes g c = λ w h may. record {
  rules = h.rules;
  clock = h.clock;
  valid_after = h.valid_after;
  predicates = h.predicates;
  accessed = h.accessed;
  turn = h.turn;
  published = h.published;
  last = h.last;
  writes = rw (← h.clock) (c.in_ok-stamp.ensures.ok (write_part w) h.writes (record { stands = may.1.stands; held = may.1.held }));
  loads = h.loads;
  locks = h.locks;
  notices = c.reserve.ensures.same (notice_part w) h.notices;
  asks = h.asks;
  listed = h.listed;
}
