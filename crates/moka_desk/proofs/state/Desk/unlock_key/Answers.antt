use Rattle.std.proofs.Common.{ℕ, ◌==◌, Option, None, subst}
use Rattle.moka_hist.specs.Finite.{put_at}
use Rattle.moka_desk.specs.Locks.{lock_part, locks_but, LocksAre}
use Rattle.moka_desk.specs.Writes.{write_part}
use Rattle.moka_desk.proofs.Allowed.{leaves_none}
use Rattle.moka_desk.proofs.LockParts.{live_keeps_none, out_of_none}
use Rattle.moka_desk.proofs.Misses.{come_listed, some_but}
use Rattle.moka_desk.proofs.state.Desk.unlock_key.Goals as goal

pub returns-clause-makes : goal.returns-clause-makes
returns-clause-makes g c = λ w h may.
    let eq = g.K.PartialEq.eq in
    let call = c.args.call in
    let none = live_keeps_none eq c.args.self.now.locks (lock_part w) h.locks call may.0 in
    record {
      rules = h.rules;
      clock = h.clock;
      valid_after = h.valid_after;
      predicates = h.predicates;
      accessed = h.accessed;
      turn = h.turn;
      published = h.published;
      last = h.last;
      writes = c.conclude.ensures.makes (write_part w) h.writes
          (λ none. leaves_none (w.holding call) call (may.1 none));
      loads = h.loads;
      locks = subst (λ (f : ℕ → Option g.row.K.Denot). LocksAre eq c.free.new.self (record {
        locks = locks_but (lock_part w) call;
        locked = put_at w.locked call None;
        kept = f;
      })) (λ i n. out_of_none w.kept call n none i) (c.free.ensures (lock_part w) h.locks);
      notices = h.notices;
      asks = h.asks;
      listed = h.listed;
    }

pub returns-clause-misses : goal.returns-clause-misses
returns-clause-misses g c = λ w h may m. record {
  turns = m.turns;
  settlements = m.settlements;
  answers = m.answers;
  locks = come_listed _ _ _ _ c.args.call c.hand_out.ensures.none (λ n k away is. (some_but (c.args.call == n) (w.locked n) (w.kept n) away is.0, is.1)) m.locks;
  notices = m.notices;
}
