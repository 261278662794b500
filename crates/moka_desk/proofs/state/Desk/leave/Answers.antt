use Rattle.std.proofs.Common.{◌≡◌, ℕ, ◌==◌, Bool, [], not, ◌&&◌, ◌++◌, nat_lt, false, cond, List, Some, None, is_some, IsNone, IfSome, true, refl, sym, ap, ◌∙◌, subst, option_to_list}
use Rattle.std.proofs.lemmas.Bool.{eqb-true}
use Rattle.moka_sync.specs.Waiting.{without}
use Rattle.moka_hist.specs.Finite.{put_at}
use Rattle.moka_hist.specs.Conditions.{MayLeaveWith}
use Rattle.moka_hist.specs.Visits.{is_reader_of, is_running, key_under, number_of, settled_without}
use Rattle.moka_hist.specs.declared.visits.Settled.TheVariants as settled
use Rattle.moka_desk.specs.Asks.{ask_part}
use Rattle.moka_desk.specs.Held.{holds_number}
use Rattle.moka_desk.specs.Locks.{key_in, lock_part, locks_but, LocksAre}
use Rattle.moka_desk.specs.Writes.{write_part, WritesAre}
use Rattle.moka_desk.specs.Waits.{lock_line, settlement_line}
use Rattle.moka_desk.specs.Woken.{all_but, and_calls, is_out}
use Rattle.moka_desk.proofs.Allowed.{leaves_its_own}
use Rattle.moka_desk.proofs.Misses.{answers_miss, come_if_listed, come_listed, left_listed, none_else, none_still, some_left}
use Rattle.moka_desk.proofs.Waiters.{leaves_listed, more_readers, put_none, settles_listed, some_reader}
use Rattle.moka_desk.proofs.state.Desk.leave.Goals as goal

pub leave-requires : goal.leave-requires
leave-requires g c =
    let w = c.requires.0 in
    let h = c.requires.1 in
    subst (λ o. IfSome c.owed_as-owed.result (λ x. holds_number c.args.call (number_of x.write) o ≡ true)) (sym (h.writes.holding c.args.call))
    (leaves_its_own (w.holding c.args.call) c.args.call c.owed_as-owed.result
    (subst (MayLeaveWith (w.holding c.args.call) c.args.call) (sym c.owed_as-owed.ensures.same) c.requires.2))

pub returns-clause-makes : goal.returns-clause-makes
returns-clause-makes g c = λ w h may.
    let eq = g.K.PartialEq.eq in
    let self = c.args.self.now in
    let call = c.args.call in
    let line : ℕ → List ℕ = settlement_line self in
    let kept = subst (MayLeaveWith (w.holding c.args.call) c.args.call) (sym c.owed_as-owed.ensures.same) may in
    record {
      rules = h.rules;
      clock = h.clock;
      valid_after = h.valid_after;
      predicates = h.predicates;
      accessed = h.accessed;
      turn = h.turn;
      published = h.published;
      last = h.last;
      writes = subst (λ held. WritesAre c.leave.new.self (record (write_part w) { holding = put_at w.holding c.args.call None; owed = w.owed ++ option_to_list held }))
          (c.owed_as-owed.ensures.notice w h) (c.leave.ensures.makes (write_part w) h.writes kept);
      loads = c.leave-2.ensures w c.args.held h.loads;
      locks = subst (λ (b : Bool). LocksAre eq c.leave-3.new.self (record {
        locks = cond b w.locks (locks_but (lock_part w) call);
        locked = put_at w.locked call None;
        kept = put_at w.kept call (cond b (key_in (lock_part w) call) None);
      })) (c.is_running-runs.ensures ∙ h.notices.running call)
          (c.leave-3.ensures (lock_part w) h.locks);
      notices = h.notices;
      asks = c.leave-4.ensures.makes (ask_part w) h.asks;
      listed = settles_listed (λ n. without call (line n)) (put_at w.joined call None) (settled_without w call) w.owning
          (leaves_listed line w.joined w.settled w.owning h.listed call w.readers (λ n. without call (line n)) (more_readers eq self.loads w h.loads) (λ n. refl))
          call settled.Aborted (nat_lt 0 (w.readers call)) _
          (λ k mine. some_reader eq self.loads w h.loads k call (put_none w.joined call k call mine)) c.leave-5.ensures.settlements;
    }

pub returns-clause-misses : goal.returns-clause-misses
returns-clause-misses g c = λ w h m.
    let call = c.args.call in
    let self = c.args.self.now in
    let others : ℕ → List ℕ = λ n. without call (settlement_line self n) in
    let lockers : ℕ → List ℕ = λ n. without call (lock_line self n) in
    let runs : c.is_running-runs.result ≡ is_running w call =
    c.is_running-runs.ensures ∙ h.notices.running call in
    record {
      turns = left_listed _ _ _ _ call c.leave-5.ensures.turns (λ n k other is. is) m.turns;
      settlements = come_listed others _ (λ n k. ((call == k) ≡ false) × (w.joined k ≡ Some n) × IsNone (w.settled n)) _ call c.leave-5.ensures.settlements
          (λ n k away is. (
            ap (λ b. cond b None (w.joined k)) is.0 ∙ is.1,
            none_else (is_some (w.owning call)) (nat_lt 0 (w.readers call)) (call == n) settled.Aborted (settled_without w call n) away
                (none_still (is_reader_of w call n && w.readers n == 1) (w.settled n) is.2),
          ))
          (left_listed (settlement_line self) others _ _ call (λ n. refl) (λ n k other is. (other, is.0, is.1)) m.settlements);
      answers = answers_miss c.leave-4.new.self.open_asks (put_at w.asks call None) (c.leave-4.ensures.makes (ask_part w) h.asks).open_asks;
      locks = come_if_listed lockers _ _ _ call (not c.is_running-runs.result) c.leave-5.ensures.locks
          (λ n k away is. (
            some_left (is_running w call) (call == n) (w.locked n) (w.kept n) (key_under w call) (ap (λ b. not b && call == n) (sym runs) ∙ away)
                (λ e. ap (key_under w) (eqb-true call n e)) is.0,
            is.1,
          ))
          (left_listed (lock_line self) lockers _ _ call (λ n. refl) (λ n k other is. is) m.locks);
      notices = left_listed _ _ _ _ call c.leave-5.ensures.notices (λ n k other is. is) m.notices;
    }

pub returns-clause-woken : goal.returns-clause-woken
returns-clause-woken g c =
    let self = c.args.self.now in
    let call = c.args.call in
    c.leave-5.ensures.woken ∙ ap (λ b. without call (settlement_line self call) ++ without call (cond b [] (lock_line self call))) c.is_running-runs.ensures

pub returns-clause-waits : goal.returns-clause-waits
returns-clause-waits g c = record {
  turns = c.leave-5.ensures.turns;
  settlements = c.leave-5.ensures.settlements;
  locks = λ n. c.leave-5.ensures.locks n ∙ ap (λ b. cond (not b && c.args.call == n) [] (without c.args.call (lock_line c.args.self.now n))) c.is_running-runs.ensures;
  notices = c.leave-5.ensures.notices;
  answers = c.leave-4.ensures.waits;
}

pub returns-clause-wakes : goal.returns-clause-wakes
returns-clause-wakes g c = record {
  turns = c.leave-5.ensures.turns_woken;
  settlements = c.leave-5.ensures.settlements_woken;
  answers = c.leave-4.ensures.back;
  locks = λ k. c.leave-5.ensures.locks_woken k
      ∙ ap (λ b. all_but c.args.call (and_calls (cond b [] (lock_line c.args.self.now c.args.call)) (is_out c.args.self.now.waits.locks)) k) c.is_running-runs.ensures;
  notices = c.leave-5.ensures.notices_woken;
}
