use Rattle.std.proofs.Common.{◌≡◌, ◌==◌, true, false, Some, None, is_some, refl, sym, ap, subst, ◌∙◌}
use Rattle.std.specs.Option.{option_map_or}
use Rattle.moka_sync.specs.Waiting.{waits}
use Rattle.moka_hist.proofs.Owners.{is_none_of}
use Rattle.moka_hist.specs.Visits.{is_unlocked_for, key_under, locked_by, taken_under}
use Rattle.moka_hist.specs.declared.visits.Found.TheVariants as found
use Rattle.moka_hist.specs.declared.visits.LockTaken.TheVariants as taken
use Rattle.moka_desk.specs.Locks.{holder_of, is_kept, lock_part, lock_under}
use Rattle.moka_desk.specs.StandsFor.{StandsFor}
use Rattle.moka_desk.specs.ListedMiss.{ListedMiss}
use Rattle.moka_desk.specs.Waits.{lock_line, waits_at}
use Rattle.moka_desk.proofs.Allowed.{held_by_another}
use Rattle.moka_desk.proofs.LockParts.{keeping_at, not_taken, taken_by_another}
use Rattle.moka_desk.proofs.Misses.{by_cases, there, apart, none_or, not_this, some_or, left_listed, wait_listed}
use Rattle.moka_desk.proofs.Outcomes.{on_err}
use Rattle.moka_desk.proofs.Waiters.{nobody}
use Rattle.moka_desk.proofs.state.Desk.lock_key.Goals as goal

pub returns-in-Some-clause-finds : goal.returns-in-Some-clause-finds
returns-in-Some-clause-finds g c = λ w h may.
    let eq = g.K.PartialEq.eq in
    let call = c.args.call in
    let key = c.args.key.now in
    let holder = c.in-Some.holder in
    let held : w.locks key ≡ Some holder = sym (h.locks.holders key) ∙ sym c.holder.ensures ∙ c.in-Some.is in
    let other : is_unlocked_for w call key ≡ false =
    held_by_another eq w.locks (key_under w) h.locks.holds key call (none_or (w.locked call) (w.kept call) may.0 may.1) (ap is_some held) in
    ap found.LockKey (c.taken.ensures ∙ sym (taken_by_another w call key holder (is_kept (lock_under c.args.self.now.locks holder)) held other
    (keeping_at eq c.args.self.now.locks (lock_part w) h.locks holder)))

pub returns-in-Some-clause-makes : goal.returns-in-Some-clause-makes
returns-in-Some-clause-makes g c = λ w h may.
    let some : is_some (w.locks c.args.key.now) ≡ true = ap is_some (sym (h.locks.holders c.args.key.now) ∙ sym c.holder.ensures ∙ c.in-Some.is) in
    let other : is_unlocked_for w c.args.call c.args.key.now ≡ false =
    held_by_another g.K.PartialEq.eq w.locks (key_under w) h.locks.holds c.args.key.now c.args.call (none_or (w.locked c.args.call) (w.kept c.args.call) may.0 may.1) some in
    subst (λ b. StandsFor g.K.PartialEq.eq (record c.args.self.now { waits = record c.args.self.now.waits { locks = c.wait.new.self } }) (locked_by g.K.PartialEq.eq w c.args.call c.args.key.now b)) (sym other) (record {
      rules = h.rules;
      clock = h.clock;
      valid_after = h.valid_after;
      predicates = h.predicates;
      accessed = h.accessed;
      turn = h.turn;
      published = h.published;
      last = h.last;
      writes = h.writes;
      loads = h.loads;
      locks = h.locks;
      notices = h.notices;
      asks = h.asks;
      listed = h.listed;
    })

pub returns-in-Some-clause-misses : goal.returns-in-Some-clause-misses
returns-in-Some-clause-misses g c = λ w h may m.
    let eq = g.K.PartialEq.eq in
    let self = c.args.self.now in
    let call = c.args.call in
    let key = c.args.key.now in
    let holder = c.in-Some.holder in
    let none = none_or (w.locked call) (w.kept call) may.0 may.1 in
    let held : w.locks key ≡ Some holder = sym (h.locks.holders key) ∙ sym c.holder.ensures ∙ c.in-Some.is in
    let locked = there _ (key_under w holder) (h.locks.holds key holder held) in
    let other : is_unlocked_for w call key ≡ false = held_by_another eq w.locks (key_under w) h.locks.holds key call none (ap is_some held) in
    subst (λ b. ListedMiss (record self { waits = record self.waits { locks = c.wait.new.self } }) (locked_by eq w call key b)) (sym other) (record {
      turns = m.turns;
      settlements = m.settlements;
      answers = m.answers;
      locks = wait_listed _ _ _ _ holder call c.in_ok-wait.ensures.ok (locked, apart (key_under w) holder call locked none) (λ n k is. is) m.locks;
      notices = m.notices;
    })

pub returns-clause-makes : goal.returns-clause-makes
returns-clause-makes g c = λ w h may.
    let eq = g.K.PartialEq.eq in
    let self = c.args.self.now in
    let call = c.args.call in
    let key = c.args.key.now in
    let free : w.locks key ≡ None = sym (h.locks.holders key) ∙ sym c.holder.ensures ∙ c.in_default.is in
    let unlocked : is_unlocked_for w call key ≡ true = ap (λ o. option_map_or (λ holder. holder == call) o true) free in
    subst (λ b. StandsFor eq (record self { locks = c.lock.new.self; waits = record self.waits { locks = c.leave.new.self } }) (locked_by eq w call key b)) (sym unlocked) (record {
      rules = h.rules;
      clock = h.clock;
      valid_after = h.valid_after;
      predicates = h.predicates;
      accessed = h.accessed;
      turn = h.turn;
      published = h.published;
      last = h.last;
      writes = h.writes;
      loads = h.loads;
      locks = c.in_ok-lock.ensures.ok (lock_part w) h.locks free (is_none_of (w.locked call) may.0) (is_none_of (w.kept call) may.1);
      notices = h.notices;
      asks = h.asks;
      listed = h.listed;
    })

pub returns-in-Some-clause-locked : goal.returns-in-Some-clause-locked
returns-in-Some-clause-locked g c = λ e. absurd (not_taken (lock_under c.args.self.now.locks c.in-Some.holder) c.in-Some.holder (sym c.taken.ensures ∙ e))

pub returns-in-Some-clause-waits : goal.returns-in-Some-clause-waits
returns-in-Some-clause-waits g c = λ not. (
  λ n. c.in_ok-wait.ensures.ok n ∙ ap (λ o. waits_at o c.args.call n (lock_line c.args.self.now n)) (sym c.in-Some.is ∙ c.holder.ensures),
  refl,
  refl,
)

pub returns-clause-locked : goal.returns-clause-locked
returns-clause-locked g c = λ e. (c.leave.ensures.off, refl, refl)

pub returns-clause-waits : goal.returns-clause-waits
returns-clause-waits g c = λ not. absurd (not refl)

pub returns-clause-finds : goal.returns-clause-finds
returns-clause-finds g c = λ w h may.
    ap (λ o. found.LockKey (option_map_or (taken_under w c.args.call) o taken.Taken)) (sym c.in_default.is ∙ c.holder.ensures ∙ h.locks.holders c.args.key.now)

pub returns-clause-misses : goal.returns-clause-misses
returns-clause-misses g c = λ w h may m.
    let eq = g.K.PartialEq.eq in
    let self = c.args.self.now in
    let call = c.args.call in
    let key = c.args.key.now in
    by_cases (λ b. ListedMiss (record self { locks = c.lock.new.self; waits = record self.waits { locks = c.leave.new.self } }) (locked_by eq w call key b))
    (record {
      turns = m.turns;
      settlements = m.settlements;
      answers = m.answers;
      locks = left_listed _ _ _ _ call c.leave.ensures.off (λ n k other is. (some_or (call == n) key (w.locked n) (w.kept n) is.0, is.1)) m.locks;
      notices = m.notices;
    })
    (record {
      turns = m.turns;
      settlements = m.settlements;
      answers = m.answers;
      locks = left_listed _ _ _ _ call c.leave.ensures.off (λ n k other is. is) m.locks;
      notices = m.notices;
    })
    (is_unlocked_for w call key)

pub returns-in_err-wait-clause-needs_place : goal.returns-in_err-wait-clause-needs_place
returns-in_err-wait-clause-needs_place g c = on_err c.from_residual.result (λ holder is.
    let self = c.args.self.now in
    subst (λ n. waits c.args.call (lock_line self n) ≡ false)
    (not_this (holder_of g.K.PartialEq.eq self.locks c.args.key.now) c.in-Some.holder holder (sym c.holder.ensures ∙ c.in-Some.is) is) c.in_err-wait.ensures.needs)

pub returns-in_err-lock-clause-needs_place : goal.returns-in_err-lock-clause-needs_place
returns-in_err-lock-clause-needs_place g c = on_err c.from_residual-in_err-lock.result (λ holder is.
    absurd (nobody holder (sym c.in_default.is ∙ c.holder.ensures ∙ is)))
