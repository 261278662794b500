-- What a step lists of notices and holds of locks, and what follows of notices that were opened.
use Rattle.std.proofs.Common.{◌≡◌, inl, inr, ℕ, ◌≤◌, ◌==◌, Bool, true, false, List, [], ◌∷◌, Option, Some, None, refl, sym, ap, ◌∙◌, subst, arith}
use Rattle.std.specs.Option.{option_map}
use Rattle.std.proofs.lemmas.Bool.{eqb-true}
use Rattle.moka_hist.specs.Finite.{put_at}
use Rattle.moka_hist.specs.Notices.{OpensNotice}
use Rattle.moka_hist.specs.Plan.{Item}
use Rattle.moka_hist.specs.Plan as plan
use Rattle.moka_hist.specs.State.{State, Call, fresh}
use Rattle.moka_hist.specs.Run.{IsReached, with_desk}
use Rattle.moka_hist.specs.Step.{Step}
use Rattle.moka_hist.specs.Telling.{heard, with_end}
use Rattle.moka_hist.specs.Visits.{cause_of}
use Rattle.moka_hist.specs.declared.accesses.Turn.{Turn}
use Rattle.moka_hist.specs.declared.notices.Notice.{Notice}
use Rattle.moka_hist.specs.declared.records.Stored.{Stored}
use Rattle.moka_hist.specs.declared.rules.Cause.{Cause}
use Rattle.moka_laws.specs.Listening.{locked_key}
use Rattle.moka_laws.specs.Starting.{Leads}
use Rattle.moka_laws.proofs.Counting.{none_some, put_cases, put_here, put_there, some_same}
use Rattle.moka_laws.proofs.Following.{IsFollowed, follow}
use Rattle.moka_laws.proofs.Locking.{Outside, in_locking, key_locked}
use Rattle.moka_laws.proofs.Owning.{plan_left}
use Rattle.moka_laws.proofs.Plans.{Answering, Asking_op, Choosing, Draining, Drained, Ended, Giving, IsPlan, Locking, Locking_out, Looking, Maintaining, Owning, Posted, Putting, Removing, Settling, Walking}
use Rattle.moka_laws.proofs.Posts.{may_write}
use Rattle.moka_laws.proofs.Reached.{fresh_reached, run_reached, step_reached}
use Rattle.moka_laws.proofs.Replacing.{in_replacing, listening, not_opened, opened_committed, opens_notice, told_once}
use Rattle.moka_laws.proofs.Walks.{Chooses, Ends, Finds, Lists, Retires, Scans, Strikes}
use Rattle.moka_laws.proofs.Weights.{weigh}
use Rattle.moka_callers.proofs.Parts.{LocksBy, NoticesBy, step_locks, step_notices}
use Rattle.moka_callers.specs.Listening.{IsListed, NoticesAreLocked, NoticesStandAsOpened}

module _ {K V E : Type 0} (eq : K → K → Bool) where
  reaches : (s t : State K V E) → Leads eq s t → IsReached eq s → IsReached eq t
  reaches s t led h = run_reached eq s t led.events led.replies h led.run

  -- ---- a notice by its content

  module _ (n : ℕ) (at : K) (told : V) (why : Cause) where
    -- the state is reached, and the notice listed so
    record Lists_so (s : State K V E) : Type 0 where
      reached : IsReached eq s
      listed : IsListed s n at told why

    same_notice : (s v : State K V E) → v.world.desk.notices n ≡ s.world.desk.notices n →
        IsListed s n at told why → IsListed v n at told why
    same_notice s v same l = record {
      notice = l.notice;
      listed = same ∙ l.listed;
      number = l.number;
      key = l.key;
      value = l.value;
      cause = l.cause;
    }

    on : (s v : State K V E) → Leads eq s v →
        v.world.desk.notices n ≡ s.world.desk.notices n → Lists_so s → Lists_so v
    on s v led same i = record {
      reached = reaches s v led i.reached;
      listed = same_notice s v same i.listed;
    }

    lists_step : (s t : State K V E) (m : ℕ) (turn : Turn K V E) → Leads eq s t → Lists_so s →
        Step eq s m turn t → Lists_so t
    lists_step s t m turn led i step = by step.call.plan refl (step_notices eq s t m turn step)
      where
        -- a call whose notice is listed opens none
        other : (m == n) ≡ true → OpensNotice step.call.plan → ⊥
        other e opens = none_some
            (sym (not_opened s (in_replacing eq s i.reached) m step.call step.live opens) ∙
            ap s.world.desk.notices (eqb-true m n e) ∙ i.listed.listed)

        by : (p : List (Item K V E)) → step.call.plan ≡ p → NoticesBy eq s.world m p t.world →
            Lists_so t
        by [] is same = on s t led (ap (λ f. f n) same) i
        by (plan.Notice key old cause upsert ∷ rest) is new = here (m == n) refl
          where
            here : (b : Bool) → (m == n) ≡ b → Lists_so t
            here true e = absurd (other e (subst OpensNotice (sym is) tt))
            here false e = on s t led (ap (λ f. f n) new.1 ∙
                put_there s.world.desk.notices m _ n e) i
        by (item ∷ rest) is same = on s t led (ap (λ f. f n) same) i

    lists_hear : (s : State K V E) (m : ℕ) (off : Bool) →
        Leads eq s (with_desk s (heard s.world.desk m off)) → Lists_so s →
        Lists_so (with_desk s (heard s.world.desk m off))
    lists_hear s m off led i = by (m == n) refl
      where
        t : State K V E
        t = with_desk s (heard s.world.desk m off)

        by : (b : Bool) → (m == n) ≡ b → Lists_so t
        by true e = record {
          reached = reaches s t led i.reached;
          listed = record {
            notice = with_end i.listed.notice;
            listed = ap (λ k. put_at s.world.desk.notices m
                (option_map with_end (s.world.desk.notices m)) k) (sym (eqb-true m n e)) ∙
                put_here s.world.desk.notices m (option_map with_end (s.world.desk.notices m)) ∙
                ap (λ k. option_map with_end (s.world.desk.notices k)) (eqb-true m n e) ∙
                ap (option_map with_end) i.listed.listed;
            number = i.listed.number;
            key = i.listed.key;
            value = i.listed.value;
            cause = i.listed.cause;
          };
        }
        by false e = on s t led (put_there s.world.desk.notices m _ n e) i

    lists_followed : IsFollowed eq Lists_so
    lists_followed = record {
      at = λ s moment fits led i. on s _ led refl i;
      start = λ s start fits led i. on s _ led refl i;
      step = lists_step;
      tell = λ s m given asked led i. on s _ led refl i;
      hear = λ s m off running led i. lists_hear s m off led i;
      drop = λ s m c live between led i. on s _ led refl i;
    }

  -- the step that opens it
  opened_now : (s t : State K V E) (n : ℕ) (key : K) (old : Stored V) (cause : Option Cause)
      (upsert : Bool) (rest : List (Item K V E)) →
      NoticesBy eq s.world n (plan.Notice key old cause upsert ∷ rest) t.world →
      IsListed t n key old.value (cause_of s.world.desk old.stamp old.modified cause upsert)
  opened_now s t n key old cause upsert rest new = record {
    notice = _;
    listed = ap (λ f. f n) new.1 ∙ put_here s.world.desk.notices n _;
    number = refl;
    key = refl;
    value = refl;
    cause = refl;
  }

  pub stand_as_opened : NoticesStandAsOpened K V E eq
  stand_as_opened s t u n c key old cause upsert rest turn h live is step led =
      let why : Cause = cause_of s.world.desk old.stamp old.modified cause upsert in
      (follow eq (Lists_so n key old.value why) (lists_followed n key old.value why) t u led.events
      led.replies (record {
        reached = step_reached eq s t n turn h step;
        listed = opened_now s t n key old cause upsert rest
            (subst (λ p. NoticesBy eq s.world n p t.world)
            (ap (λ (v : Call K V E). v.plan) (some_same (sym step.live ∙ live)) ∙ is)
            (step_notices eq s t n turn step));
      }) led.run).listed

-- ---- the lock of a notice's key

module _ {K V E : Type 0} where
  -- the plan takes a lock next
  abbrev IsLockFirst : List (Item K V E) → Type 0
  IsLockFirst (plan.Lock key ∷ rest) = Unit {0}
  IsLockFirst _ = ⊥

  -- a call that takes a lock may still write
  locks_write : (p : List (Item K V E)) → IsPlan p → IsLockFirst p → 1 ≤ weigh may_write p
  locks_write p (Drained q (Locking key value rest t)) first = omega arith
  locks_write p (Drained q (Locking_out removal key)) first = omega arith
  locks_write p (Drained q (Looking aim key l)) first = absurd first
  locks_write p (Drained q (Owning sought)) first = absurd first
  locks_write p (Drained q (Asking_op compute found)) first = absurd first
  locks_write p (Drained q (Giving answer)) first = absurd first
  locks_write p (Drained q (Putting key value rest t)) first = absurd first
  locks_write p (Drained q (Removing removal key)) first = absurd first
  locks_write p (Drained q (Maintaining parts)) first = absurd first
  locks_write p (Posted q (Draining rest d)) first = absurd first
  locks_write p (Posted q (Ended rest (Answering answer))) first = absurd first
  locks_write p (Posted q (Ended rest (Settling with answer))) first = absurd first
  locks_write p (Choosing key stamp cause) first = omega arith
  locks_write p (Walking q Ends) first = absurd first
  locks_write p (Walking q Retires) first = absurd first
  locks_write p (Walking q (Chooses parts)) first = absurd first
  locks_write p (Walking q (Strikes there found rest walk)) first = absurd first
  locks_write p (Walking q (Lists part rest walk)) first = absurd first
  locks_write p (Walking q (Finds key rest walk)) first = absurd first
  locks_write p (Walking q (Scans there found rest walk)) first = absurd first
  locks_write p _ first = absurd first

module _ {K V E : Type 0} (eq : K → K → Bool) where
  -- the state is reached, and a call that holds a lock holds that of its notice's key
  record Fits (s : State K V E) : Type 0 where
    reached : IsReached eq s
    fits : (n : ℕ) (x : Notice K V) (k : K) → s.world.desk.notices n ≡ Some x →
        s.world.desk.locked n ≡ Some k → k ≡ x.key

  fits_on : (s v : State K V E) → Leads eq s v → v.world.desk.notices ≡ s.world.desk.notices →
      v.world.desk.locked ≡ s.world.desk.locked → Fits s → Fits v
  fits_on s v led notices locked i = record {
    reached = reaches eq s v led i.reached;
    fits = λ n x k is held.
        i.fits n x k (sym (ap (λ f. f n) notices) ∙ is) (sym (ap (λ f. f n) locked) ∙ held);
  }

  -- a lock is freed
  fits_freed : (s v : State K V E) (m : ℕ) → Leads eq s v →
      v.world.desk.notices ≡ s.world.desk.notices →
      v.world.desk.locked ≡ put_at s.world.desk.locked m None → Fits s → Fits v
  fits_freed s v m led notices locked i = record {
    reached = reaches eq s v led i.reached;
    fits = λ n x k is held. put_cases s.world.desk.locked m None n (Some k) (k ≡ x.key)
        (sym (ap (λ f. f n) locked) ∙ held) (λ here same. absurd (none_some same))
        (λ there same. i.fits n x k (sym (ap (λ f. f n) notices) ∙ is) same);
  }

  -- a call that has a notice takes no lock
  takes_none : (s : State K V E) (m : ℕ) (c : Call K V E) (x : Notice K V) → IsReached eq s →
      s.calls m ≡ Some c → IsLockFirst c.plan → s.world.desk.notices m ≡ Some x → ⊥
  takes_none s m c x h live first is = omega (
    arith,
    opened_committed s (in_replacing eq s h) m,
    (in_replacing eq s h).balanced.unspent m c live,
    locks_write c.plan ((in_replacing eq s h).known m c live).plan first,
    ap told_once is,
  )

  fits_step : (s t : State K V E) (m : ℕ) (turn : Turn K V E) → Leads eq s t → Fits s →
      Step eq s m turn t → Fits t
  fits_step s t m turn led i step = by step.call.plan refl
      (step_notices eq s t m turn step, step_locks eq s t m turn step)
    where
      by : (p : List (Item K V E)) → step.call.plan ≡ p → NoticesBy eq s.world m p t.world × LocksBy eq s.world m p t.world → Fits t
      by [] is both = fits_on s t led both.0 both.1 i
      by (plan.Notice key old cause upsert ∷ rest) is both = record {
        reached = reaches eq s t led i.reached;
        fits = λ n x k listed held. put_cases s.world.desk.notices m _ n (Some x) (k ≡ x.key)
            (sym (ap (λ f. f n) both.0.1) ∙ listed)
            (λ here same. opened n x k here
            (ap (λ (v : Notice K V). v.key) (some_same same))
            (sym (ap (λ f. f n) both.1) ∙ held))
            (λ there same. i.fits n x k same (sym (ap (λ f. f n) both.1) ∙ held));
      }
        where
          opens : OpensNotice step.call.plan
          opens = subst OpensNotice (sym is) tt

          mine : s.world.desk.locked m ≡ Some key
          mine = key_locked s (in_locking eq s i.reached) m step.call key
              (listening s (in_replacing eq s i.reached) m step.call step.live
              (opens_notice step.call.plan opens)) step.live (ap locked_key is)

          opened : (n : ℕ) (x : Notice K V) (k : K) → m ≡ n → key ≡ x.key →
              s.world.desk.locked n ≡ Some k → k ≡ x.key
          opened n x k here same held =
              some_same (sym held ∙ ap s.world.desk.locked (sym here) ∙ mine) ∙ same
      by (plan.Lock key ∷ rest) is (notices, inl same) = fits_on s t led notices same i
      by (plan.Lock key ∷ rest) is (notices, inr taken) = record {
        reached = reaches eq s t led i.reached;
        fits = λ n x k listed held. put_cases s.world.desk.locked m (Some key) n (Some k)
            (k ≡ x.key) (sym (ap (λ f. f n) taken) ∙ held)
            (λ here same. absurd (takes_none s m step.call x i.reached step.live
            (subst IsLockFirst (sym is) tt)
            (ap s.world.desk.notices here ∙ sym (ap (λ f. f n) notices) ∙ listed)))
            (λ there same. i.fits n x k (sym (ap (λ f. f n) notices) ∙ listed) same);
      }
      by (plan.Unlock wrote ∷ rest) is both = fits_freed s t m led both.0 both.1 i
      by (item ∷ rest) is both = fits_on s t led both.0 both.1 i

  fits_hear : (s : State K V E) (m : ℕ) (off : Bool) →
      Leads eq s (with_desk s (heard s.world.desk m off)) → Fits s →
      Fits (with_desk s (heard s.world.desk m off))
  fits_hear s m off led i = record {
    reached = reaches eq s (with_desk s (heard s.world.desk m off)) led i.reached;
    fits = λ n x k is held. put_cases s.world.desk.notices m _ n (Some x) (k ≡ x.key) is
        (λ here same. was (s.world.desk.notices m) refl n x k here same held)
        (λ there same. i.fits n x k same held);
  }
    where
      was : (o : Option (Notice K V)) → s.world.desk.notices m ≡ o → (n : ℕ) (x : Notice K V)
          (k : K) → m ≡ n → option_map with_end o ≡ Some x → s.world.desk.locked n ≡ Some k →
          k ≡ x.key
      was None e n x k here same held = absurd (none_some same)
      was (Some y) e n x k here same held =
          i.fits n y k (ap s.world.desk.notices (sym here) ∙ e) held ∙
          ap (λ (v : Notice K V). v.key) (some_same same)

  fits_followed : IsFollowed eq Fits
  fits_followed = record {
    at = λ s moment fits led i. fits_on s _ led refl refl i;
    start = λ s start fits led i. fits_on s _ led refl refl i;
    step = fits_step;
    tell = λ s m given asked led i. fits_on s _ led refl refl i;
    hear = λ s m off running led i. fits_hear s m off led i;
    drop = λ s m c live between led i. fits_freed s _ m led refl refl i;
  }

  all_fit : (s : State K V E) → IsReached eq s → Fits s
  all_fit s h =
      let begins : State K V E = fresh K V E h.division h.rules h.size h.handed in
      follow eq Fits fits_followed begins s h.events h.replies (record {
        reached = fresh_reached eq h.division h.divides h.rules h.size h.handed h.has_log;
        fits = λ n x k none held. absurd (none_some none);
      }) h.run

  pub are_locked : NoticesAreLocked K V E eq
  are_locked s n c rest x h live is listed = by (s.world.desk.locked n) refl
    where
      on : (b : Bool) → s.world.desk.rules.listener ≡ b → b ≡ true
      on true e = refl
      on false e = absurd (none_some (sym ((in_replacing eq s h).quiet e n) ∙ listed))

      by : (o : Option K) → s.world.desk.locked n ≡ o → o ≡ Some x.key
      by (Some k) e = ap Some ((all_fit s h).fits n x k listed e)
      by None e = absurd (subst Outside is (subst (λ v. Outside (plan_left v)) live
          (((in_locking eq s h).locks n).outside (on s.world.desk.rules.listener refl) e)))
