-- The notices of a key stand in the order of its writes.
use Rattle.std.proofs.Common.{◌≡◌, ◌≢◌, ◌⊎◌, inl, inr, ℕ, ◌+◌, ◌<◌, ◌==◌, Bool, true, false, cond, List, [], ◌∷◌, ◌++◌, Option, Some, None, is_some, refl, sym, ap, ◌∙◌, subst, arith}
use Rattle.std.proofs.lemmas.Bool.{eqb-true, false≢true}
use Rattle.std.specs.Cmp.{IsEquivalence}
use Rattle.std.specs.Option.{option_map, option_map_or, option_or}
use Rattle.moka_hist.specs.Finite.{put_at, times}
use Rattle.moka_hist.specs.State.{State, World, Call, DeskPart}
use Rattle.moka_hist.specs.Plan.{Item, plan_of}
use Rattle.moka_hist.specs.Plan as plan
use Rattle.moka_hist.specs.Next.{Next}
use Rattle.moka_hist.specs.Notices.{LocksAreHeld, OpensNotice}
use Rattle.moka_hist.specs.SoundDesk.{SoundDesk}
use Rattle.moka_hist.specs.Dropping.{dropped}
use Rattle.moka_hist.specs.Telling.{ended, with_end}
use Rattle.moka_hist.specs.Step.{Step, state_after}
use Rattle.moka_hist.specs.Run.{IsReached, started, fresh_call}
use Rattle.moka_hist.specs.Visits.{cause_of, is_running, key_under, runs}
use Rattle.moka_hist.specs.declared.replies.Answer.TheVariants as said_as
use Rattle.moka_hist.specs.declared.rules.Cause.{Cause}
use Rattle.moka_hist.specs.declared.events.Start.{Start}
use Rattle.moka_hist.specs.declared.notices.Notice.{Notice}
use Rattle.moka_hist.specs.declared.notices.NoticeState.TheVariants as notice
use Rattle.moka_hist.specs.declared.records.Mode.TheVariants as mode
use Rattle.moka_hist.specs.declared.records.Stored.{Stored}
use Rattle.moka_hist.specs.declared.accesses.Turn.{Turn}
use Rattle.moka_laws.specs.Listening.{KeptAreTold, LocksAreOne, ReachedLocksAreHeld, ReachedNoticesAreApart, ReachedNoticesAreInOrder}
use Rattle.moka_laws.proofs.Before.{Before, before_is, is_before, before_more, before_last, before_split, before_has}
use Rattle.moka_laws.proofs.Counting.{none_some, some_same, put_cases, put_here, put_there, differ, differ_not}
use Rattle.moka_laws.proofs.Owning.{plan_left}
use Rattle.moka_hist.proofs.Owners.{is_none_of}
use Rattle.moka_laws.proofs.Keepers.{in_keeping, step_kept}
use Rattle.moka_laws.proofs.Locking.{Locks, in_locking, is_listening, lock_is_held}
use Rattle.moka_laws.proofs.Plans.{IsTail, Answering, Settling, IsDrained, Looking, Putting, IsPosted, Draining, Ended, Locking, IsPlan, Posted, Drained, Posting, Hearing, Noticing, Listening, Unlocking, Turning, Applying, Ending, Judging, Owning, Giving, Reading, Asking, Telling, Writing, Removing, Locking_out, Choosing, Finding, Chosen, Taking, Freeing, Hiding, Registering, Idling, Asking_op, Owning_key, Owning_alone, Reading_key, Telling_op, Walking, Maintaining, Applying_all, Ending_all}
use Rattle.moka_laws.proofs.Replacing.{opens_notice, listening, not_opened, opened_committed, told_once}
use Rattle.moka_laws.proofs.Rules.{fresh_plan}
use Rattle.moka_laws.proofs.Noticing.{IsNoticing, noticing_kept, naming, running, drained_none, posted_none, misses_none, finds_none, keeps_none, hits_none, read_none, told_none, form_none, read_key_none, told_op_none, tail_none, walk_none, walks_none}
use Rattle.moka_laws.proofs.SoundReached.{IsSound, sound_kept, reached_sound}
use Rattle.moka_laws.proofs.Kept.{IsInvariant, in_reached}
use Rattle.moka_laws.proofs.StepCases.{OnStep, step_cases}
use Rattle.moka_laws.proofs.Outcomes.{outcomes}
use Rattle.moka_laws.proofs.Walks.{Ends, Finds, IsWalk, Lists, Scans, on_walk, Chooses, Retires, Strikes}

module _ {K V E : Type 0} where
  -- the plan hears its notice next
  abbrev IsHearing : List (Item K V E) → Type 0
  IsHearing (plan.Heard ∷ rest) = Unit {0}
  IsHearing _ = ⊥

  unopened : (n : ℕ) (p : List (Item K V E)) → naming n p ≡ None → OpensNotice p → ⊥
  unopened n (plan.Notice key old cause upsert ∷ rest) e o = none_some (sym e)
  unopened n [] e o = o
  unopened n (_ ∷ rest) e o = o

  -- ---- a step

  -- A step that opens no notice: what is committed then stands as before, and a notice that is due
  -- then is that of the last write.
  record KeepsOrder (w : World K V E) (n : ℕ) (notices : ℕ → Option (Notice K V)) (opened committed : List ℕ) (locked : ℕ → Option K)
      (left : Option (Call K V E)) : Type 0 where
    same_notices : notices ≡ w.desk.notices
    same_opened : opened ≡ w.desk.opened
    more : (a b : ℕ) → Before w.table.committed a b → Before committed a b
    due : OpensNotice (plan_left left) → (a : ℕ) → 0 < times a w.table.committed → Before committed a n
    hears : running w.desk.notices n ≡ true → IsHearing (plan_left left) × (locked n ≡ w.desk.locked n)
    others : (m : ℕ) → (n == m) ≡ false → locked m ≡ w.desk.locked m

  -- one that opens a notice
  record Opens (w : World K V E) (n : ℕ) (p : List (Item K V E)) (notices : ℕ → Option (Notice K V)) (opened committed : List ℕ) (locked : ℕ → Option K)
      (left : Option (Call K V E)) : Type 0 where
    key : K
    old : Stored V
    cause : Option Cause
    upsert : Bool
    rest : List (Item K V E)
    is : p ≡ plan.Notice key old cause upsert ∷ rest
    told : Notice K V
    named : told.key ≡ key
    new_notices : notices ≡ put_at w.desk.notices n (Some told)
    new_opened : opened ≡ w.desk.opened ++ n ∷ []
    same_committed : committed ≡ w.table.committed
    same_locked : locked ≡ w.desk.locked
    calm : OpensNotice (plan_left left) → ⊥
    hears : runs told.state ≡ true → IsHearing (plan_left left)

  abbrev Leaves : World K V E → ℕ → List (Item K V E) → (ℕ → Option (Notice K V)) → List ℕ → List ℕ → (ℕ → Option K) → Option (Call K V E) → Type 0
  Leaves w n p notices opened committed locked left =
      KeepsOrder w n notices opened committed locked left ⊎ Opens w n p notices opened committed locked left

  module _ (eq : K → K → Bool) (w : World K V E) (n : ℕ) (c : Call K V E) (old_hears : running w.desk.notices n ≡ true → IsHearing c.plan) where
    abbrev Made : List (Item K V E) → World K V E → Next K V E → Type 0
    Made p new next = Leaves w n p new.desk.notices new.desk.opened new.table.committed new.desk.locked next.left

    -- the plan heard nothing, and opens none now
    quiet : (p : List (Item K V E)) (left : Option (Call K V E)) → c.plan ≡ p → (IsHearing p → ⊥) → naming n (plan_left left) ≡ None →
        Leaves w n p w.desk.notices w.desk.opened w.table.committed w.desk.locked left
    quiet p left e not none = inl (record {
      same_notices = refl;
      same_opened = refl;
      more = λ a b h. h;
      due = λ o. absurd (unopened n (plan_left left) none o);
      hears = λ r. absurd (not (subst IsHearing e (old_hears r)));
      others = λ m d. refl;
    })

    -- the call locks or frees
    locks : (p : List (Item K V E)) (left : Option (Call K V E)) (l : Option K) → c.plan ≡ p → (IsHearing p → ⊥) → naming n (plan_left left) ≡ None →
        Leaves w n p w.desk.notices w.desk.opened w.table.committed (put_at w.desk.locked n l) left
    locks p left l e not none = inl (record {
      same_notices = refl;
      same_opened = refl;
      more = λ a b h. h;
      due = λ o. absurd (unopened n (plan_left left) none o);
      hears = λ r. absurd (not (subst IsHearing e (old_hears r)));
      others = λ m d. put_there w.desk.locked n l m d;
    })

    -- the call commits its write
    commits : (p : List (Item K V E)) (left : Option (Call K V E)) → c.plan ≡ p → (IsHearing p → ⊥) →
        Leaves w n p w.desk.notices w.desk.opened (w.table.committed ++ n ∷ []) w.desk.locked left
    commits p left e not = inl (record {
      same_notices = refl;
      same_opened = refl;
      more = λ a b h. before_more w.table.committed (n ∷ []) a b h;
      due = λ o a h. before_last w.table.committed a n h;
      hears = λ r. absurd (not (subst IsHearing e (old_hears r)));
      others = λ m d. refl;
    })

    on_tail : (p : List (Item K V E)) → c.plan ≡ p → IsTail p → OnStep eq (Made p) w n c p
    on_tail p e (Answering a) = outcomes eq (Made p) w n c (plan.Reply a) [] (quiet p None e (λ h. h) refl)
    on_tail p e (Settling with a) = outcomes eq (Made p) w n c (plan.Settle with) (plan.Reply a ∷ []) (quiet p None e (λ h. h) refl)

    on_drained : (p : List (Item K V E)) → c.plan ≡ p → IsDrained p → OnStep eq (Made p) w n c p
    on_drained p e (Looking aim key l) = outcomes eq (Made p) w n c (plan.Get aim key) [] (
      (λ more. quiet p _ e (λ h. h) (ap (naming n) e)),
      (λ none. quiet p _ e (λ h. h) (misses_none n c aim)),
      λ k stored some. quiet p _ e (λ h. h) (finds_none n c aim k stored),
    )
    on_drained p e (Owning sought) = outcomes eq (Made p) w n c (plan.Own sought) [] (
      (λ able none. quiet p _ e (λ h. h) refl),
      (λ disabled none. quiet p _ e (λ h. h) refl),
      λ owner some. quiet p _ e (λ h. h) refl,
    )
    on_drained p e (Putting key value rest t) =
        outcomes eq (Made p) w n c (plan.Moment (plan.To_store key value)) rest
        (quiet p _ e (λ h. h) refl)
    on_drained p e (Locking key value rest t) =
        outcomes eq (Made p) w n c (plan.Lock key) (plan.Moment (plan.To_store key value) ∷ rest) (
          (λ free. locks p _ (Some key) e (λ h. h) refl),
          λ held. quiet p _ e (λ h. h)
              (ap (naming n) e),
        )
    on_drained p e (Asking_op compute pair) =
        outcomes eq (Made p) w n c (plan.Ask_op compute pair) [] (quiet p _ e (λ h. h) refl)
    on_drained p e (Giving a) = outcomes eq (Made p) w n c (plan.Reply a) [] (quiet p _ e (λ h. h) refl)
    on_drained p e (Removing removal key) =
        outcomes eq (Made p) w n c (plan.Moment (plan.To_take_out removal key)) []
        (quiet p _ e (λ h. h) refl)
    on_drained p e (Locking_out removal key) =
        outcomes eq (Made p) w n c (plan.Lock key) (plan.Moment (plan.To_take_out removal key) ∷ [])
        ((λ free. locks p _ (Some key) e (λ h. h) refl), λ held. quiet p _ e (λ h. h) (ap (naming n) e))
    on_drained p e (Maintaining parts) = outcomes eq (Made p) w n c plan.Turn (plan.Apply ∷ plan.End ∷ plan.Candidates parts ∷ [])
        ((λ free. quiet p _ e (λ h. h) refl), λ taken. quiet p _ e (λ h. h) (ap (naming n) e))

    on_posted : (p : List (Item K V E)) → c.plan ≡ p → IsPosted p → OnStep eq (Made p) w n c p
    on_posted p e (Draining rest d) = outcomes eq (Made p) w n c plan.Drain rest (
      (λ none. quiet p _ e (λ h. h) (drained_none n c rest d)),
      (λ v vs some. quiet p _ e (λ h. h) refl),
      λ v number vs some. inl (record {
        same_notices = refl;
        same_opened = refl;
        more = λ a b h. h;
        due = λ o. absurd o;
        hears = λ r. absurd (subst IsHearing e (old_hears r));
        others = λ m d. refl;
      }),
    )
    on_posted p e (Ended rest t) = on_tail rest e t

    -- a walk hears no notice
    walk_hears : (p : List (Item K V E)) → IsWalk p → IsHearing p → ⊥
    walk_hears p Ends h = h
    walk_hears p Retires h = h
    walk_hears p (Chooses parts) h = h
    walk_hears p (Strikes there stored rest walk) h = h
    walk_hears p (Lists part rest walk) h = h
    walk_hears p (Finds key rest walk) h = h
    walk_hears p (Scans there stored rest walk) h = h

    on_plan : (p : List (Item K V E)) → c.plan ≡ p → IsPlan p → OnStep eq (Made p) w n c p
    on_plan p e (Posted rest d) = on_posted rest e d
    on_plan p e (Drained rest d) = on_drained rest e d
    on_plan p e (Posting v rest d) = outcomes eq (Made p) w n c (plan.Post v) rest
        ((λ room. quiet p _ e (λ h. h) (posted_none n c rest d)), λ full. quiet p _ e (λ h. h) refl)
    on_plan p e (Hearing number v rest d) = outcomes eq (Made p) w n c (plan.Ended number) (plan.Post v ∷ rest) (
      (λ done. quiet p _ e (λ h. h) refl),
      λ run. inl (record {
        same_notices = refl;
        same_opened = refl;
        more = λ a b h. h;
        due = λ o. absurd (subst OpensNotice e o);
        hears = λ r. absurd (subst IsHearing e (old_hears r));
        others = λ m d. refl;
      }),
    )
    on_plan p e (Listening v rest t) = outcomes eq (Made p) w n c plan.Heard
        (plan.Unlock true ∷ plan.Post v ∷ rest) (
          (λ done. inl (record {
            same_notices = refl;
            same_opened = refl;
            more = λ a b h. h;
            due = λ o. absurd o;
            hears = λ r. absurd (false≢true (sym done ∙ r));
            others = λ m d. refl;
          })),
          λ run. inl (record {
            same_notices = refl;
            same_opened = refl;
            more = λ a b h. h;
            due = λ o. absurd (subst OpensNotice e o);
            hears = λ r. (subst IsHearing (sym e) tt, refl);
            others = λ m d. refl;
          }),
        )
    on_plan p e (Unlocking v rest t) = outcomes eq (Made p) w n c (plan.Unlock true)
        (plan.Post v ∷ rest) (locks p _ None e (λ h. h) refl)
    on_plan p e (Noticing key old cause upsert v rest t) = outcomes eq (Made p) w n c
        (plan.Notice key old cause upsert) (plan.Unlock true ∷ plan.Post v ∷ rest) (
          (λ off. inr (record {
            key = key;
            old = old;
            cause = cause;
            upsert = upsert;
            rest = plan.Unlock true ∷ plan.Post v ∷ rest;
            is = refl;
            told = record {
              number = n;
              key = key;
              value = old.value;
              cause = cause_of w.desk old.stamp old.modified cause upsert;
              state = notice.Skipped;
            };
            named = refl;
            new_notices = refl;
            new_opened = refl;
            same_committed = refl;
            same_locked = refl;
            calm = λ o. o;
            hears = λ r. absurd (false≢true r);
          })),
          λ on. inr (record {
            key = key;
            old = old;
            cause = cause;
            upsert = upsert;
            rest = plan.Unlock true ∷ plan.Post v ∷ rest;
            is = refl;
            told = record {
              number = n;
              key = key;
              value = old.value;
              cause = cause_of w.desk old.stamp old.modified cause upsert;
              state = notice.Running;
            };
            named = refl;
            new_notices = refl;
            new_opened = refl;
            same_committed = refl;
            same_locked = refl;
            calm = λ o. o;
            hears = λ r. tt;
          }),
        )
    on_plan p e (Turning v rest d) = outcomes eq (Made p) w n c plan.Turn (plan.Apply ∷ plan.End ∷ plan.Post v ∷ rest)
        ((λ free. quiet p _ e (λ h. h) refl), λ taken. quiet p _ e (λ h. h) (ap (naming n) e))
    on_plan p e (Applying v rest d) = outcomes eq (Made p) w n c plan.Apply (plan.End ∷ plan.Post v ∷ rest)
        ((λ none. quiet p _ e (λ h. h) refl), λ y ys some. quiet p _ e (λ h. h) refl)
    on_plan p e (Ending v rest d) = outcomes eq (Made p) w n c plan.End (plan.Post v ∷ rest) (quiet p _ e (λ h. h) refl)
    on_plan p e (Judging aim key stored l) = outcomes eq (Made p) w n c (plan.Judge aim key stored)
        [] (
          (λ seen. quiet p _ e (λ h. h) (hits_none n c aim key stored.value l)),
          λ unseen. quiet p _ e (λ h. h) (misses_none n c aim),
        )
    on_plan p e (Reading sought) = outcomes eq (Made p) w n c (plan.Read sought) []
        ((λ none. quiet p _ e (λ h. h) (ap (naming n) e)), λ with some. quiet p _ e (λ h. h) (read_none n c sought with (ap (naming n) e)))
    on_plan p e (Asking load) = outcomes eq (Made p) w n c (plan.Ask load) [] (quiet p _ e (λ h. h) refl)
    on_plan p e (Telling load) = outcomes eq (Made p) w n c (plan.Told load) []
        ((λ none. quiet p _ e (λ h. h) (ap (naming n) e)), λ given some. quiet p _ e (λ h. h) (told_none n c load given (ap (naming n) e)))
    on_plan p e (Owning_key compute) = outcomes eq (Made p) w n c (plan.Own_key compute) [] (
      ((λ able none. quiet p _ e (λ h. h) refl), λ not none. quiet p _ e (λ h. h) refl),
      λ owner some. quiet p _ e (λ h. h) refl,
    )
    on_plan p e (Owning_alone key) = outcomes eq (Made p) w n c (plan.Own_alone key) [] (
      ((λ able none. quiet p _ e (λ h. h) refl), λ not none. quiet p _ e (λ h. h) refl),
      λ owner some. ((λ able. quiet p _ e (λ h. h) refl), λ not. quiet p _ e (λ h. h) refl),
    )
    on_plan p e (Reading_key compute) = outcomes eq (Made p) w n c (plan.Read_key compute) [] (
      (λ none. quiet p _ e (λ h. h) (ap (naming n) e)),
      λ with some. quiet p _ e (λ h. h) (read_key_none n c compute with (ap (naming n) e)),
    )
    on_plan p e (Telling_op compute pair) =
        outcomes eq (Made p) w n c (plan.Told_op compute pair) [] (
          (λ none. quiet p _ e (λ h. h) (ap (naming n) e)),
          λ given some. quiet p _ e (λ h. h) (told_op_none n c compute pair given (ap (naming n) e)),
        )
    on_plan p e (Writing key value moment rest t) = outcomes eq (Made p) w n c (plan.Write key value moment) rest (
      (λ more. quiet p _ e (λ h. h) (ap (naming n) e)),
      (λ off old. commits p _ e (λ h. h)),
      (λ on. commits p _ e (λ h. h)),
      λ k old on some. commits p _ e (λ h. h),
    )
    on_plan p e (Choosing key stamp cause) =
        outcomes eq (Made p) w n c (plan.Lock key)
        (plan.Get (plan.To_evict key stamp cause) key ∷ []) (
          (λ free. locks p _ (Some key) e (λ h. h) refl),
          λ held. quiet p _ e (λ h. h)
              (ap (naming n) e),
        )
    on_plan p e (Finding key stamp cause) = outcomes eq (Made p) w n c
        (plan.Get (plan.To_evict key stamp cause) key) [] (
          (λ more. quiet p _ e (λ h. h) (ap (naming n) e)),
          (λ none. quiet p _ e (λ h. h) (keeps_none n c)),
          λ k stored some. quiet p _ e (λ h. h)
              (finds_none n c (plan.To_evict key stamp cause) k stored),
        )
    on_plan p e (Chosen key stamp cause there stored) =
        outcomes eq (Made p) w n c (plan.Holds key stamp cause there stored) []
        ((λ holds. quiet p _ e (λ h. h) refl), λ not. quiet p _ e (λ h. h) (keeps_none n c))
    on_plan p e (Taking removal key) = outcomes eq (Made p) w n c (plan.Out removal key) [] (
      (λ more. quiet p _ e (λ h. h) (ap (naming n) e)),
      (λ off none. quiet p _ e (λ h. h) refl),
      (λ on none. quiet p _ e (λ h. h) refl),
      (λ k old off some. commits p _ e (λ h. h)),
      λ k old on some. commits p _ e (λ h. h),
    )
    on_plan p e (Freeing rest t) = outcomes eq (Made p) w n c (plan.Unlock false) rest
        (locks p _ None e (λ h. h) (tail_none n c rest t))
    on_plan p e Hiding = outcomes eq (Made p) w n c plan.Invalidate_all (plan.Reply said_as.Done ∷ [])
        (quiet p _ e (λ h. h) refl)
    on_plan p e (Registering test) = outcomes eq (Made p) w n c (plan.Register test) []
        (quiet p _ e (λ h. h) refl)
    on_plan p e (Walking rest walk) = on_walk eq (Made p) w n c rest walk
        (λ listings stay next on. quiet p _ e (walk_hears p walk) (walks_none n c (ap (naming n) e ∙ walk_none n p walk) next on))
        (quiet p _ e (walk_hears p walk) refl) (λ ids. quiet p _ e (walk_hears p walk) refl)
    on_plan p e (Applying_all parts) = outcomes eq (Made p) w n c plan.Apply (plan.End ∷ plan.Candidates parts ∷ [])
        ((λ none. quiet p _ e (λ h. h) refl), λ y ys some. quiet p _ e (λ h. h) refl)
    on_plan p e (Ending_all parts) = outcomes eq (Made p) w n c plan.End (plan.Candidates parts ∷ []) (quiet p _ e (λ h. h) refl)
    on_plan p e (Idling rest t) = outcomes eq (Made p) w n c plan.Idle rest
        (quiet p _ e (λ h. h) (tail_none n c rest t))

    at_plan : IsPlan c.plan → OnStep eq (Made c.plan) w n c c.plan
    at_plan k = on_plan c.plan refl k

  -- ---- of a state

  -- a notice that is there was opened, and its number given out
  is_opened : (s : State K V E) → IsNoticing s → (n : ℕ) (x : Notice K V) → s.world.desk.notices n ≡ Some x → 0 < times n s.world.table.committed
  is_opened s i n x e = omega (arith, opened_committed s i.replacing n, ap told_once e)

  -- what stands among the opened is there
  opened_there : (s : State K V E) → IsNoticing s → (n : ℕ) → s.world.desk.notices n ≡ None → 0 < times n s.world.desk.opened → ⊥
  opened_there s i n none h = omega (arith, i.noted.opened_once n, ap (λ o. cond {A = ℕ} (is_some o) 1 0) none)

  -- a call whose notice is due holds the lock of its key
  due_locked : (s : State K V E) → IsNoticing s → (n : ℕ) (c : Call K V E) (key : K) (old : Stored V)
      (cause : Option Cause) (upsert : Bool) (rest : List (Item K V E)) → s.calls n ≡ Some c →
      c.plan ≡ plan.Notice key old cause upsert ∷ rest → s.world.desk.locked n ≡ Some key
  due_locked s i n c key old cause upsert rest live e = by (s.world.desk.locked n) refl
    where
      on : s.world.desk.rules.listener ≡ true
      on = listening s i.replacing n c live (opens_notice c.plan (subst OpensNotice (sym e) tt))

      q : Locks s.world.desk.rules.listener (s.world.desk.locked n)
          (plan.Notice key old cause upsert ∷ rest)
      q = subst (Locks s.world.desk.rules.listener (s.world.desk.locked n)) e
          (subst (λ v. Locks s.world.desk.rules.listener (s.world.desk.locked n) (plan_left v)) live (i.replacing.locking.locks n))

      by : (l : Option K) → s.world.desk.locked n ≡ l → l ≡ Some key
      by None f = absurd (q.outside on f)
      by (Some k) f = ap Some (q.inside on k f).0

module _ {K V E : Type 0} (eq : K → K → Bool) where
  -- Notices of one key were opened in the order of their writes, and an earlier one runs no more. A
  -- notice that runs is heard by its call, or keeps the lock of its key.
  record IsOrdered (s : State K V E) : Type 0 where
    noticing : IsNoticing s
    sound : IsSound eq s
    order : (a b : ℕ) (x y : Notice K V) → Before s.world.desk.opened a b → s.world.desk.notices a ≡ Some x → s.world.desk.notices b ≡ Some y →
        eq x.key y.key ≡ true → Before s.world.table.committed a b
    due : (a b : ℕ) (c : Call K V E) (x : Notice K V) (key : K) (old : Stored V)
        (cause : Option Cause) (upsert : Bool) (rest : List (Item K V E)) → s.calls b ≡ Some c →
        c.plan ≡ plan.Notice key old cause upsert ∷ rest → s.world.desk.notices a ≡ Some x →
        eq x.key key ≡ true → Before s.world.table.committed a b
    hears : (a : ℕ) (c : Call K V E) (x : Notice K V) → s.calls a ≡ Some c → s.world.desk.notices a ≡ Some x → runs x.state ≡ true →
        IsHearing c.plan × (s.world.desk.locked a ≡ Some x.key)
    keeps : (a : ℕ) (x : Notice K V) → s.calls a ≡ None → s.world.desk.notices a ≡ Some x → runs x.state ≡ true → s.world.desk.kept a ≡ Some x.key
    over : (a b : ℕ) (x y : Notice K V) → Before s.world.desk.opened a b → s.world.desk.notices a ≡ Some x → s.world.desk.notices b ≡ Some y →
        eq x.key y.key ≡ true → runs x.state ≡ true → ⊥

  -- the lock that a call holds is held under its number, and so is that which its notice keeps
  pub under_locked : (w : DeskPart K V E) (a : ℕ) (k : K) → w.locked a ≡ Some k → key_under w a ≡ Some k
  under_locked w a k e = ap (λ (o : Option K). option_or o (w.kept a)) e

  pub under_kept : (w : DeskPart K V E) → SoundDesk eq w → (a : ℕ) (k : K) → w.kept a ≡ Some k → key_under w a ≡ Some k
  under_kept w h a k e = by (w.locked a) (h.apart a)
    where
      by : (o : Option K) → (is_some o ≡ true → is_some (w.kept a) ≡ false) → option_or o (w.kept a) ≡ Some k
      by None apart = e
      by (Some q) apart = absurd (false≢true (sym (apart refl) ∙ ap is_some e))

  -- locks of equal keys are held under one number
  pub one_under : (w : DeskPart K V E) → SoundDesk eq w → (a b : ℕ) (k q : K) → key_under w a ≡ Some k →
      key_under w b ≡ Some q → eq k q ≡ true → a ≡ b
  one_under w h a b k q e f same = some_same (sym (h.locked k a e) ∙ h.one_locker k q same ∙ h.locked q b f)

  -- two calls don't hold locks of equal keys
  pub one_lock : (w : DeskPart K V E) → SoundDesk eq w → (a b : ℕ) (k q : K) → w.locked a ≡ Some k →
      w.locked b ≡ Some q → eq k q ≡ true → a ≡ b
  one_lock w h a b k q e f same = one_under w h a b k q (under_locked w a k e) (under_locked w b q f) same

  -- a notice that runs has the lock of its key: its call holds that, or the notice keeps it
  running_under : (s : State K V E) → IsOrdered s → (a : ℕ) (x : Notice K V) → s.world.desk.notices a ≡ Some x → runs x.state ≡ true →
      key_under s.world.desk a ≡ Some x.key
  running_under s i a x e r = by (s.calls a) refl
    where
      by : (o : Option (Call K V E)) → s.calls a ≡ o → key_under s.world.desk a ≡ Some x.key
      by None gone = under_kept s.world.desk i.sound.sound a x.key (i.keeps a x gone e r)
      by (Some c) live = under_locked s.world.desk a x.key (i.hears a c x live e r).1

  module _ (s : State K V E) (i : IsOrdered s) (n : ℕ) (c : Call K V E) (live : s.calls n ≡ Some c) where
    old_hears : running s.world.desk.notices n ≡ true → IsHearing c.plan
    old_hears r = by (s.world.desk.notices n) refl r
      where
        by : (o : Option (Notice K V)) → s.world.desk.notices n ≡ o → option_map_or (λ v. runs v.state) o false ≡ true → IsHearing c.plan
        by None e r = absurd (false≢true r)
        by (Some x) e r = (i.hears n c x live e r).0

    keeps_on : (w : World K V E) (left : Option (Call K V E)) →
        KeepsOrder s.world n w.desk.notices w.desk.opened w.table.committed w.desk.locked left →
        let t : State K V E = record { world = w; calls = put_at s.calls n left } in
        IsNoticing t → IsSound eq t → w.desk.kept ≡ s.world.desk.kept → IsOrdered t
    keeps_on w left b noticing sound kept = record {
      noticing = noticing;
      sound = sound;
      order = λ p q x y h e f same. b.more p q (i.order p q x y (was_opened p q h) (was p x e) (was q y f) same);
      due = λ p q d x key old cause upsert rest lives is e same.
          put_cases s.calls n left q (Some d) (Before w.table.committed p q) lives
          (λ here there. subst (λ v. Before w.table.committed p v) here
          (b.due (subst (λ v. OpensNotice (plan_left v)) (sym there) (subst OpensNotice (sym is) tt)) p (is_opened s i.noticing p x (was p x e))))
          (λ other there. b.more p q (i.due p q d x key old cause upsert rest there is
          (was p x e) same));
      hears = λ p d x lives e r.
          put_cases s.calls n left p (Some d) (IsHearing d.plan × (w.desk.locked p ≡ Some x.key)) lives
          (λ here there. subst (λ v. IsHearing d.plan × (w.desk.locked v ≡ Some x.key)) here (own d x there (ap w.desk.notices here ∙ e) r))
          (λ other there. let h = i.hears p d x there (was p x e) r in (h.0, b.others p other ∙ h.1));
      keeps = λ p x gone e r. put_cases s.calls n left p None (w.desk.kept p ≡ Some x.key) gone
          (λ here none. absurd (subst (λ v. IsHearing (plan_left v)) none (b.hears (run p x here e r)).0))
          (λ other none. ap (λ g. g p) kept ∙ i.keeps p x none (was p x e) r);
      over = λ p q x y h e f same r. i.over p q x y (was_opened p q h) (was p x e) (was q y f) same r;
    }
      where
        was : (m : ℕ) (x : Notice K V) → w.desk.notices m ≡ Some x → s.world.desk.notices m ≡ Some x
        was m x e = ap (λ g. g m) (sym b.same_notices) ∙ e

        run : (p : ℕ) (x : Notice K V) → n ≡ p → w.desk.notices p ≡ Some x → runs x.state ≡ true → running s.world.desk.notices n ≡ true
        run p x here e r = ap (λ o. option_map_or (λ v. runs v.state) o false) (was n x (ap w.desk.notices here ∙ e)) ∙ r

        was_opened : (p q : ℕ) → Before w.desk.opened p q → Before s.world.desk.opened p q
        was_opened p q h = subst (λ v. Before v p q) b.same_opened h

        own : (d : Call K V E) (x : Notice K V) → left ≡ Some d → w.desk.notices n ≡ Some x → runs x.state ≡ true →
            IsHearing d.plan × (w.desk.locked n ≡ Some x.key)
        own d x there e r =
            let run : running s.world.desk.notices n ≡ true = ap (λ o. option_map_or (λ v. runs v.state) o false) (was n x e) ∙ r in
            let h = b.hears run in
            (subst (λ v. IsHearing (plan_left v)) there h.0, h.1 ∙ (i.hears n c x live (was n x e) r).1)

    opens_on : (w : World K V E) (left : Option (Call K V E)) →
        Opens s.world n c.plan w.desk.notices w.desk.opened w.table.committed w.desk.locked left →
        let t : State K V E = record { world = w; calls = put_at s.calls n left } in
        IsNoticing t → IsSound eq t → w.desk.kept ≡ s.world.desk.kept → IsOrdered t
    opens_on w left b noticing sound kept = record {
      noticing = noticing;
      sound = sound;
      order = λ p q x y h e f same. subst (λ v. Before v p q) (sym b.same_committed) (by_order p q x y e f same (parts p q h));
      due = λ p q d x key old cause upsert rest lives is e same. subst (λ v. Before v p q)
          (sym b.same_committed)
          (put_cases s.calls n left q (Some d) (Before s.world.table.committed p q) lives
          (λ here there. absurd (b.calm (subst (λ v. OpensNotice (plan_left v)) (sym there) (subst OpensNotice (sym is) tt))))
          (λ other there. by_due p q d x key old cause upsert rest there is (at p x e) other same));
      hears = λ p d x lives e r.
          put_cases s.calls n left p (Some d) (IsHearing d.plan × (w.desk.locked p ≡ Some x.key)) lives
          (λ here there. subst (λ v. IsHearing d.plan × (w.desk.locked v ≡ Some x.key)) here (own d x there (ap w.desk.notices here ∙ e) r))
          (λ other there. let h = i.hears p d x there (at_other p x other e) r in (h.0, ap (λ g. g p) b.same_locked ∙ h.1));
      keeps = λ p x gone e r. put_cases s.calls n left p None (w.desk.kept p ≡ Some x.key) gone
          (λ here none. absurd (subst (λ v. IsHearing (plan_left v)) none (hears_now x (ap w.desk.notices here ∙ e) r)))
          (λ other none. ap (λ g. g p) kept ∙ i.keeps p x none (at_other p x other e) r);
      over = λ p q x y h e f same r. by_over p q x y e f same r (parts p q h);
    }
      where
        held : s.world.desk.locked n ≡ Some b.key
        held = due_locked s i.noticing n c b.key b.old b.cause b.upsert b.rest live b.is

        none : s.world.desk.notices n ≡ None
        none = not_opened s i.noticing.replacing n c live (subst OpensNotice (sym b.is) tt)

        parts : (p q : ℕ) → Before w.desk.opened p q → Before s.world.desk.opened p q ⊎ ((q ≡ n) × (0 < times p s.world.desk.opened))
        parts p q h = before_split s.world.desk.opened p q n (subst (λ v. Before v p q) b.new_opened h)

        -- an earlier notice is another's
        earlier : (p : ℕ) → 0 < times p s.world.desk.opened → (n == p) ≡ false
        earlier p h = differ n p (λ e. opened_there s i.noticing p (ap s.world.desk.notices (sym e) ∙ none) h)

        at_other : (p : ℕ) (x : Notice K V) → (n == p) ≡ false → w.desk.notices p ≡ Some x → s.world.desk.notices p ≡ Some x
        at_other p x other e = sym (put_there s.world.desk.notices n (Some b.told) p other) ∙ ap (λ g. g p) (sym b.new_notices) ∙ e

        -- a notice is the new one, or was there
        at : (p : ℕ) (x : Notice K V) → w.desk.notices p ≡ Some x → ((n ≡ p) × (b.told ≡ x)) ⊎ (s.world.desk.notices p ≡ Some x)
        at p x e = put_cases s.world.desk.notices n (Some b.told) p (Some x) (((n ≡ p) × (b.told ≡ x)) ⊎ (s.world.desk.notices p ≡ Some x))
            (ap (λ g. g p) (sym b.new_notices) ∙ e) (λ here is. inl (here, some_same is)) (λ other is. inr is)

        told_at : (y : Notice K V) (q : ℕ) → q ≡ n → w.desk.notices q ≡ Some y → y.key ≡ b.key
        told_at y q here f =
            let e : put_at s.world.desk.notices n (Some b.told) n ≡ Some y =
            ap (λ g. g n) (sym b.new_notices) ∙ ap w.desk.notices (sym here) ∙ f in
            ap (λ (v : Notice K V). v.key) (sym (some_same (sym (put_here s.world.desk.notices n (Some b.told)) ∙ e))) ∙ b.named

        by_order : (p q : ℕ) (x y : Notice K V) → w.desk.notices p ≡ Some x → w.desk.notices q ≡ Some y → eq x.key y.key ≡ true →
            Before s.world.desk.opened p q ⊎ ((q ≡ n) × (0 < times p s.world.desk.opened)) → Before s.world.table.committed p q
        by_order p q x y e f same (inl h) =
            let has = before_has s.world.desk.opened p q h in
            i.order p q x y h (at_other p x (earlier p has.0) e) (at_other q y (earlier q has.1) f) same
        by_order p q x y e f same (inr h) =
            subst (λ v. Before s.world.table.committed p v) (sym h.0)
            (i.due p n c x b.key b.old b.cause b.upsert b.rest live b.is
            (at_other p x (earlier p h.1) e)
            (subst (λ v. eq x.key v ≡ true) (told_at y q h.0 f) same))

        by_due : (p q : ℕ) (d : Call K V E) (x : Notice K V) (key : K) (old : Stored V)
            (cause : Option Cause) (upsert : Bool) (rest : List (Item K V E)) → s.calls q ≡ Some d →
            d.plan ≡ plan.Notice key old cause upsert ∷ rest → ((n ≡ p) × (b.told ≡ x)) ⊎
            (s.world.desk.notices p ≡ Some x) → (n == q) ≡ false →
            eq x.key key ≡ true → Before s.world.table.committed p q
        by_due p q d x key old cause upsert rest there is (inr e) other same =
            i.due p q d x key old cause upsert rest there is e same
        by_due p q d x key old cause upsert rest there is (inl e) other same =
            absurd (differ_not n q other (one_lock s.world.desk i.sound.sound n q b.key key held
            (due_locked s i.noticing q d key old cause upsert rest there is)
            (subst (λ v. eq v key ≡ true) (ap (λ (v : Notice K V). v.key) (sym e.1) ∙ b.named) same)))

        -- the call hears the notice that it has opened
        hears_now : (x : Notice K V) → w.desk.notices n ≡ Some x → runs x.state ≡ true → IsHearing (plan_left left)
        hears_now x e r =
            let is : b.told ≡ x = some_same (sym (put_here s.world.desk.notices n (Some b.told)) ∙ ap (λ g. g n) (sym b.new_notices) ∙ e) in
            b.hears (ap (λ (v : Notice K V). runs v.state) is ∙ r)

        own : (d : Call K V E) (x : Notice K V) → left ≡ Some d → w.desk.notices n ≡ Some x → runs x.state ≡ true →
            IsHearing d.plan × (w.desk.locked n ≡ Some x.key)
        own d x there e r =
            let is : b.told ≡ x = some_same (sym (put_here s.world.desk.notices n (Some b.told)) ∙ ap (λ g. g n) (sym b.new_notices) ∙ e) in (
              subst (λ v. IsHearing (plan_left v)) there (b.hears (ap (λ (v : Notice K V). runs v.state) is ∙ r)),
              ap (λ g. g n) b.same_locked ∙ held ∙ ap Some (sym (ap (λ (v : Notice K V). v.key) (sym is) ∙ b.named)),
            )

        -- an earlier notice of this key runs no more: it would have the lock that this call holds
        by_over : (p q : ℕ) (x y : Notice K V) → w.desk.notices p ≡ Some x → w.desk.notices q ≡ Some y → eq x.key y.key ≡ true →
            runs x.state ≡ true → Before s.world.desk.opened p q ⊎ ((q ≡ n) × (0 < times p s.world.desk.opened)) → ⊥
        by_over p q x y e f same r (inl h) =
            let has = before_has s.world.desk.opened p q h in
            i.over p q x y h (at_other p x (earlier p has.0) e) (at_other q y (earlier q has.1) f) same r
        by_over p q x y e f same r (inr h) =
            differ_not n p (earlier p h.1) (sym (one_under s.world.desk i.sound.sound p n x.key b.key
            (running_under s i p x (at_other p x (earlier p h.1) e) r)
            (under_locked s.world.desk n b.key held)
            (subst (λ v. eq x.key v ≡ true) (told_at y q h.0 f) same)))

    ordered_on : (w : World K V E) (next : Next K V E) →
        Leaves s.world n c.plan w.desk.notices w.desk.opened w.table.committed w.desk.locked next.left →
        IsNoticing (state_after s n w next) → IsSound eq (state_after s n w next) → w.desk.kept ≡ s.world.desk.kept → IsOrdered (state_after s n w next)
    ordered_on w next (inl b) = keeps_on w next.left b
    ordered_on w next (inr b) = opens_on w next.left b

module _ {K V : Type 0} where
  -- a notice that runs is there
  run_state : (o : Option (Notice K V)) (x : Notice K V) → o ≡ Some x → option_map_or (λ v. runs v.state) o false ≡ true → runs x.state ≡ true
  run_state o x e r = ap (λ v. option_map_or (λ (u : Notice K V). runs u.state) v false) (sym e) ∙ r

  notice_there : (o : Option (Notice K V)) → option_map_or (λ v. runs v.state) o false ≡ true → (x : Notice K V) × (o ≡ Some x) × (runs x.state ≡ true)
  notice_there None r = absurd (false≢true r)
  notice_there (Some x) r = (x, refl, r)

module _ {K V E : Type 0} (eq : K → K → Bool) (laws : IsEquivalence eq) where
  ordered_step : (s t : State K V E) (n : ℕ) (turn : Turn K V E) → IsOrdered eq s → Step eq s n turn t → IsOrdered eq t
  ordered_step s t n turn i step =
      let c : Call K V E = step.call in
      let kept : IsNoticing t → IsSound eq t → t.world.desk.kept ≡ s.world.desk.kept → IsOrdered eq t =
      step_cases eq (λ new next. Leaves s.world n c.plan new.desk.notices new.desk.opened new.table.committed new.desk.locked next.left)
      (λ v _. IsNoticing v → IsSound eq v → v.world.desk.kept ≡ s.world.desk.kept → IsOrdered eq v) s t n turn step
      (at_plan eq s.world n c (old_hears eq s i n c step.live) (i.noticing.replacing.known n c step.live).plan)
      (λ w next b. ordered_on eq s i n c step.live w next b) in
      kept ((noticing_kept eq).step s t n turn i.noticing step) ((sound_kept eq laws).step s t n turn i.sound step) (step_kept eq s t n turn step)

  ordered_start : (s : State K V E) (start : Start K V) → IsOrdered eq s → IsOrdered eq (started s start)
  ordered_start s start i =
      let new : ℕ = s.world.desk.last + 1 in
      let d : Call K V E = fresh_call s.world.table.division.parts s.world.desk.rules start in
      record {
        noticing = (noticing_kept eq).start s start i.noticing;
        sound = (sound_kept eq laws).start s start i.sound;
        order = i.order;
        due = λ p q b x key old cause upsert rest lives is e same. put_cases s.calls new (Some d) q
            (Some b) (Before s.world.table.committed p q) lives
            (λ here there. absurd (unopened q (plan_of s.world.table.division.parts s.world.desk.rules start) (form_none q s.world.desk.rules _ (fresh_plan s.world.table.division.parts s.world.desk.rules start))
            (subst (λ v. OpensNotice (plan_left v)) (sym there) (subst OpensNotice (sym is) tt))))
            (λ other there. i.due p q b x key old cause upsert rest there is e same);
        hears = λ p b x lives e r. put_cases s.calls new (Some d) p (Some b) (IsHearing b.plan × (s.world.desk.locked p ≡ Some x.key)) lives
            (λ here there. absurd (fresh p x here e)) (λ other there. i.hears p b x there e r);
        keeps = λ p x gone e r. put_cases s.calls new (Some d) p None (s.world.desk.kept p ≡ Some x.key) gone
            (λ here some. absurd (none_some (sym some))) (λ other none. i.keeps p x none e r);
        over = i.over;
      }
    where
      -- the new number has no notice
      fresh : (p : ℕ) (x : Notice K V) → s.world.desk.last + 1 ≡ p → s.world.desk.notices p ≡ Some x → ⊥
      fresh p x here e =
          omega (arith, is_opened s i.noticing p x e, i.noticing.replacing.balanced.unborn p (omega (arith, here)))

  ordered_drop : (s : State K V E) (n : ℕ) (c : Call K V E) → s.calls n ≡ Some c → c.mode ≢ mode.Mid → IsOrdered eq s → IsOrdered eq (dropped s n c)
  ordered_drop s n c live between i = record {
    noticing = (noticing_kept eq).drop s n c live between i.noticing;
    sound = (sound_kept eq laws).drop s n c live between i.sound;
    order = i.order;
    due = λ p q d x key old cause upsert rest lives is e same. put_cases s.calls n None q (Some d)
        (Before s.world.table.committed p q) lives
        (λ here there. absurd (none_some there))
        (λ other there. i.due p q d x key old cause upsert rest there is e same);
    hears = λ p d x lives e r. put_cases s.calls n None p (Some d) (IsHearing d.plan × (put_at s.world.desk.locked n None p ≡ Some x.key)) lives
        (λ here there. absurd (none_some there))
        (λ other there. let h = i.hears p d x there e r in (h.0, put_there s.world.desk.locked n None p other ∙ h.1));
    keeps = λ p x gone e r. kept_left p x (n == p) refl gone e r;
    over = i.over;
  }
    where
      kept_left : (p : ℕ) (x : Notice K V) (b : Bool) → (n == p) ≡ b → cond b None (s.calls p) ≡ None → s.world.desk.notices p ≡ Some x → runs x.state ≡ true →
          cond b (cond (is_running s.world.desk n) (key_under s.world.desk n) None) (s.world.desk.kept p) ≡ Some x.key
      kept_left p x false other gone e r = i.keeps p x gone e r
      kept_left p x true is gone e r =
          let here : s.world.desk.notices n ≡ Some x = ap s.world.desk.notices (eqb-true n p is) ∙ e in
          let run : is_running s.world.desk n ≡ true = ap (λ o. option_map_or (λ (v : Notice K V). runs v.state) o false) here ∙ r in
          ap (λ b. cond b (key_under s.world.desk n) None) run
          ∙ under_locked eq s.world.desk n x.key (i.hears n c x live here r).1

  -- a notice that has ended is one that was there, with its key, and doesn't run
  ended_was : (d : DeskPart K V E) (n m : ℕ) (x : Notice K V) → (ended d n).notices m ≡ Some x →
      (v : Notice K V) × (d.notices m ≡ Some v) × (v.key ≡ x.key) × (runs x.state ≡ true → v ≡ x)
  ended_was d n m x e = by (n == m) refl e
    where
      from : (o : Option (Notice K V)) → d.notices n ≡ o → option_map with_end o ≡ Some x → n ≡ m →
          (v : Notice K V) × (d.notices m ≡ Some v) × (v.key ≡ x.key) × (runs x.state ≡ true → v ≡ x)
      from None f is here = absurd (none_some is)
      from (Some v) f is here = (
        v,
        ap d.notices (sym here) ∙ f,
        ap (λ (u : Notice K V). u.key) (some_same is),
        λ r. absurd (false≢true (ap (λ (u : Notice K V). runs u.state) (some_same is) ∙ r)),
      )

      by : (t : Bool) → (n == m) ≡ t → cond t (option_map with_end (d.notices n)) (d.notices m) ≡ Some x →
          (v : Notice K V) × (d.notices m ≡ Some v) × (v.key ≡ x.key) × (runs x.state ≡ true → v ≡ x)
      by false f is = (x, is, refl, λ r. refl)
      by true f is = from (d.notices n) refl is (eqb-true n m f)

  -- one that runs still is another
  ended_other : (d : DeskPart K V E) (n m : ℕ) (x : Notice K V) → (ended d n).notices m ≡ Some x → runs x.state ≡ true → (n == m) ≡ false
  ended_other d n m x e r = by (n == m) e
    where
      over : (o : Option (Notice K V)) → option_map with_end o ≡ Some x → ⊥
      over None is = none_some is
      over (Some v) is = false≢true (ap (λ (u : Notice K V). runs u.state) (some_same is) ∙ r)

      by : (b : Bool) → cond b (option_map with_end (d.notices n)) (d.notices m) ≡ Some x → b ≡ false
      by false is = refl
      by true is = absurd (over (d.notices n) is)

  ordered_kept : IsInvariant {K = K} {V = V} {E = E} eq (IsOrdered eq)
  ordered_kept = record {
    fresh = λ division divides rules size built has_log. record {
      noticing = (noticing_kept eq).fresh division divides rules size built has_log;
      sound = (sound_kept eq laws).fresh division divides rules size built has_log;
      order = λ a b x y h e f same. absurd h;
      due = λ a b c x key old cause upsert rest live is e same. absurd (none_some live);
      hears = λ a c x live e r. absurd (none_some live);
      keeps = λ a x gone e r. absurd (none_some e);
      over = λ a b x y h e f same r. absurd h;
    };
    at = λ s moment i. record {
      noticing = (noticing_kept eq).at s moment i.noticing;
      sound = (sound_kept eq laws).at s moment i.sound;
      order = i.order;
      due = i.due;
      hears = i.hears;
      keeps = i.keeps;
      over = i.over;
    };
    start = ordered_start;
    step = ordered_step;
    tell = λ s n given asked i. record {
      noticing = (noticing_kept eq).tell s n given asked i.noticing;
      sound = (sound_kept eq laws).tell s n given asked i.sound;
      order = i.order;
      due = i.due;
      hears = i.hears;
      keeps = i.keeps;
      over = i.over;
    };
    hear = λ s n off running i. record {
      noticing = (noticing_kept eq).hear s n off running i.noticing;
      sound = (sound_kept eq laws).hear s n off running i.sound;
      order = λ p q x y h e f same.
          let v = ended_was s.world.desk n p x e in
          let u = ended_was s.world.desk n q y f in
          i.order p q v.0 u.0 h v.1 u.1 (rw (v.2, u.2) same);
      due = λ p q c x key old cause upsert rest live is e same.
          let v = ended_was s.world.desk n p x e in i.due p q c v.0 key old cause upsert rest live is v.1 (rw v.2 same);
      hears = λ p c x live e r.
          let v = ended_was s.world.desk n p x e in i.hears p c x live (v.1 ∙ ap Some (v.3 r)) r;
      keeps = λ p x gone e r.
          let v = ended_was s.world.desk n p x e in
          put_there s.world.desk.kept n None p (ended_other s.world.desk n p x e r) ∙ i.keeps p x gone (v.1 ∙ ap Some (v.3 r)) r;
      over = λ p q x y h e f same r.
          let v = ended_was s.world.desk n p x e in
          let u = ended_was s.world.desk n q y f in
          i.over p q x u.0 h (v.1 ∙ ap Some (v.3 r)) u.1 (rw u.2 same) r;
    };
    drop = λ s n c live between i. ordered_drop s n c live between i;
  }

  in_ordered : (s : State K V E) → IsReached eq s → IsOrdered eq s
  in_ordered s h = in_reached eq (IsOrdered eq) ordered_kept s h

  pub locks_one : LocksAreOne K V E eq
  locks_one s n m a b h e f same = one_under eq s.world.desk (reached_sound eq laws s h) n m a b e f same

  pub in_order : ReachedNoticesAreInOrder K V E eq
  in_order s h =
      let i : IsOrdered eq s = in_ordered s h in
      record {
        order = λ a b x y p e f same. before_is s.world.table.committed a b (i.order a b x y (is_before s.world.desk.opened a b p) e f same);
        over = λ a b x y p e f same r.
            i.over a b x y (is_before s.world.desk.opened a b p) e f same (run_state (s.world.desk.notices a) x e r);
      }

  -- no two notices of equal keys run: each has the lock of its key under its number
  pub notices_apart : ReachedNoticesAreApart K V E eq
  notices_apart s h a b x y e f same r u =
      let i : IsOrdered eq s = in_ordered s h in
      one_under eq s.world.desk i.sound.sound a b x.key y.key
      (running_under eq s i a x e (run_state (s.world.desk.notices a) x e r))
      (running_under eq s i b y f (run_state (s.world.desk.notices b) y f u)) same

  -- what a notice keeps is the lock of the key that it tells of
  pub kept_told : KeptAreTold K V E eq
  kept_told s n key h e =
      let i : IsOrdered eq s = in_ordered s h in
      let runs_on : is_running s.world.desk n ≡ true = (reached_sound eq laws s h).keeps n (ap is_some e) in
      let there = notice_there (s.world.desk.notices n) runs_on in
      (runs_on, (there.0, there.1, some_same (sym (i.keeps n there.0 ((in_keeping eq s h).gone n (ap is_some e)) there.1 there.2) ∙ e)))

  pub locks_held : ReachedLocksAreHeld K V E eq
  locks_held s h = record {
    held = λ n on. lock_is_held s (in_locking eq s h) n on;
    none = is_listening s (in_locking eq s h);
    kept = λ n. (
      (λ some. record { gone = ap is_some ((in_keeping eq s h).gone n some); runs = (reached_sound eq laws s h).keeps n some }),
      λ k.
          let there = notice_there (s.world.desk.notices n) k.runs in
          ap is_some ((in_ordered s h).keeps n there.0 (is_none_of (s.calls n) k.gone) there.1 there.2),
    );
  }
