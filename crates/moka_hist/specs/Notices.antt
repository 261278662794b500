-- What a user is promised of notices and of key locks in every state of a run.
use Rattle.std.specs.Prelude.{◌≡◌, ◌⊎◌, ◌↔◌, ◌≢◌, ℕ, Bool, true, cond, is_some, List, ◌∷◌, ◌++◌, map, Some, IsSome, IsNone, Contains}
use Rattle.moka_hist.specs.Finite.{times}
use Rattle.moka_hist.specs.State.{Call, State}
use Rattle.moka_hist.specs.Plan.{Item, held_by}
use Rattle.moka_hist.specs.Plan as plan
use Rattle.moka_hist.specs.Visits.{number_of, old_of, is_running}
use Rattle.moka_hist.specs.declared.notices.Notice.{Notice}
use Rattle.moka_hist.specs.declared.notices.NoticeState.TheVariants as notice
use Rattle.moka_hist.specs.declared.records.Mode.TheVariants as mode
use Rattle.moka_hist.specs.declared.writes.Place.{Place}
use Rattle.moka_hist.specs.declared.writes.Place.TheVariants as place
use Rattle.moka_hist.specs.declared.writes.Write.{Write}

-- the first number stands before the second in the list
abbrev pub IsBefore : List ℕ → ℕ → ℕ → Type 0
IsBefore xs a b =
    (front : List ℕ) × (mid : List ℕ) × (back : List ℕ) × (xs ≡ front ++ a ∷ mid ++ b ∷ back)

module _ {K V E : Type 0} where
  -- this very write stands there
  abbrev pub WriteAt : State K V E → Place → Write → Type 0
  WriteAt s place.Held write =
      (n : ℕ) × (c : Call K V E) × (s.calls n ≡ Some c) × (held_by c.plan ≡ Some write)
  WriteAt s place.Owed write = Contains (map (λ o. o.write) s.world.desk.owed) write
  WriteAt s place.Logged write = Contains s.world.desk.log write
  WriteAt s place.Applied write = Contains s.world.desk.applied write

  -- the plan is about to open its notice: that item alone does
  abbrev pub OpensNotice : List (Item K V E) → Type 0
  OpensNotice (plan.Notice key old cause upsert ∷ rest) = Unit {0}
  OpensNotice _ = ⊥

  -- The notice of this number is due: its live call has committed, and opens it with its next step.
  -- The call is between two steps, where it can't be dropped.
  pub record IsDue (s : State K V E) (number : ℕ) : Type 0 where
    pub call : Call K V E
    pub live : s.calls number ≡ Some call
    pub opens : OpensNotice call.plan
    pub between : call.mode ≡ mode.Mid

  -- the notice of this number was opened
  abbrev pub IsOpened : State K V E → ℕ → Type 0
  IsOpened s number = IsSome (s.world.desk.notices number)

  -- a write of this number that replaced a record, or took one out, stands somewhere
  pub record HasReplaced (s : State K V E) (number : ℕ) : Type 0 where
    pub write : Write
    pub named : number_of write ≡ number
    pub replaced : IsSome (old_of write)
    pub where_ : Place
    pub stands : WriteAt s where_ write

  -- Where a listener is set each committed write that replaced a record, or took one out, has one
  -- notice, under its number: it is due, or it was opened. There is no other notice; none was
  -- skipped before the listener was off; and a write is logged only once its notice has ended or
  -- was skipped.
  pub record NoticesAreSettled (s : State K V E) : Type 0 where
    pub each : (n : ℕ) → s.world.desk.rules.listener ≡ true → HasReplaced s n →
        IsDue s n ⊎ IsOpened s n
    pub one : (n : ℕ) → IsDue s n → IsNone (s.world.desk.notices n)
    pub no_other : (n : ℕ) → IsDue s n ⊎ IsOpened s n →
        (s.world.desk.rules.listener ≡ true) × HasReplaced s n
    pub numbered : (n : ℕ) (x : Notice K V) → s.world.desk.notices n ≡ Some x → x.number ≡ n
    pub opened_once : (n : ℕ) →
        times n s.world.desk.opened ≡ cond (is_some (s.world.desk.notices n)) 1 0
    pub skipped : (n : ℕ) (x : Notice K V) → s.world.desk.notices n ≡ Some x →
        x.state ≡ notice.Skipped →
        s.world.desk.off ≡ true
    pub logged : (w : Write) → WriteAt s place.Logged w ⊎ WriteAt s place.Applied w →
        is_running s.world.desk (number_of w) ≢ true

  -- the plan is past its locking and before its freeing, where a listener is set: these items alone
  -- stand there
  abbrev pub IsUnderLock : List (Item K V E) → Type 0
  IsUnderLock (plan.Moment change ∷ rest) = Unit {0}
  IsUnderLock (plan.Write key value moment ∷ rest) = Unit {0}
  IsUnderLock (plan.Notice key old cause upsert ∷ rest) = Unit {0}
  IsUnderLock (plan.Heard ∷ rest) = Unit {0}
  IsUnderLock (plan.Unlock wrote ∷ rest) = Unit {0}
  IsUnderLock (plan.Get (plan.To_evict key stamp cause) at ∷ rest) = Unit {0}
  IsUnderLock (plan.Holds key stamp cause there found ∷ rest) = Unit {0}
  IsUnderLock (plan.Out removal key ∷ rest) = Unit {0}
  IsUnderLock _ = ⊥

  -- the live call of this number is between its locking and its freeing
  pub record HoldsLock (s : State K V E) (n : ℕ) : Type 0 where
    pub call : Call K V E
    pub live : s.calls n ≡ Some call
    pub under : IsUnderLock call.plan

  -- The notice of this number runs, and its call is gone. A call that answers has heard its own
  -- notice to its end, so this one was dropped before, between its locking and its freeing.
  pub record KeepsLock (s : State K V E) (n : ℕ) : Type 0 where
    pub gone : IsNone (s.calls n)
    pub runs : is_running s.world.desk n ≡ true

  -- where a listener is set, a call holds a lock exactly where it is live and between its locking
  -- and its freeing; without one nobody does; and a number keeps one exactly where its call was
  -- dropped there while its notice ran, and that still does
  pub record LocksAreHeld (s : State K V E) : Type 0 where
    pub held : (n : ℕ) → s.world.desk.rules.listener ≡ true →
        IsSome (s.world.desk.locked n) ↔ HoldsLock s n
    pub none : (n : ℕ) → IsSome (s.world.desk.locked n) → s.world.desk.rules.listener ≡ true
    pub kept : (n : ℕ) → IsSome (s.world.desk.kept n) ↔ KeepsLock s n

  -- Of two notices of one key that which was opened first was committed first, and it runs no more:
  -- it had ended, or was skipped, when the second was opened.
  pub record NoticesAreInOrder (eq : K → K → Bool) (s : State K V E) : Type 0 where
    pub order : (a b : ℕ) (x y : Notice K V) → IsBefore s.world.desk.opened a b →
        s.world.desk.notices a ≡ Some x → s.world.desk.notices b ≡ Some y → eq x.key y.key ≡ true →
        IsBefore s.world.table.committed a b
    pub over : (a b : ℕ) (x y : Notice K V) → IsBefore s.world.desk.opened a b →
        s.world.desk.notices a ≡ Some x → s.world.desk.notices b ≡ Some y → eq x.key y.key ≡ true →
        is_running s.world.desk a ≢ true

  -- no two notices of equal keys run
  abbrev pub NoticesAreApart : (K → K → Bool) → State K V E → Type 0
  NoticesAreApart eq s =
      (a b : ℕ) (x y : Notice K V) → s.world.desk.notices a ≡ Some x →
      s.world.desk.notices b ≡ Some y → eq x.key y.key ≡ true →
      is_running s.world.desk a ≡ true → is_running s.world.desk b ≡ true → a ≡ b
