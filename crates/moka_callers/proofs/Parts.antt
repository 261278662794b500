-- What a step makes of the table, of the notices and of the locks, by the first item of its plan.
use Rattle.std.proofs.Common.{◌≡◌, ◌⊎◌, inl, inr, ℕ, ◌==◌, Bool, true, false, cond, List, [], ◌∷◌, ◌++◌, Option, Some, None, refl}
use Rattle.moka_hist.specs.Bound.{decided_by}
use Rattle.moka_hist.specs.Finite.{put_at, put_key}
use Rattle.moka_hist.specs.Plan.{Item}
use Rattle.moka_hist.specs.Plan as plan
use Rattle.moka_hist.specs.Next.{Next}
use Rattle.moka_hist.specs.State.{Call, State, World}
use Rattle.moka_hist.specs.Step.{Step}
use Rattle.moka_hist.specs.Tables.{removed, taken_by}
use Rattle.moka_hist.specs.Visits.{cause_of}
use Rattle.moka_hist.specs.Writing.{stamp_asked}
use Rattle.moka_hist.specs.declared.accesses.Turn.{Turn}
use Rattle.moka_hist.specs.declared.notices.NoticeState.{NoticeState}
use Rattle.moka_hist.specs.declared.notices.NoticeState.TheVariants as notice
use Rattle.moka_hist.specs.declared.records.Stored.{Stored}
use Rattle.moka_laws.proofs.Counting.{none_some}
use Rattle.moka_laws.proofs.Outcomes.{Outcomes, outcomes}
use Rattle.moka_laws.proofs.StepCases.{OnStep, step_cases}
use Rattle.moka_callers.specs.Changing.{ChangesBy}

-- what was taken out stood there
taken_stood : {K V : Type 0} (stamp : Option ℕ) (o : Option (K × Stored V)) (p : K × Stored V) →
    taken_by stamp o ≡ Some p → o ≡ Some p
taken_stood stamp None p e = absurd (none_some e)
taken_stood None (Some pair) p e = e
taken_stood (Some stamp) (Some pair) p e = by (pair.1.stamp == stamp) e
  where
    by : (b : Bool) → cond b (Some pair) None ≡ Some p → Some pair ≡ Some p
    by true e = e
    by false e = absurd (none_some e)

module _ {K V E : Type 0} (eq : K → K → Bool) (w : World K V E) (n : ℕ) where
  -- the number was committed last, and nothing else
  abbrev pub Commits : World K V E → Type 0
  Commits new = new.table.committed ≡ w.table.committed ++ n ∷ []

  -- nothing was committed, and what is stored is the same
  abbrev pub Stays : World K V E → Type 0
  Stays new = (new.table.committed ≡ w.table.committed) × (new.table.stored ≡ w.table.stored)

  -- what a step commits, by the first item of its plan
  abbrev pub CommitsBy : List (Item K V E) → World K V E → Type 0
  CommitsBy (plan.Write key value moment ∷ rest) new =
      Stays new ⊎
      (Commits new × (new.table.stored ≡ put_key eq w.table.stored key
      (Some (key, record { value = value; stamp = n; modified = moment }))))
  CommitsBy (plan.Out removal key ∷ rest) new =
      Stays new ⊎
      ((pair : K × Stored V) × Commits new × (w.table.stored key ≡ Some pair)
      × (new.table.stored ≡ put_key eq w.table.stored key None))
  CommitsBy _ new = new.table.committed ≡ w.table.committed

  -- what a step lists, by the first item of its plan
  abbrev pub NoticesBy : List (Item K V E) → World K V E → Type 0
  NoticesBy (plan.Notice key old cause upsert ∷ rest) new =
      (state : NoticeState) × (new.desk.notices ≡ put_at w.desk.notices n (Some (record {
        number = n;
        key = key;
        value = old.value;
        cause = cause_of w.desk old.stamp old.modified cause upsert;
        state = state;
      })))
  NoticesBy _ new = new.desk.notices ≡ w.desk.notices

  -- and what it locks or frees
  abbrev pub LocksBy : List (Item K V E) → World K V E → Type 0
  LocksBy (plan.Lock key ∷ rest) new =
      (new.desk.locked ≡ w.desk.locked) ⊎ (new.desk.locked ≡ put_at w.desk.locked n (Some key))
  LocksBy (plan.Unlock wrote ∷ rest) new = new.desk.locked ≡ put_at w.desk.locked n None
  LocksBy _ new = new.desk.locked ≡ w.desk.locked

  -- all of these
  abbrev Leaves : List (Item K V E) → World K V E → Type 0
  Leaves p new = ChangesBy eq n p w.table.stored new.table.stored × CommitsBy p new ×
      NoticesBy p new × LocksBy p new

  module _ (c : Call K V E) where
    abbrev After : List (Item K V E) → World K V E → Next K V E → Type 0
    After p new next = Leaves p new

    on_item : (item : Item K V E) (rest : List (Item K V E)) →
        Outcomes eq (After (item ∷ rest)) w n c item rest
    on_item plan.Drain rest =
        (λ none. (refl, refl, refl, refl), λ x xs some. (refl, refl, refl, refl), λ x number xs some. (refl, refl, refl, refl))
    on_item (plan.Notice key old cause upsert) rest =
        (λ off. (refl, refl, (notice.Skipped, refl), refl), λ on. (refl, refl, (notice.Running, refl), refl))
    on_item (plan.Post write) rest = (λ room. (refl, refl, refl, refl), λ full. (refl, refl, refl, refl))
    on_item plan.Apply rest = (λ none. (refl, refl, refl, refl), λ y ys some. (refl, refl, refl, refl))
    on_item (plan.Get aim key) rest =
        (λ more. (refl, refl, refl, refl), λ none. (refl, refl, refl, refl), λ k stored some. (refl, refl, refl, refl))
    on_item (plan.Judge aim key stored) rest = (λ seen. (refl, refl, refl, refl), λ unseen. (refl, refl, refl, refl))
    on_item (plan.Own sought) rest = (
      λ able none. (refl, refl, refl, refl),
      λ disabled none. (refl, refl, refl, refl),
      λ owner some. (refl, refl, refl, refl),
    )
    on_item (plan.Own_key compute) rest = (
      (λ able none. (refl, refl, refl, refl), λ disabled none. (refl, refl, refl, refl)),
      λ owner some. (refl, refl, refl, refl),
    )
    on_item (plan.Own_alone key) rest = (
      (λ able none. (refl, refl, refl, refl), λ disabled none. (refl, refl, refl, refl)),
      λ owner some. (λ able. (refl, refl, refl, refl), λ disabled. (refl, refl, refl, refl)),
    )
    on_item (plan.Read sought) rest = (λ none. (refl, refl, refl, refl), λ with some. (refl, refl, refl, refl))
    on_item (plan.Read_key compute) rest = (λ none. (refl, refl, refl, refl), λ with some. (refl, refl, refl, refl))
    on_item (plan.Settle with) rest = (refl, refl, refl, refl)
    on_item (plan.Ask load) rest = (refl, refl, refl, refl)
    on_item (plan.Ask_op compute pair) rest = (refl, refl, refl, refl)
    on_item (plan.Told load) rest = (λ none. (refl, refl, refl, refl), λ given some. (refl, refl, refl, refl))
    on_item (plan.Told_op compute pair) rest = (λ none. (refl, refl, refl, refl), λ given some. (refl, refl, refl, refl))
    on_item (plan.Holds key stamp cause there stored) rest =
        (λ holds. (refl, refl, refl, refl), λ not. (refl, refl, refl, refl))
    on_item (plan.Moment (plan.To_store key value)) rest = (refl, refl, refl, refl)
    on_item (plan.Moment (plan.To_take_out removal key)) rest = (refl, refl, refl, refl)
    on_item (plan.Write key value moment) rest = (
      λ more. (inl refl, inl (refl, refl), refl, refl),
      λ off old. (inr refl, inr (refl, refl), refl, refl),
      λ on. (inr refl, inr (refl, refl), refl, refl),
      λ k old on some. (inr refl, inr (refl, refl), refl, refl),
    )
    on_item (plan.Out removal key) rest = (
      λ more. (inl refl, inl (refl, refl), refl, refl),
      λ off none. (inl refl, inl (refl, refl), refl, refl),
      λ on none. (inl refl, inl (refl, refl), refl, refl),
      λ k old off some. taken k old some,
      λ k old on some. taken k old some,
    )
      where
        taken : (k : K) (old : Stored V) →
            taken_by (stamp_asked removal) (w.table.stored key) ≡ Some (k, old) →
            Leaves (plan.Out removal key ∷ rest)
            (record w { table = removed eq n w.table key; stay = decided_by n })
        taken k old some =
            let stood = taken_stood (stamp_asked removal) (w.table.stored key) (k, old) some in
            (inr ((k, old), stood, refl), inr ((k, old), refl, stood, refl), refl, refl)
    on_item (plan.Register test) rest = (refl, refl, refl, refl)
    on_item (plan.List_keys part) rest =
        (λ more. (refl, refl, refl, refl), λ listed keys is gives. (refl, refl, refl, refl))
    on_item (plan.Find key) rest = (
      λ more. (refl, refl, refl, refl),
      λ none. (refl, refl, refl, refl),
      λ k stored some none. (refl, refl, refl, refl),
      λ k stored ids some is. (refl, refl, refl, refl),
    )
    on_item (plan.Scan there stored) rest = (λ seen. (refl, refl, refl, refl), λ unseen. (refl, refl, refl, refl))
    on_item (plan.Candidates parts) rest = (λ none. (refl, refl, refl, refl), λ id more some. (refl, refl, refl, refl))
    on_item (plan.Strike there stored) rest = (refl, refl, refl, refl)
    on_item plan.Retire rest = (refl, refl, refl, refl)
    on_item (plan.Reply a) rest = (refl, refl, refl, refl)
    on_item (plan.Ended number) rest = (λ off. (refl, refl, refl, refl), λ on. (refl, refl, refl, refl))
    on_item plan.Turn rest = (λ free. (refl, refl, refl, refl), λ taken. (refl, refl, refl, refl))
    on_item plan.End rest = (refl, refl, refl, refl)
    on_item (plan.Lock key) rest = (λ free. (refl, refl, refl, inr refl), λ held. (refl, refl, refl, inl refl))
    on_item (plan.Unlock wrote) rest = (refl, refl, refl, refl)
    on_item plan.Heard rest = (λ off. (refl, refl, refl, refl), λ on. (refl, refl, refl, refl))
    on_item plan.Idle rest = (refl, refl, refl, refl)
    on_item plan.Invalidate_all rest = (refl, refl, refl, refl)

    on_plan : (p : List (Item K V E)) → OnStep eq (After p) w n c p
    on_plan [] = (refl, refl, refl, refl)
    on_plan (item ∷ rest) = outcomes eq (After (item ∷ rest)) w n c item rest (on_item item rest)

module _ {K V E : Type 0} (eq : K → K → Bool) (s t : State K V E) (n : ℕ) (turn : Turn K V E)
    (step : Step eq s n turn t) where
  step_leaves : Leaves eq s.world n step.call.plan t.world
  step_leaves =
      step_cases eq (After eq s.world n step.call step.call.plan)
      (λ v r. Leaves eq s.world n step.call.plan v.world)
      s t n turn step (on_plan eq s.world n step.call step.call.plan) (λ w next leaves. leaves)

  pub step_changes : ChangesBy eq n step.call.plan s.world.table.stored t.world.table.stored
  step_changes = step_leaves.0

  pub step_commits : CommitsBy eq s.world n step.call.plan t.world
  step_commits = step_leaves.1

  pub step_notices : NoticesBy eq s.world n step.call.plan t.world
  step_notices = step_leaves.2

  pub step_locks : LocksBy eq s.world n step.call.plan t.world
  step_locks = step_leaves.3
