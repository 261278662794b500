-- What a call misses can still come.
use Rattle.std.proofs.Common.{◌≡◌, ℕ, ◌==◌, Bool, true, false, Option, Some, None, is_some, IsSome, inl, inr, ◌⊎◌, refl, sym, ap, ◌∙◌}
use Rattle.std.proofs.lemmas.Bool.{false≢true}
use Rattle.std.specs.Cmp.{IsEquivalence}
use Rattle.std.specs.Option.{IsSomeAnd, option_map_or, option_and_then, option_or}
use Rattle.moka_hist.specs.State.{State}
use Rattle.moka_hist.specs.Plan.{Item}
use Rattle.moka_hist.specs.Plan as plan
use Rattle.moka_hist.specs.Visits.{is_free_for, is_unlocked_for, settlement_for}
use Rattle.moka_hist.specs.Run.{IsReached}
use Rattle.moka_hist.specs.declared.loads.Load.{Load}
use Rattle.moka_laws.specs.Missing.{MissingCanCome, CanCome, HasOwner, OwnsAlike}
use Rattle.moka_hist.specs.Notices.{HoldsLock}
use Rattle.moka_hist.specs.SoundDesk.{SoundDesk}
use Rattle.moka_hist.specs.Telling.{is_asked}
use Rattle.moka_hist.specs.declared.events.Told.TheVariants as told
use Rattle.moka_laws.proofs.Locking.{in_locking, is_listening, locker_live}
use Rattle.moka_laws.proofs.Outcomes.{computes_of}
use Rattle.moka_laws.proofs.SoundReached.{reached_sound}
use Rattle.moka_laws.proofs.Turns.{turn_held}
use Rattle.moka_laws.proofs.Served.{waiters_served}

module _ {K V E : Type 0} (eq : K → K → Bool) where
  turn_comes : (s : State K V E) (n : ℕ) → IsReached eq s → is_free_for s.world.desk n ≡ false → CanCome eq s n plan.Turn
  turn_comes s n h missing = by (s.world.desk.turn) refl missing
    where
      by : (o : Option ℕ) → s.world.desk.turn ≡ o → option_map_or (λ v. v == n) o true ≡ false → CanCome eq s n plan.Turn
      by None e m = absurd (false≢true (sym m))
      by (Some holder) e m = (holder, e, (turn_held eq s holder h).0 e)

  owner_comes : (s : State K V E) (n : ℕ) (load : Load K) →
      is_some (settlement_for s.world.desk n) ≡ false → HasOwner eq s n load →
      (owner : ℕ) × (s.world.desk.joined n ≡ Some owner) × OwnsAlike eq s owner load
  owner_comes s n load missing own = by own.served
    where
      by : OwnsAlike eq s own.owner load ⊎ IsSome (s.world.desk.settled own.owner) →
          (owner : ℕ) × (s.world.desk.joined n ≡ Some owner) × OwnsAlike eq s owner load
      by (inl alike) = (own.owner, own.joined, alike)
      by (inr some) = absurd (false≢true (sym missing ∙ ap (λ o. is_some (option_and_then s.world.desk.settled o)) own.joined ∙ some))

  lock_comes : IsEquivalence eq → (s : State K V E) (n : ℕ) (key : K) → IsReached eq s → is_unlocked_for s.world.desk n key ≡ false → CanCome eq s n (plan.Lock key)
  lock_comes laws s n key h missing = by (s.world.desk.locks key) refl missing
    where
      sound : SoundDesk eq s.world.desk
      sound = reached_sound eq laws s h

      -- a notice that keeps a lock runs
      kept : (holder : ℕ) (o : Option K) → s.world.desk.kept holder ≡ o → IsSomeAnd o (λ own. eq own key ≡ true) →
          IsSome (s.world.desk.kept holder) × (is_asked s.world.desk holder told.Done ≡ true)
      kept holder None e own = absurd own
      kept holder (Some k) e own = (ap is_some e, sound.keeps holder (ap is_some e))

      live : (holder : ℕ) (l : Option K) → s.world.desk.locked holder ≡ l → IsSomeAnd (option_or l (s.world.desk.kept holder)) (λ own. eq own key ≡ true) →
          HoldsLock s holder ⊎ (IsSome (s.world.desk.kept holder) × (is_asked s.world.desk holder told.Done ≡ true))
      live holder None e own = inr (kept holder (s.world.desk.kept holder) refl own)
      live holder (Some k) e own =
          let i = in_locking eq s h in
          inl (locker_live s i holder k (is_listening s i holder (ap is_some e)) e)

      by : (o : Option ℕ) → s.world.desk.locks key ≡ o → option_map_or (λ v. v == n) o true ≡ false → CanCome eq s n (plan.Lock key)
      by None e m = absurd (false≢true (sym m))
      by (Some holder) e m = (holder, e, live holder (s.world.desk.locked holder) refl (sound.locks key holder e))

  pub can_come : IsEquivalence eq → MissingCanCome K V E eq
  can_come laws s n c plan.Turn rest h live e missing = turn_comes s n h missing
  can_come laws s n c (plan.Read sought) rest h live e missing =
      owner_comes s n sought.load missing
      (waiters_served eq s n c (plan.Read sought) rest sought.load h live e refl)
  can_come laws s n c (plan.Read_key compute) rest h live e missing =
      owner_comes s n (computes_of compute.key) missing
      (waiters_served eq s n c (plan.Read_key compute) rest (computes_of compute.key) h live e refl)
  can_come laws s n c (plan.Lock key) rest h live e missing = lock_comes laws s n key h missing
  can_come laws s n c _ rest h live e missing = missing
