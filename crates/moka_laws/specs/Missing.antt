-- What a call may have to wait for can still come.
use Rattle.std.specs.Prelude.{◌≡◌, ◌↔◌, ◌⊎◌, ℕ, Bool, true, List, ◌∷◌, Option, Some, None, IsSome}
use Rattle.moka_hist.specs.Finite.{load_eq}
use Rattle.moka_hist.specs.State.{Call, State}
use Rattle.moka_hist.specs.Plan.{Item}
use Rattle.moka_hist.specs.Plan as plan
use Rattle.moka_hist.specs.Run.{IsReached}
use Rattle.moka_hist.specs.Missing.{IsMissing}
use Rattle.moka_hist.specs.Notices.{HoldsLock}
use Rattle.moka_hist.specs.Telling.{is_asked}
use Rattle.moka_hist.specs.declared.events.Told.TheVariants as told
use Rattle.moka_hist.specs.declared.loads.Kind.TheVariants as kind
use Rattle.moka_hist.specs.declared.loads.Load.{Load}
use Rattle.moka_hist.specs.declared.records.Mode.TheVariants as mode

module _ {K V E : Type 0} where
  -- the plan applies the log, and then ends the turn, and nothing else
  abbrev pub IsApplying : List (Item K V E) → Type 0
  IsApplying (plan.Apply ∷ rest) = IsApplying rest
  IsApplying (plan.End ∷ rest) = Unit {0}
  IsApplying _ = ⊥

  -- The live call of this number applies the log: it is between two steps, where it can't be
  -- dropped, and what it does next waits for nothing.
  pub record AppliesLog (s : State K V E) (n : ℕ) : Type 0 where
    pub call : Call K V E
    pub live : s.calls n ≡ Some call
    pub between : call.mode ≡ mode.Mid
    pub applying : IsApplying call.plan

  -- the live call of this number owns a load that is equal to the one given
  pub record OwnsAlike (eq : K → K → Bool) (s : State K V E) (n : ℕ) (load : Load K) : Type 0 where
    pub call : Call K V E
    pub live : s.calls n ≡ Some call
    pub owned : Load K
    pub owning : s.world.desk.owning n ≡ Some owned
    pub alike : load_eq eq owned load ≡ true

  -- The call waits for an owner, which is live and owns an equal load, or whose end is there to be
  -- read.
  pub record HasOwner (eq : K → K → Bool) (s : State K V E) (n : ℕ) (load : Load K) : Type 0 where
    pub owner : ℕ
    pub joined : s.world.desk.joined n ≡ Some owner
    pub served : OwnsAlike eq s owner load ⊎ IsSome (s.world.desk.settled owner)

  -- the load whose owner the item waits for; these two items alone wait for one
  abbrev pub waits_for : Item K V E → Option (Load K)
  waits_for (plan.Read sought) = Some sought.load
  waits_for (plan.Read_key compute) = Some (record { key = compute.key; kind = kind.Compute })
  waits_for _ = None

  -- What the item may miss can still come: from the call that has the turn, which applies the log;
  -- from the owner, which owns an equal load; from the call that holds the key's lock, which is
  -- live and frees it, or from the notice that keeps that lock, which runs, and whose end would be
  -- taken; as the answer to the own ask, which is open; or as the listener's answer to the own
  -- notice or to that of an owed write, which it would take. Other items miss nothing.
  abbrev pub CanCome : (K → K → Bool) → State K V E → ℕ → Item K V E → Type 0
  CanCome eq s n plan.Turn = (holder : ℕ) × (s.world.desk.turn ≡ Some holder) × AppliesLog s holder
  CanCome eq s n (plan.Read sought) =
      (owner : ℕ) × (s.world.desk.joined n ≡ Some owner) × OwnsAlike eq s owner sought.load
  CanCome eq s n (plan.Told load) = IsSome (s.world.desk.asks n)
  CanCome eq s n (plan.Read_key compute) =
      (owner : ℕ) × (s.world.desk.joined n ≡ Some owner) ×
      OwnsAlike eq s owner (record { key = compute.key; kind = kind.Compute })
  CanCome eq s n (plan.Told_op compute found) = IsSome (s.world.desk.asks n)
  CanCome eq s n (plan.Lock key) =
      (holder : ℕ) × (s.world.desk.locks key ≡ Some holder)
      × (HoldsLock s holder
      ⊎ (IsSome (s.world.desk.kept holder) × (is_asked s.world.desk holder told.Done ≡ true)))
  CanCome eq s n plan.Heard = is_asked s.world.desk n told.Done ≡ true
  CanCome eq s n (plan.Ended number) = is_asked s.world.desk number told.Done ≡ true
  CanCome eq s n _ = ⊥

-- in every reached state a call has the turn exactly where it applies the log
abbrev pub TurnIsHeld : (K V E : Type 0) → (K → K → Bool) → Type 0
TurnIsHeld K V E eq =
    (s : State K V E) (n : ℕ) → IsReached eq s → (s.world.desk.turn ≡ Some n) ↔ AppliesLog s n

-- in every reached state each call that waits for the owner of a load or of a compute has one
abbrev pub WaitersHaveOwners : (K V E : Type 0) → (K → K → Bool) → Type 0
WaitersHaveOwners K V E eq =
    (s : State K V E) (n : ℕ) (c : Call K V E) (item : Item K V E) (rest : List (Item K V E))
    (load : Load K) →
    IsReached eq s → s.calls n ≡ Some c → c.plan ≡ item ∷ rest → waits_for item ≡ Some load →
    HasOwner eq s n load

-- in every reached state what a live call misses can still come
abbrev pub MissingCanCome : (K V E : Type 0) → (K → K → Bool) → Type 0
MissingCanCome K V E eq =
    (s : State K V E) (n : ℕ) (c : Call K V E) (item : Item K V E) (rest : List (Item K V E)) →
    IsReached eq s → s.calls n ≡ Some c → c.plan ≡ item ∷ rest → IsMissing s.world.desk n item →
    CanCome eq s n item
