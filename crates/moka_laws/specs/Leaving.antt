-- What is known of a record that leaves: the write that names it, and the notice that tells of it.
use Rattle.std.specs.Prelude.{◌≡◌, ◌≢◌, ℕ, Bool, true, false, List, [], ◌∷◌, Option, Some, None, IsSomeAnd}
use Rattle.std.specs.Option.{option_map}
use Rattle.moka_hist.specs.State.{Call, State, TablePart}
use Rattle.moka_hist.specs.Plan.{Item, Removal, held_by}
use Rattle.moka_hist.specs.Plan as plan
use Rattle.moka_hist.specs.Step.{Step}
use Rattle.moka_hist.specs.Run.{IsReached}
use Rattle.moka_hist.specs.Visits.{cause_of}
use Rattle.moka_hist.specs.Writing.{cause_handed}
use Rattle.moka_hist.specs.declared.accesses.Turn.{Turn}
use Rattle.moka_hist.specs.declared.accesses.Turn.TheVariants as turn
use Rattle.moka_hist.specs.declared.records.Stored.{Stored}
use Rattle.moka_hist.specs.declared.replies.Ask.{Ask}
use Rattle.moka_hist.specs.declared.replies.Ask.TheVariants as ask
use Rattle.moka_hist.specs.declared.rules.Cause.{Cause}
use Rattle.moka_hist.specs.declared.writes.Write.TheVariants.{Remove, Upsert}

-- ---- the write that names it

-- the stamp of the record that stands under the key, where one does
abbrev pub stamp_under : {K V : Type 0} → TablePart K V → K → Option ℕ
stamp_under t key = option_map (λ pair. pair.1.stamp) (t.stored key)

-- in every state a write that changes the map leaves its call with the upsert of its own number,
-- which names the record that it took the place of, or none where none stood there
abbrev pub UpsertsNameOld : (K V E : Type 0) → (K → K → Bool) → Type 0
UpsertsNameOld K V E eq =
    (s t : State K V E) (n : ℕ) (c : Call K V E) (key : K) (value : V) (moment : ℕ)
    (rest : List (Item K V E)) (reply : Turn K V E) →
    s.calls n ≡ Some c → c.plan ≡ plan.Write key value moment ∷ rest → Step eq s n reply t →
    t.world.table ≢ s.world.table →
    IsSomeAnd (t.calls n) (λ d. held_by d.plan ≡ Some (Upsert n (stamp_under s.world.table key)))

-- in every state a removal that changes the map leaves its call with the removal of the record that
-- stood under the key, under its own number
abbrev pub RemovalsNameOld : (K V E : Type 0) → (K → K → Bool) → Type 0
RemovalsNameOld K V E eq =
    (s t : State K V E) (n : ℕ) (c : Call K V E) (removal : Removal K) (key : K)
    (rest : List (Item K V E)) (reply : Turn K V E) →
    s.calls n ≡ Some c → c.plan ≡ plan.Out removal key ∷ rest → Step eq s n reply t →
    t.world.table ≢ s.world.table →
    IsSomeAnd (stamp_under s.world.table key)
    (λ stamp. IsSomeAnd (t.calls n) (λ d. held_by d.plan ≡ Some (Remove n stamp)))

-- ---- the notice that tells of it

module _ {K V E : Type 0} where
  -- the plan tells next of this record, which left for the cause handed in, or else by a write in
  -- its place (`upsert`) or a removal
  abbrev pub TellsNext : List (Item K V E) → K → Stored V → Option Cause → Bool → Type 0
  TellsNext [] key old cause upsert = ⊥
  TellsNext (item ∷ rest) key old cause upsert = item ≡ plan.Notice key old cause upsert

-- on a reached state under a listener a write that takes the place of a record leaves its call with
-- the notice of just that record
abbrev pub ReplacedAreTold : (K V E : Type 0) → (K → K → Bool) → Type 0
ReplacedAreTold K V E eq =
    (s t : State K V E) (n : ℕ) (c : Call K V E) (key there : K) (old : Stored V) (value : V)
    (moment : ℕ) (rest : List (Item K V E)) (reply : Turn K V E) →
    IsReached eq s → s.world.desk.rules.listener ≡ true → s.calls n ≡ Some c →
    c.plan ≡ plan.Write key value moment ∷ rest → s.world.table.stored key ≡ Some (there, old) →
    Step eq s n reply t → t.world.table ≢ s.world.table →
    IsSomeAnd (t.calls n) (λ d. TellsNext d.plan key old None true)

-- and so does a removal that takes a record out, with the cause that was handed in, if any
abbrev pub TakenAreTold : (K V E : Type 0) → (K → K → Bool) → Type 0
TakenAreTold K V E eq =
    (s t : State K V E) (n : ℕ) (c : Call K V E) (removal : Removal K) (key there : K)
    (old : Stored V) (rest : List (Item K V E)) (reply : Turn K V E) →
    IsReached eq s → s.world.desk.rules.listener ≡ true → s.calls n ≡ Some c →
    c.plan ≡ plan.Out removal key ∷ rest → s.world.table.stored key ≡ Some (there, old) →
    Step eq s n reply t → t.world.table ≢ s.world.table →
    IsSomeAnd (t.calls n) (λ d. TellsNext d.plan key old (cause_handed removal) false)

module _ {K V E : Type 0} where
  -- The step asks the listener with the key, the value that left, and why it left, unless the
  -- listener is off; and then it asks nobody.
  pub record AsksListener (s : State K V E) (key : K) (old : Stored V) (cause : Option Cause)
      (upsert : Bool) (reply : Turn K V E) : Type 0 where
    pub asks : s.world.desk.off ≡ false →
        reply ≡ turn.Ask (ask.Listener key old.value
        (cause_of s.world.desk old.stamp old.modified cause upsert))
    pub off : (a : Ask K V) → s.world.desk.off ≡ true → reply ≢ turn.Ask a

-- in every state the step of a notice asks the listener of just the record that it is of
abbrev pub NoticesAsk : (K V E : Type 0) → (K → K → Bool) → Type 0
NoticesAsk K V E eq =
    (s t : State K V E) (n : ℕ) (c : Call K V E) (key : K) (old : Stored V) (cause : Option Cause)
    (upsert : Bool) (rest : List (Item K V E)) (reply : Turn K V E) →
    s.calls n ≡ Some c → c.plan ≡ plan.Notice key old cause upsert ∷ rest → Step eq s n reply t →
    AsksListener s key old cause upsert reply
