-- What a look shows: of what its table operation found, what is seen as its own visit judges it.
use Rattle.std.specs.Prelude.{◌≡◌, ◌≢◌, ◌↔◌, ◌⊎◌, ℕ, Bool, true, false, cond, [], ◌∷◌, Option, Some, None, IsSomeAnd}
use Rattle.moka_hist.specs.State.{Call, State}
use Rattle.moka_hist.specs.Plan.{Aim, end_load, look, is_disabled}
use Rattle.moka_hist.specs.Plan as plan
use Rattle.moka_hist.specs.Visible.{is_visible}
use Rattle.moka_hist.specs.Visits.{is_hit, is_seen, times_at}
use Rattle.moka_hist.specs.Step.{Step, replace_of}
use Rattle.moka_hist.specs.declared.accesses.Turn.{Turn}
use Rattle.moka_hist.specs.declared.accesses.Turn.TheVariants as turn
use Rattle.moka_hist.specs.declared.events.Start.TheVariants as start
use Rattle.moka_hist.specs.declared.loads.Sought.{Sought}
use Rattle.moka_hist.specs.declared.records.Stored.{Stored}
use Rattle.moka_hist.specs.declared.replies.Answer.TheVariants as answer
use Rattle.moka_hist.specs.declared.visits.Settled.TheVariants as settled
use Rattle.moka_laws.specs.Starting.{HasMade, WasStarted}

-- the record of this key is visible in the state: by its clock neither past its times nor hidden, and
-- no registered predicate hits it
abbrev pub is_visible_in : {K V E : Type 0} → State K V E → K → Stored V → Bool
is_visible_in s there stored =
    is_visible s.world.desk.rules (times_at s.world.desk stored.stamp stored.modified)
    (is_hit s.world.desk there stored)

-- ---- the steps of a look

module _ {K V E : Type 0} (n : ℕ) where
  -- the call is no longer where it was before the step: its table operation has decided
  abbrev pub HasDecided : Call K V E → State K V E → Type 0
  HasDecided c t = (d : Call K V E) → t.calls n ≡ Some d → d.plan ≢ c.plan

  -- the step looks the key up for this aim, and this stood there
  pub record LooksUp (aim : Aim K V) (key : K) (found : Option (K × Stored V)) (s : State K V E)
      (c : Call K V E) (reply : Turn K V E) (t : State K V E) : Type 0 where
    pub looks : c.plan ≡ look aim key
    pub stood : s.world.table.stored key ≡ found
    pub decided : HasDecided c t

-- the step judges what a look for this aim has found, and sees it or doesn't
pub record Judges {K V E : Type 0} (aim : Aim K V) (there : K) (stored : Stored V) (sees : Bool)
    (s : State K V E) (c : Call K V E) (reply : Turn K V E) (t : State K V E) : Type 0 where
  pub judging : c.plan ≡ plan.Judge aim there stored ∷ []
  pub seen : is_seen s.world.desk (replace_of aim) there stored ≡ sees

-- What a look of the call for this aim has shown, where `Looks` says what its table operation found:
-- none where that is nothing, or isn't seen as the call's own visit judges it, and else the pair.
pub data HasShown {K V E : Type 0} (eq : K → K → Bool) (s : State K V E) (n : ℕ) (aim : Aim K V)
    (Looks : Option (K × Stored V) → State K V E → Call K V E → Turn K V E → State K V E → Type 0) :
    Option (K × V) → Type 0 where
  Missed : HasMade eq s n (Looks None) → HasShown eq s n aim Looks None
  Judged : (there : K) (stored : Stored V) (sees : Bool) →
      HasMade eq s n (Looks (Some (there, stored))) →
      HasMade eq s n (Judges aim there stored sees) →
      HasShown eq s n aim Looks (cond sees (Some (there, stored.value)) None)

-- ---- gets

module _ {K V E : Type 0} where
  -- The get's next step judges the record that its own look has found under the key, and that is
  -- visible then; this is its value.
  pub record SeesValue (eq : K → K → Bool) (s : State K V E) (n : ℕ) (c : Call K V E) (key : K)
      (value : V) : Type 0 where
    pub there : K
    pub stored : Stored V
    pub looked : HasMade eq s n
        (LooksUp n (plan.To_show plan.As_value) key (Some (there, stored)))
    pub judging : c.plan ≡ plan.Judge (plan.To_show plan.As_value) there stored ∷ []
    pub visible : is_visible_in s there stored ≡ true
    pub same : stored.value ≡ value

  -- the get's step finds nothing under the key, or judges a record that isn't visible
  abbrev pub SeesNothing : State K V E → ℕ → Call K V E → K → Turn K V E → State K V E → Type 0
  SeesNothing s n c key reply t =
      LooksUp n (plan.To_show plan.As_value) key None s c reply t ⊎
      ((there : K) × (stored : Stored V) ×
      (c.plan ≡ plan.Judge (plan.To_show plan.As_value) there stored ∷ []) ×
      (is_visible_in s there stored ≡ false))

-- a get answers a value exactly where its own visit judges a record with it that is visible then
abbrev pub GetsShow : (K V E : Type 0) → (K → K → Bool) → Type 0
GetsShow K V E eq =
    (s t : State K V E) (key : K) (n : ℕ) (c : Call K V E) (value : V) (reply : Turn K V E) →
    WasStarted eq (start.Get key) n s → s.calls n ≡ Some c → Step eq s n reply t →
    (reply ≡ turn.Answer (answer.Found (Some value))) ↔ SeesValue eq s n c key value

-- and none exactly where the cache is disabled, its table operation finds nothing, or what its visit
-- judges isn't visible
abbrev pub GetsMiss : (K V E : Type 0) → (K → K → Bool) → Type 0
GetsMiss K V E eq =
    (s t : State K V E) (key : K) (n : ℕ) (c : Call K V E) (reply : Turn K V E) →
    WasStarted eq (start.Get key) n s → s.calls n ≡ Some c → Step eq s n reply t →
    (reply ≡ turn.Answer (answer.Found None)) ↔
    ((is_disabled s.world.desk.rules ≡ true) ⊎ SeesNothing s n c key reply t)

-- ---- loads

-- a load's first look answers the value that it judges, not fresh, exactly where it sees it: the
-- replace test doesn't hold, and the record is visible then
abbrev pub LoadsShow : (K V E : Type 0) → (K → K → Bool) → Type 0
LoadsShow K V E eq =
    (s t : State K V E) (n : ℕ) (c : Call K V E) (sought : Sought K) (there : K)
    (stored : Stored V) (reply : Turn K V E) → s.calls n ≡ Some c → Step eq s n reply t →
    c.plan ≡ plan.Judge (plan.To_load sought) there stored ∷ [] →
    (reply ≡ turn.Answer (answer.Loaded stored.value false)) ↔
    (is_seen s.world.desk sought.replace there stored ≡ true)

-- so does an insert of a value where none is seen
abbrev pub InsertsShow : (K V E : Type 0) → (K → K → Bool) → Type 0
InsertsShow K V E eq =
    (s t : State K V E) (n : ℕ) (c : Call K V E) (key there : K) (value : V) (stored : Stored V)
    (reply : Turn K V E) → s.calls n ≡ Some c → Step eq s n reply t →
    c.plan ≡ plan.Judge (plan.To_insert key value) there stored ∷ [] →
    (reply ≡ turn.Answer (answer.Loaded stored.value false)) ↔ (is_visible_in s there stored ≡ true)

-- and the owner's look is followed by the end of its load with that value exactly where it sees it
abbrev pub OwnersShow : (K V E : Type 0) → (K → K → Bool) → Type 0
OwnersShow K V E eq =
    (s t : State K V E) (n : ℕ) (c : Call K V E) (sought : Sought K) (there : K)
    (stored : Stored V) (reply : Turn K V E) → s.calls n ≡ Some c → Step eq s n reply t →
    c.plan ≡ plan.Judge (plan.To_own sought) there stored ∷ [] →
    IsSomeAnd (t.calls n)
    (λ d. d.plan ≡ end_load (settled.Ready stored.value) (answer.Loaded stored.value false)) ↔
    (is_seen s.world.desk sought.replace there stored ≡ true)
