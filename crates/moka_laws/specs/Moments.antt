-- Moments of records: when one was last accessed, and what an invalidation of all hides.
use Rattle.std.specs.Prelude.{◌≡◌, ◌≤◌, ◌<◌, ℕ, ◌==◌, nat_lt, Bool, false, cond, ◌&&◌, List, ◌∷◌, Option, Some}
use Rattle.moka_hist.specs.State.{Call, DeskPart, State}
use Rattle.moka_hist.specs.Plan.{Item}
use Rattle.moka_hist.specs.Plan as plan
use Rattle.moka_hist.specs.Run.{IsReached}
use Rattle.moka_hist.specs.Step.{Step, replace_of}
use Rattle.moka_hist.specs.Visible.{is_hidden}
use Rattle.moka_hist.specs.Visits.{accessed_at, is_seen, times_at}
use Rattle.moka_hist.specs.declared.accesses.Turn.{Turn}
use Rattle.moka_hist.specs.declared.events.Start.TheVariants as start
use Rattle.moka_hist.specs.declared.records.Stored.{Stored}
use Rattle.moka_laws.specs.Starting.{Leads, WasStarted}

module _ {K V E : Type 0} where
  -- when the record was last accessed: the moment of its write, or of the last look that saw it
  abbrev pub accessed_in : State K V E → Stored V → ℕ
  accessed_in s stored = accessed_at s.world.desk stored.stamp stored.modified

  -- the plan judges a record of this stamp next, and the call sees it: that item alone does
  abbrev pub sees_next : DeskPart K V E → List (Item K V E) → ℕ → Bool
  sees_next w (plan.Judge aim there stored ∷ rest) stamp =
      stored.stamp == stamp && is_seen w (replace_of aim) there stored
  sees_next w _ stamp = false

-- in every reached state each stored record was last accessed when it was written or later, and not
-- after the clock
abbrev pub AccessesAreInTime : (K V E : Type 0) → (K → K → Bool) → Type 0
AccessesAreInTime K V E eq =
    (s : State K V E) (key there : K) (stored : Stored V) → IsReached eq s →
    s.world.table.stored key ≡ Some (there, stored) →
    (stored.modified ≤ accessed_in s stored) × (accessed_in s stored ≤ s.world.desk.clock)

-- a step accesses a stored record, at the clock, exactly where it judges that record and sees it
abbrev pub AccessesAreSeen : (K V E : Type 0) → (K → K → Bool) → Type 0
AccessesAreSeen K V E eq =
    (s t : State K V E) (n : ℕ) (c : Call K V E) (reply : Turn K V E) (key there : K)
    (stored : Stored V) → IsReached eq s → s.calls n ≡ Some c → Step eq s n reply t →
    s.world.table.stored key ≡ Some (there, stored) →
    accessed_in t stored ≡
    cond (sees_next s.world.desk c.plan stored.stamp) s.world.desk.clock (accessed_in s stored)

-- the step of a call that invalidates all hides just what was written before the clock
abbrev pub InvalidationHides : (K V E : Type 0) → (K → K → Bool) → Type 0
InvalidationHides K V E eq =
    (s t : State K V E) (n : ℕ) (reply : Turn K V E) (stored : Stored V) →
    WasStarted eq start.InvalidateAll n s → Step eq s n reply t →
    is_hidden (times_at t.world.desk stored.stamp stored.modified) ≡
    nat_lt stored.modified s.world.desk.clock

-- from that step on no look sees such a record, whatever its replace test
abbrev pub InvalidatedStayUnseen : (K V E : Type 0) → (K → K → Bool) → Type 0
InvalidatedStayUnseen K V E eq =
    (s t u : State K V E) (n : ℕ) (reply : Turn K V E) (replace : Option ℕ) (key : K)
    (stored : Stored V) →
    WasStarted eq start.InvalidateAll n s → Step eq s n reply t → Leads eq t u →
    stored.modified < s.world.desk.clock → is_seen u.world.desk replace key stored ≡ false
