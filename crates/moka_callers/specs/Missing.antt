-- What a removal that took nothing out has seen since its start.
use Rattle.std.specs.Prelude.{◌≡◌, ◌≢◌, ◌⊎◌, ℕ, Bool, true, false, List, ◌∷◌, Some, None}
use Rattle.moka_hist.specs.Causes.{chosen_holds}
use Rattle.moka_hist.specs.Plan.{Item}
use Rattle.moka_hist.specs.Plan as plan
use Rattle.moka_hist.specs.State.{Call, State}
use Rattle.moka_hist.specs.Step.{Step}
use Rattle.moka_hist.specs.Run.{Any, Happens, IsReached, Run}
use Rattle.moka_hist.specs.Visits.{is_hit, times_at}
use Rattle.moka_hist.specs.declared.accesses.Turn.{Turn}
use Rattle.moka_hist.specs.declared.accesses.Turn.TheVariants as turn
use Rattle.moka_hist.specs.declared.events.Event.{Event}
use Rattle.moka_hist.specs.declared.events.Event.TheVariants as event
use Rattle.moka_hist.specs.declared.events.Start.TheVariants as start
use Rattle.moka_hist.specs.declared.records.Mode.TheVariants as mode
use Rattle.moka_hist.specs.declared.records.Stored.{Stored}
use Rattle.moka_hist.specs.declared.replies.Answer.TheVariants as answer
use Rattle.moka_hist.specs.declared.replies.Reply.{Reply}
use Rattle.moka_hist.specs.declared.replies.Reply.TheVariants as reply
use Rattle.moka_hist.specs.declared.rules.Cause.{Cause}
use Rattle.moka_laws.specs.Removals.{HasKept, StaysByCause}
use Rattle.moka_callers.specs.Reading.{Between}

-- a remove that answers none has found nothing under its key, in a state since its start
abbrev pub RemovesFoundNone : (K V E : Type 0) → (K → K → Bool) → Type 0
RemovesFoundNone K V E eq =
    (s b t u : State K V E) (m : ℕ) (key : K) (es : List (Event K V E)) (rs : List (Reply K V E)) →
    IsReached eq s → Happens eq Any s (event.Start (start.Remove key)) (reply.Call m) b →
    Run eq Any b es rs t → Step eq t m (turn.Answer (answer.Found None)) u →
    (look : Between eq b t) × (look.at.world.table.stored key ≡ None)

-- Why the chosen record was kept, in states since the first one: nothing stood under its key; a
-- record of another stamp did; or it stood there, and the cause didn't hold of it as it was judged.
pub data KeptSince {K V E : Type 0} (eq : K → K → Bool) (key : K) (stamp : ℕ) (cause : Cause)
    (b t : State K V E) : Type 0 where
  Gone : (look : Between eq b t) → look.at.world.table.stored key ≡ None →
      KeptSince eq key stamp cause b t
  Replaced : (look : Between eq b t) (there : K) (stored : Stored V) →
      look.at.world.table.stored key ≡ Some (there, stored) → stored.stamp ≢ stamp →
      KeptSince eq key stamp cause b t
  Spared : (look judge : Between eq b t) (there : K) (stored : Stored V) →
      look.at.world.table.stored key ≡ Some (there, stored) → stored.stamp ≡ stamp →
      chosen_holds judge.at.world.desk.rules
      (times_at judge.at.world.desk stored.stamp stored.modified)
      (is_hit judge.at.world.desk there stored) cause ≡ false →
      KeptSince eq key stamp cause b t

-- an evict that answers kept has seen why, since its start
abbrev pub EvictsKeptSeen : (K V E : Type 0) → (K → K → Bool) → Type 0
EvictsKeptSeen K V E eq =
    (s b t u : State K V E) (m : ℕ) (key : K) (stamp : ℕ) (cause : Cause)
    (es : List (Event K V E)) (rs : List (Reply K V E)) →
    IsReached eq s →
    Happens eq Any s (event.Start (start.Evict key stamp cause)) (reply.Call m) b →
    Run eq Any b es rs t → Step eq t m (turn.Answer answer.Kept) u →
    KeptSince eq key stamp cause b t

-- the item is a step of a table operation: that of a look, of a taking out, or of another
abbrev pub is_on_table : {K V E : Type 0} → Item K V E → Bool
is_on_table (plan.Get aim key) = true
is_on_table (plan.Write key value moment) = true
is_on_table (plan.Out removal key) = true
is_on_table (plan.List_keys part) = true
is_on_table (plan.Find key) = true
is_on_table _ = false

-- where there is cause to keep the chosen record the step keeps it, or it is one of a table
-- operation, which is left undecided
abbrev pub KeptUnlessUndecided : (K V E : Type 0) → (K → K → Bool) → Type 0
KeptUnlessUndecided K V E eq =
    (s t : State K V E) (n : ℕ) (c : Call K V E) (item : Item K V E) (rest : List (Item K V E))
    (reply : Turn K V E) →
    IsReached eq s → s.calls n ≡ Some c → c.plan ≡ item ∷ rest → StaysByCause s item →
    Step eq s n reply t →
    HasKept t n reply ⊎
    ((is_on_table item ≡ true) × (t.calls n ≡ Some (record c { mode = mode.Mid })))
