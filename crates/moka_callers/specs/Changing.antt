-- What changes the table.
use Rattle.std.specs.Prelude.{◌≡◌, ◌⊎◌, ℕ, Bool, List, ◌∷◌, Option, Some, None}
use Rattle.moka_hist.specs.Finite.{put_key}
use Rattle.moka_hist.specs.State.{Call, State}
use Rattle.moka_hist.specs.Plan.{Item}
use Rattle.moka_hist.specs.Plan as plan
use Rattle.moka_hist.specs.Step.{Step}
use Rattle.moka_hist.specs.Run.{Any, Happens}
use Rattle.moka_hist.specs.declared.accesses.Turn.{Turn}
use Rattle.moka_hist.specs.declared.events.Event.{Event}
use Rattle.moka_hist.specs.declared.events.Event.TheVariants as event
use Rattle.moka_hist.specs.declared.records.Stored.{Stored}
use Rattle.moka_hist.specs.declared.replies.Reply.{Reply}

module _ {K V E : Type 0} (eq : K → K → Bool) where
  -- What is stored before and after a step of the call of this number, by the first item of its
  -- plan: a write stores its pair, stamped with the number and its moment; a taking out leaves
  -- nothing under its key, where something stood; each of them may do nothing as yet, and nothing
  -- else does anything.
  abbrev pub ChangesBy : ℕ → List (Item K V E) → (old new : K → Option (K × Stored V)) → Type 0
  ChangesBy n (plan.Write key value moment ∷ rest) old new =
      let stored : Stored V = record { value = value; stamp = n; modified = moment } in
      (new ≡ old) ⊎ (new ≡ put_key eq old key (Some (key, stored)))
  ChangesBy n (plan.Out removal key ∷ rest) old new =
      (new ≡ old) ⊎
      ((pair : K × Stored V) × (old key ≡ Some pair) × (new ≡ put_key eq old key None))
  ChangesBy n plan old new = new ≡ old

-- a step changes what is stored by a write or a taking out alone
abbrev pub StepsChangeByWrites : (K V E : Type 0) → (K → K → Bool) → Type 0
StepsChangeByWrites K V E eq =
    (s t : State K V E) (n : ℕ) (c : Call K V E) (turn : Turn K V E) →
    s.calls n ≡ Some c → Step eq s n turn t →
    ChangesBy eq n c.plan s.world.table.stored t.world.table.stored

-- the event makes no step of a call
abbrev pub MakesNoStep : {K V E : Type 0} → Event K V E → Type 0
MakesNoStep (event.Step n) = ⊥
MakesNoStep (event.Poll n) = ⊥
MakesNoStep e = Unit {0}

-- an event that makes no step leaves the table as it was
abbrev pub TableChangesBySteps : (K V E : Type 0) → (K → K → Bool) → Type 0
TableChangesBySteps K V E eq =
    (s t : State K V E) (e : Event K V E) (r : Reply K V E) →
    MakesNoStep e → Happens eq Any s e r t → t.world.table ≡ s.world.table
