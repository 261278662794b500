-- The fact of a cache, and what meets it.
use Rattle.std.specs.Prelude.{◌≡◌, ℕ, Bool, true, false, Option, Some, None, nat_lt}
use Rattle.moka_hist.specs.State.{Call, DeskPart}
use Rattle.moka_hist.specs.Step.{Access, On_table, On_desk}
use Rattle.moka_hist.specs.Visits.{settlement_for}
use Rattle.moka_hist.specs.declared.accesses.Turn.{Turn}
use Rattle.moka_hist.specs.declared.accesses.Turn.TheVariants as turn
use Rattle.moka_hist.specs.declared.replies.Ask.TheVariants as ask
use Rattle.moka_hist.specs.declared.tables.TableOp.TheVariants as op
use Rattle.moka_hist.specs.declared.visits.Settled.{Settled}
use Rattle.moka_hist.specs.declared.visits.Visit.TheVariants as visit
use Rattle.moka_laws.specs.Fair.{ready}
use Rattle.moka_init.specs.FlowPlan.{key_read}
use Rattle.moka_needs.specs.declared.needs.Ending.TheVariants as ending
use Rattle.moka_needs.specs.declared.needs.Need.{Need}
use Rattle.moka_needs.specs.declared.needs.Need.TheVariants as need

-- What the keys and values of a cache are to meet: how keys are compared, and the fact.
pub record Facts (K V : Type 0) : Type 1 where
  pub eq : K → K → Bool
  pub holds : K → V → Type 0

abbrev pub facts : {K V : Type 0} → (K → K → Bool) → (K → V → Type 0) → Facts K V
facts eq holds = record { eq = eq; holds = holds }

-- of which nothing is asked
abbrev pub plain : {K : Type 0} → (V : Type 0) → (K → K → Bool) → Facts K V
plain V eq = facts eq (λ key value. Unit {0})

-- Each owner that has ended with a value has a key here, for which the value is so.
abbrev pub EndsMeet : {K V E : Type 0} → (K → V → Type 0) → (ℕ → Option K)
    → (ℕ → Option (Settled V E)) → Type 0
EndsMeet {K} {V} {E} holds ends settled =
    (owner : ℕ) (with : Settled V E) (value : V) → settled owner ≡ Some with
    → ready with ≡ Some value → (key : K) × (ends owner ≡ Some key) × holds key value

module _ {K V E : Type 0} where
  -- the pair that an access stores, or that of the record which it judges, if it does either
  abbrev pub pair_by : Access K V E → Option (K × V)
  pair_by (On_table (op.Get key)) = None
  pair_by (On_table (op.InsertOrModify key stored)) = Some (key, stored.value)
  pair_by (On_table (op.InsertIfAbsent key stored)) = Some (key, stored.value)
  pair_by (On_table (op.RemoveIf key stamp)) = None
  pair_by (On_table (op.Keys part)) = None
  pair_by (On_desk (visit.Judge replace key stored)) = Some (key, stored.value)
  pair_by (On_desk _) = None

  -- the value by which a visit ends a load, if it does
  abbrev pub ended_by : Access K V E → Option V
  ended_by (On_table operation) = None
  ended_by (On_desk (visit.Settle n with)) = ready with
  ended_by (On_desk _) = None

  -- the pair that a turn tells a compute or the listener, if it does
  abbrev pub told_by : Turn K V E → Option (K × V)
  told_by turn.Going = None
  told_by turn.Wait = None
  told_by (turn.Ask ask.Init) = None
  told_by (turn.Ask (ask.Compute found)) = found
  told_by (turn.Ask (ask.Listener key value cause)) = Some (key, value)
  told_by (turn.Answer answer) = None
  told_by (turn.Item key value) = None

  -- what the access stores meets the fact, and so does the record that it judges; and a value by which
  -- it ends a load does for the key that the state of its call keeps, if it keeps one
  abbrev pub MakesSo : Facts K V → Option K → Access K V E → Type 0
  MakesSo f own made =
      ((pair : K × V) → pair_by made ≡ Some pair → f.holds pair.0 pair.1)
      × ((key : K) (value : V) → own ≡ Some key → ended_by made ≡ Some value →
      f.holds key value)

  -- what the turn tells a compute or the listener meets the fact
  abbrev pub TellsSo : Facts K V → Turn K V E → Type 0
  TellsSo f turn = (pair : K × V) → told_by turn ≡ Some pair → f.holds pair.0 pair.1

  -- where the call reads the end of a load next, a value of that meets the fact for the key that it
  -- seeks
  abbrev pub ReadsSo : (K → V → Type 0) → DeskPart K V E → ℕ → Call K V E → Type 0
  ReadsSo holds w n c =
      (own : K) (with : Settled V E) (value : V) → key_read c.plan ≡ Some own
      → settlement_for w n ≡ Some with → ready with ≡ Some value → holds own value

  -- Where the visit ends a load with a value, and somebody waits for that, the owner has a key here,
  -- for which the value is so.
  abbrev pub EndIsNoted : (K → V → Type 0) → (ℕ → Option K) → DeskPart K V E → Access K V E → Type 0
  EndIsNoted holds ends w made =
      (n : ℕ) (with : Settled V E) (value : V) → made ≡ On_desk (visit.Settle n with)
      → nat_lt 0 (w.readers n) ≡ true → ready with ≡ Some value
      → (key : K) × (ends n ≡ Some key) × holds key value

-- a visit that needs this ends a load with a value
abbrev pub ends_in : {K : Type 0} → Option (Need K) → Bool
ends_in (Some (need.Settle ending.Ready)) = true
ends_in _ = false
