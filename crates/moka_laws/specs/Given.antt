-- What is given to the cache, and that it stores and hands out nothing else.
use Rattle.std.specs.Prelude.{◌≡◌, ℕ, Bool, true, List, [], ◌∷◌, Option, Some, None, ◌⊎◌, IsSomeAnd}
use Rattle.std.specs.Option.{option_and_then, option_map}
use Rattle.moka_hist.specs.State.{State, fresh, Division, Handed}
use Rattle.moka_hist.specs.Plan.{Item}
use Rattle.moka_hist.specs.Plan as plan
use Rattle.moka_hist.specs.Run.{Happens, Run, Any, reply_of}
use Rattle.moka_hist.specs.Step.{Step}
use Rattle.moka_laws.specs.Starts.{brought, key_started}
use Rattle.moka_hist.specs.declared.accesses.Turn.{Turn}
use Rattle.moka_hist.specs.declared.entries.CompResult.{CompResult}
use Rattle.moka_hist.specs.declared.entries.CompResult.TheVariants as done
use Rattle.moka_hist.specs.declared.events.Event.{Event}
use Rattle.moka_hist.specs.declared.events.Event.TheVariants as event
use Rattle.moka_hist.specs.declared.events.Op.TheVariants as op
use Rattle.moka_hist.specs.declared.events.Start.{Start}
use Rattle.moka_hist.specs.declared.events.Told.{Told}
use Rattle.moka_hist.specs.declared.events.Told.TheVariants as told
use Rattle.moka_hist.specs.declared.records.Stored.{Stored}
use Rattle.moka_hist.specs.declared.replies.Answer.{Answer}
use Rattle.moka_hist.specs.declared.replies.Answer.TheVariants as answer
use Rattle.moka_hist.specs.declared.replies.Ask.TheVariants as ask
use Rattle.moka_hist.specs.declared.replies.Reply.{Reply}
use Rattle.moka_hist.specs.declared.replies.Reply.TheVariants as reply
use Rattle.moka_hist.specs.declared.rules.Rules.{Rules}

-- the value that an initializer gives, if any
abbrev pub value_in : {V E : Type 0} → Told V E → Option V
value_in (told.Value value) = Some value
value_in (told.Op op.Nop) = None
value_in (told.Op (op.Put value)) = Some value
value_in (told.Op op.Remove) = None
value_in told.Nothing = None
value_in (told.Err error) = None
value_in told.Done = None
value_in told.Off = None

-- the key of a call that has asked its initializer
abbrev pub asked_key : {K V E : Type 0} → List (Item K V E) → Option K
asked_key [] = None
asked_key (plan.Drain ∷ rest) = None
asked_key (plan.Ended notice ∷ rest) = None
asked_key (plan.Post held ∷ rest) = None
asked_key (plan.Turn ∷ rest) = None
asked_key (plan.Apply ∷ rest) = None
asked_key (plan.End ∷ rest) = None
asked_key (plan.Get aim key ∷ rest) = None
asked_key (plan.Judge aim key stored ∷ rest) = None
asked_key (plan.Own sought ∷ rest) = None
asked_key (plan.Read sought ∷ rest) = None
asked_key (plan.Settle with ∷ rest) = None
asked_key (plan.Ask load ∷ rest) = None
asked_key (plan.Told load ∷ rest) = Some load.key
asked_key (plan.Own_key compute ∷ rest) = None
asked_key (plan.Own_alone key ∷ rest) = None
asked_key (plan.Read_key compute ∷ rest) = None
asked_key (plan.Ask_op compute found ∷ rest) = None
asked_key (plan.Told_op compute found ∷ rest) = Some compute.key
asked_key (plan.Holds key stamp cause there found ∷ rest) = None
asked_key (plan.Lock key ∷ rest) = None
asked_key (plan.Unlock wrote ∷ rest) = None
asked_key (plan.Notice key old cause upsert ∷ rest) = None
asked_key (plan.Heard ∷ rest) = None
asked_key (plan.Moment change ∷ rest) = None
asked_key (plan.Write key value moment ∷ rest) = None
asked_key (plan.Out removal key ∷ rest) = None
asked_key (plan.Idle ∷ rest) = None
asked_key (plan.Invalidate_all ∷ rest) = None
asked_key (plan.Register test ∷ rest) = None
asked_key (plan.List_keys part ∷ rest) = None
asked_key (plan.Find key ∷ rest) = None
asked_key (plan.Scan there found ∷ rest) = None
asked_key (plan.Candidates parts ∷ rest) = None
asked_key (plan.Strike there found ∷ rest) = None
asked_key (plan.Retire ∷ rest) = None
asked_key (plan.Reply answer ∷ rest) = None

module _ {K V E : Type 0} where
  -- The event gives the cache the value for the key: it starts a call with both, or answers what a
  -- call of that key has asked. One that is refused gives nothing, and no other event
  -- gives anything.
  abbrev pub GivesByEvent : State K V E → Event K V E → Reply K V E → K → V → Type 0
  GivesByEvent s (event.Start start) (reply.Call n) key value = brought start ≡ Some (key, value)
  GivesByEvent s (event.Tell n answer) reply.Told key value =
      (option_and_then (λ c. asked_key c.plan) (s.calls n) ≡ Some key) ×
      (value_in answer ≡ Some value)
  GivesByEvent s _ _ key value = ⊥

  -- some event of the run gives the cache the value for the key
  abbrev pub WasGiven : (eq : K → K → Bool) (s : State K V E) (es : List (Event K V E))
      (rs : List (Reply K V E)) (new : State K V E) → Run eq Any s es rs new → K → V → Type 0
  WasGiven eq s (e ∷ es) (r ∷ rs) new run key value =
      GivesByEvent s e r key value ⊎ WasGiven eq run.0 es rs new run.3 key value
  WasGiven eq s _ _ new run key value = ⊥

-- whatever is stored after a run on a fresh cache, some event of that run has given for the very
-- key that it is stored with
abbrev pub StoredIsGiven : (K V E : Type 0) → (K → K → Bool) → Type 0
StoredIsGiven K V E eq =
    (division : Division K) (rules : Rules) (size : ℕ) (built : Handed K V) (s : State K V E)
    (es : List (Event K V E)) (rs : List (Reply K V E))
    (run : Run eq Any (fresh K V E division rules size built) es rs s) (q : K) (p : K × Stored V) →
    s.world.table.stored q ≡ Some p →
    WasGiven eq (fresh K V E division rules size built) es rs s run p.0 p.1.value

-- the value of what a compute did, if any
abbrev pub value_done : {K V : Type 0} → CompResult K V → Option V
value_done (done.Inserted entry) = Some entry.value
value_done (done.ReplacedWith entry) = Some entry.value
value_done (done.Removed entry) = Some entry.value
value_done (done.Unchanged entry) = Some entry.value
value_done (done.StillNone key) = None

module _ {K V E : Type 0} where
  -- the value in an answer, if any
  abbrev pub value_of : Answer K V E → Option V
  value_of (answer.Found found) = found
  value_of (answer.Loaded value fresh) = Some value
  value_of (answer.Computed done) = value_done done
  value_of answer.Done = None
  value_of answer.Nothing = None
  value_of (answer.InitErr error) = None
  value_of (answer.ComputeErr error) = None
  value_of answer.RetriesExhausted = None
  value_of answer.Evicted = None
  value_of answer.Kept = None
  value_of answer.End = None
  value_of (answer.Id id) = None
  value_of answer.ClosuresDisabled = None
  value_of answer.NoId = None

  -- the value that a call hands out by this reply, if any: to its caller as it answers, to its
  -- initializer as it asks for a compute, or to the listener. What a walk gives was not asked for by
  -- a key
  abbrev pub handed : Reply K V E → Option V
  handed (reply.Answer answer) = value_of answer
  handed (reply.Ask ask.Init) = None
  handed (reply.Ask (ask.Compute found)) = option_map (λ pair. pair.1) found
  handed (reply.Ask (ask.Listener key value cause)) = Some value
  handed reply.At = None
  handed (reply.Call number) = None
  handed reply.Going = None
  handed reply.Wait = None
  handed (reply.Item key value) = None
  handed reply.Told = None
  handed reply.Dropped = None
  handed (reply.Refused why) = None

  -- one of the events, by its reply, has started the call of this number so
  abbrev pub HasStarted : ℕ → List (Event K V E) → List (Reply K V E) → Start K V → Type 0
  HasStarted n (e ∷ es) (r ∷ rs) begun =
      ((e ≡ event.Start begun) × (r ≡ reply.Call n)) ⊎ HasStarted n es rs begun
  HasStarted n _ _ begun = ⊥

-- whatever value a call hands out, as it is stepped or polled after a run on a fresh cache, some
-- event of that run has given for a key equal to that which the call was started for
abbrev pub HandedIsGiven : (K V E : Type 0) → (K → K → Bool) → Type 0
HandedIsGiven K V E eq =
    (division : Division K) (rules : Rules) (size : ℕ) (built : Handed K V) (s t : State K V E)
    (es : List (Event K V E)) (rs : List (Reply K V E))
    (run : Run eq Any (fresh K V E division rules size built) es rs s) (n : ℕ) (e : Event K V E)
    (r : Reply K V E) (start : Start K V) (value : V) →
    HasStarted n es rs start → (e ≡ event.Step n) ⊎ (e ≡ event.Poll n) → Happens eq Any s e r t →
    handed r ≡ Some value →
    (key : K) × WasGiven eq (fresh K V E division rules size built) es rs s run key value ×
    IsSomeAnd (key_started start) (λ own. eq key own ≡ true)

-- so by a step of its own
abbrev pub SteppedIsGiven : (K V E : Type 0) → (K → K → Bool) → Type 0
SteppedIsGiven K V E eq =
    (division : Division K) (rules : Rules) (size : ℕ) (built : Handed K V) (s t : State K V E)
    (es : List (Event K V E)) (rs : List (Reply K V E))
    (run : Run eq Any (fresh K V E division rules size built) es rs s) (n : ℕ) (turn : Turn K V E)
    (start : Start K V) (value : V) →
    HasStarted n es rs start → Step eq s n turn t → handed (reply_of turn) ≡ Some value →
    (key : K) × WasGiven eq (fresh K V E division rules size built) es rs s run key value ×
    IsSomeAnd (key_started start) (λ own. eq key own ≡ true)
