-- What each event does to a state, as the small state tells it.
use Rattle.std.specs.Prelude.{◌≡◌, ◌≢◌, ◌<◌, ◌+◌, ℕ, Bool, true, false, Option, Some, None}
use Rattle.std.specs.Option.{option_and_then, option_map_or}
use Rattle.moka_hist.specs.State.{Division, State, fresh, Handed}
use Rattle.moka_hist.specs.Plan.{is_disabled}
use Rattle.moka_hist.specs.Run.{Any, Divides, Happens, last_call}
use Rattle.moka_hist.specs.Step.{takes_of}
use Rattle.moka_hist.specs.Telling.{does_take}
use Rattle.moka_hist.specs.declared.events.Event.TheVariants as event
use Rattle.moka_hist.specs.declared.events.Start.{Start}
use Rattle.moka_hist.specs.declared.loads.Load.{Load}
use Rattle.moka_hist.specs.declared.replies.Refusal.TheVariants as refusal
use Rattle.moka_hist.specs.declared.replies.Reply.{Reply}
use Rattle.moka_hist.specs.declared.replies.Reply.TheVariants as reply
use Rattle.moka_small.specs.Small.{End, Stand, Asks, Was_told, Small, empty, is_plain_start, started, waiting, with_stand}
use Rattle.moka_small.specs.Polled.{gone_waiter, polled}
use Rattle.moka_small.specs.Seen.{IsSeenAs, answer_of, reply_to, rules_of, takes_at}

-- a fresh cache of another capacity than 0, without durations and a listener, is seen as the empty
-- small state
abbrev pub FreshIsEmpty : (K V E : Type 0) → (K → K → Bool) → Type 0
FreshIsEmpty K V E eq =
    (division : Division K) (capacity : Option ℕ) (size : ℕ) (built : Handed K V) →
    Divides eq division → 0 < size → is_disabled (rules_of capacity) ≡ false →
    IsSeenAs eq (fresh K V E division (rules_of capacity) size built) (empty capacity)

-- a call that is started gets the next number, as long as there is one
abbrev pub StartIsStarted : (K V E : Type 0) → (K → K → Bool) → Type 0
StartIsStarted K V E eq =
    (s new : State K V E) (m : Small K V E) (begin : Start K V) (r : Reply K V E) →
    IsSeenAs eq s m → is_plain_start begin ≡ true → Happens eq Any s (event.Start begin) r new →
    m.last ≢ last_call → (r ≡ reply.Call (m.last + 1)) × IsSeenAs eq new (started m begin)

-- a poll of a live call replies as the function says, and leaves a state that is seen as it says
abbrev pub PollIsPolled : (K V E : Type 0) → (K → K → Bool) → Type 0
PollIsPolled K V E eq =
    (s new : State K V E) (m : Small K V E) (n : ℕ) (stand : Stand K V E) (r : Reply K V E) →
    IsSeenAs eq s m → m.stands n ≡ Some stand → Happens eq Any s (event.Poll n) r new →
    (r ≡ reply_to (polled eq m n stand).0) × IsSeenAs eq new (polled eq m n stand).1

-- the load may end so: its initializer gives such an answer
abbrev pub may_end : {K V E : Type 0} → Load K → End V E → Bool
may_end load end = does_take (takes_of load.kind) (answer_of end)

-- a call that asks is told how its load ended, and nothing else changes
abbrev pub TellIsTold : (K V E : Type 0) → (K → K → Bool) → Type 0
TellIsTold K V E eq =
    (s new : State K V E) (m : Small K V E) (n : ℕ) (load : Load K) (end : End V E)
    (r : Reply K V E) →
    IsSeenAs eq s m → m.stands n ≡ Some (Asks load) → may_end load end ≡ true →
    Happens eq Any s (event.Tell n (answer_of end)) r new →
    (r ≡ reply.Told) × IsSeenAs eq new (with_stand m n (Some (Was_told load end)))

-- a live call for which nobody waits is dropped, and is gone
abbrev pub DropIsGone : (K V E : Type 0) → (K → K → Bool) → Type 0
DropIsGone K V E eq =
    (s new : State K V E) (m : Small K V E) (n : ℕ) (stand : Stand K V E) (r : Reply K V E) →
    IsSeenAs eq s m → m.stands n ≡ Some stand → waiting m n ≡ 0 →
    Happens eq Any s (event.Drop n) r new →
    (r ≡ reply.Dropped) × IsSeenAs eq new (gone_waiter m n)

-- ---- what is refused

-- a poll of a call that is not live is refused, and nothing changes
abbrev pub PollIsRefused : (K V E : Type 0) → (K → K → Bool) → Type 0
PollIsRefused K V E eq =
    (s new : State K V E) (m : Small K V E) (n : ℕ) (r : Reply K V E) →
    IsSeenAs eq s m → m.stands n ≡ None → Happens eq Any s (event.Poll n) r new →
    (r ≡ reply.Refused refusal.UnknownCall) × IsSeenAs eq new m

-- a call that stands there, if it is live, asks and takes such an answer
abbrev pub takes : {K V E : Type 0} → Option (Stand K V E) → End V E → Bool
takes stand end =
    option_map_or (λ asked. does_take asked (answer_of end)) (option_and_then takes_at stand) false

-- an answer is refused that a call doesn't ask for or doesn't take, and nothing changes
abbrev pub TellIsRefused : (K V E : Type 0) → (K → K → Bool) → Type 0
TellIsRefused K V E eq =
    (s new : State K V E) (m : Small K V E) (n : ℕ) (end : End V E) (r : Reply K V E) →
    IsSeenAs eq s m → takes (m.stands n) end ≡ false →
    Happens eq Any s (event.Tell n (answer_of end)) r new →
    (r ≡ reply.Refused refusal.NotAsked) × IsSeenAs eq new m
