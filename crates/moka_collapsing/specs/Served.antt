-- What a user may rely on over a whole run of the gateway.
use Rattle.std.specs.Prelude.{◌≡◌, ◌⊎◌, ◌↔◌, ℕ, List, [], ◌∷◌, ◌++◌, map, flat_map, length, slice_get, Option, Some, None, IsSome, Result, Ok, Err, nat_eq}
use Rattle.std.specs.List.{AllByRecursion, IsDistinct}
use Rattle.moka_requests.specs.Requests.{requests_of}
use Rattle.moka_requests.specs.declared.request.Request.{Request}
use Rattle.moka_requests.specs.declared.request.Request.TheVariants.{Get, Bad}
use Rattle.moka_collapsing.specs.declared.answer.Answer.{Answer}
use Rattle.moka_collapsing.specs.declared.answer.Answer.TheVariants as answer
use Rattle.moka_collapsing.specs.declared.out.Out.{Out}
use Rattle.moka_collapsing.specs.declared.out.Out.TheVariants.{Fetch, Cancel, To}
use Rattle.moka_collapsing.specs.declared.slot.Place.{Place}
use Rattle.moka_collapsing.specs.declared.slot.Slot.{Slot}
use Rattle.moka_collapsing.specs.declared.slot.Slot.TheVariants.{Waits, Answered}
use Rattle.moka_collapsing.specs.Clients.{Client, front_answer}
use Rattle.moka_collapsing.specs.Reference.{Reference}
use Rattle.moka_collapsing.specs.Runs.{Event, Reply, brought_by, fetch_in, run_of}
use Rattle.moka_collapsing.specs.Texts.{reply_text}
use Rattle.moka_collapsing.specs.Upstream.{Waiter}

-- it is one of these
abbrev pub IsAmong : {X : Type 0} → X → List X → Type 0
IsAmong x [] = ⊥
IsAmong x (y ∷ ys) = (y ≡ x) ⊎ IsAmong x ys

-- the request of this index among those of the client of this number
abbrev pub place_at : ℕ → ℕ → Place
place_at number index = record { client = number; index = index }

-- ---- what upstream requests brought

-- In the run the upstream request of this key brought this, while this request waited for it.
pub record BroughtTo (events : List Event) (key : ℕ) (brought : Result ℕ ℕ) (waiter : Waiter)
    : Type 0 where
  pub before : List Event
  pub after : List Event
  pub run : events ≡ before ++ Reply key brought ∷ after
  pub waited : IsAmong waiter ((run_of before).gateway.upstream.waiting key)

-- it brought this while some request waited: it was open
abbrev pub Brought : List Event → ℕ → Result ℕ ℕ → Type 0
Brought events key brought = (waiter : Waiter) × BroughtTo events key brought waiter

-- ---- the answers to requests

-- An answer answers its request: a value was brought for its key; an error ended the list on which
-- this request waited; a line that is no request is bad.
abbrev pub IsAnswerTo : List Event → Place → Request → Answer → Type 0
IsAnswerTo events place (Get key) (answer.Value value) = Brought events key (Ok value)
IsAnswerTo events place (Get key) (answer.Error error) =
    (number : ℕ) × BroughtTo events key (Err error) (number, place)
IsAnswerTo events place (Get key) answer.Bad = ⊥
IsAnswerTo events place Bad (answer.Value value) = ⊥
IsAnswerTo events place Bad (answer.Error error) = ⊥
IsAnswerTo events place Bad answer.Bad = Unit {0}

-- a request has its answer, or it waits for the open upstream request of its key
abbrev pub StandsFor : List Event → (ℕ → List Waiter) → Place → Request → Slot → Type 0
StandsFor events waiting place request (Answered answer) = IsAnswerTo events place request answer
StandsFor events waiting place request (Waits key number) =
    (request ≡ Get key) × IsAmong (number, place) (waiting key)

-- the request of this index is one of these, and stands so
abbrev pub Stands : List Event → (ℕ → List Waiter) → ℕ → List Request → ℕ → Slot → Type 0
Stands events waiting number requests index slot =
    (request : Request) × (slice_get requests index ≡ Some request)
    × StandsFor events waiting (place_at number index) request slot

-- ---- the clients

-- how the requests of a client stand, from its first: those that have left were answered
abbrev pub all_slots : List Answer → List Slot → List Slot
all_slots answers slots = map Answered answers ++ slots

-- the requests of a client that haven't left: none where it is not open
abbrev pub slots_of : Option Client → List Slot
slots_of None = []
slots_of (Some client) = client.requests

-- How the client of a number is served, be it open or closed. Its requests are those of all bytes
-- that it sent. It was sent the replies to the first of them, in order, up to one that has no answer
-- yet; each answer answers its request. While it is open, each other request has its answer too, or
-- waits for the open upstream request of its key.
pub record IsServedClient (events : List Event) (number : ℕ) (client : Option Client) : Type 0
  where
    pub answers : List Answer
    pub sent : (run_of events).sent number ≡ flat_map reply_text answers
    pub stands : (index : ℕ) (slot : Slot) →
        slice_get (all_slots answers (slots_of client)) index ≡ Some slot →
        Stands events (run_of events).gateway.upstream.waiting number
        (requests_of ((run_of events).fed number)) index slot
    pub stops : front_answer (slots_of client) ≡ None
    pub all : IsSome client → length (all_slots answers (slots_of client))
        ≡ length (requests_of ((run_of events).fed number))

-- ---- the upstream requests

-- An upstream request is opened only where the key is not stored and none of it is open; it is given
-- up only where nobody waits for it any more.
abbrev pub IsDue : Reference → Reference → Out → Type 0
IsDue g after (Fetch key) = (g.upstream.stored key ≡ None) × (g.upstream.waiting key ≡ [])
IsDue g after (Cancel key) = after.upstream.waiting key ≡ []
IsDue g after (To client bytes) = Unit {0}

-- what an event brings about is due, and opens no key's upstream request twice
pub record IsDueAll (g : Reference) (event : Event) : Type 0 where
  pub due : AllByRecursion (IsDue g (brought_by g event).1) (brought_by g event).0
  pub once : IsDistinct nat_eq (flat_map fetch_in (brought_by g event).0)

-- ---- a run

-- What a user may rely on in every run. A key is stored exactly where a value was brought for it, and
-- it has that value for good; each client is served; each event does with upstream requests only
-- what is due.
pub record IsServed (events : List Event) : Type 0 where
  pub stored : (key value : ℕ) →
      ((run_of events).gateway.upstream.stored key ≡ Some value) ↔ Brought events key (Ok value)
  pub clients : (number : ℕ) →
      IsServedClient events number ((run_of events).gateway.clients number)
  pub due : (before after : List Event) (event : Event) →
      events ≡ before ++ event ∷ after → IsDueAll (run_of before).gateway event
