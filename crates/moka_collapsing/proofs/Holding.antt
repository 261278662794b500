-- What holds at every moment of a run, of the upstream requests and of each client.
use Rattle.std.proofs.Common.{◌≡◌, ◌⊎◌, inl, inr, ℕ, ◌+◌, ◌≤◌, List, [], ◌∷◌, ◌++◌, map, flat_map, length, Option, Some, None, Result, Ok, Err, slice_get, sym, ap, ◌∙◌, subst, append_assoc, length-append}
use Rattle.std.proofs.lemmas.List.{append-nil}
use Rattle.std.specs.Option.{option_map, option_map_or}
use Rattle.moka_requests.specs.declared.request.Request.{Request}
use Rattle.moka_requests.specs.declared.request.Request.TheVariants.{Get, Bad}
use Rattle.moka_collapsing.specs.declared.answer.Answer.{Answer}
use Rattle.moka_collapsing.specs.declared.answer.Answer.TheVariants as answer
use Rattle.moka_collapsing.specs.declared.slot.Place.{Place}
use Rattle.moka_collapsing.specs.declared.slot.Slot.{Slot}
use Rattle.moka_collapsing.specs.declared.slot.Slot.TheVariants.{Waits, Answered}
use Rattle.moka_collapsing.specs.Clients.{Client, due_answers, due_bytes, flushed, front_answer, with_request}
use Rattle.moka_collapsing.specs.Runs.{Event, Reply}
use Rattle.moka_collapsing.specs.Served.{Brought, BroughtTo, IsAmong, IsAnswerTo, Stands, StandsFor, all_slots, place_at}
use Rattle.moka_collapsing.specs.Texts.{reply_text}
use Rattle.moka_collapsing.specs.Upstream.{Upstream, Waiter}
use Rattle.moka_collapsing.proofs.Cutting.{flat_append}
use Rattle.moka_collapsing.proofs.Ordering.{front_split, front_stops}
use Rattle.moka_collapsing.proofs.Slots.{get_front, get_last, get_more, map_append}

-- what is stored was brought; those that wait have numbers and clients that were given out, and no
-- two places have one number
pub record Upholds (events : List Event) (u : Upstream) (top : ℕ) : Type 0 where
  pub stored : (key value : ℕ) → u.stored key ≡ Some value → Brought events key (Ok value)
  pub numbered : (k : ℕ) (w : Waiter) → IsAmong w (u.waiting k) → w.0 ≤ u.last
  pub known : (k : ℕ) (w : Waiter) → IsAmong w (u.waiting k) → w.1.client ≤ top
  pub unique : (k : ℕ) (w v : Waiter) → IsAmong w (u.waiting k) → IsAmong v (u.waiting k) → w.0 ≡ v.0 → w.1 ≡ v.1

-- a client that is open: its requests stand so, and who waits in its name is one of them
pub record HoldsClient (events : List Event) (waiting : ℕ → List Waiter) (number : ℕ) (requests : List Request) (bytes : List ℕ) (client : Client) : Type 0 where
  pub answers : List Answer
  pub sent : bytes ≡ flat_map reply_text answers
  pub count : length answers ≡ client.sent
  pub all : length (all_slots answers client.requests) ≡ length requests
  pub stands : (i : ℕ) (s : Slot) → slice_get (all_slots answers client.requests) i ≡ Some s → Stands events waiting number requests i s
  pub listed : (k n i : ℕ) → IsAmong (n, place_at number i) (waiting k) → slice_get (all_slots answers client.requests) i ≡ Some (Waits k n)

-- one that is not
pub record HoldsGone (events : List Event) (number : ℕ) (requests : List Request) (bytes : List ℕ) : Type 0 where
  pub answers : List Answer
  pub sent : bytes ≡ flat_map reply_text answers
  pub answered : (i : ℕ) (a : Answer) → slice_get answers i ≡ Some a →
      (request : Request) × (slice_get requests i ≡ Some request) × IsAnswerTo events (place_at number i) request a

abbrev pub HoldsAt : List Event → (ℕ → List Waiter) → ℕ → List Request → List ℕ → Option Client → Type 0
HoldsAt events waiting number requests bytes None = HoldsGone events number requests bytes
HoldsAt events waiting number requests bytes (Some client) = HoldsClient events waiting number requests bytes client

-- the first request of a client that is open has no answer yet
abbrev pub Stops : Option Client → Type 0
Stops None = Unit {0}
Stops (Some client) = front_answer client.requests ≡ None

-- ---- later

pub brought_later : (events : List Event) (e : Event) (key : ℕ) (brought : Result ℕ ℕ) (w : Waiter) → BroughtTo events key brought w → BroughtTo (events ++ e ∷ []) key brought w
brought_later events e key brought w h = record {
  before = h.before;
  after = h.after ++ e ∷ [];
  run = ap (λ l. l ++ e ∷ []) h.run ∙ append_assoc h.before (Reply key brought ∷ h.after) (e ∷ []);
  waited = h.waited;
}

answer_later : (events : List Event) (e : Event) (place : Place) (r : Request) (a : Answer) → IsAnswerTo events place r a → IsAnswerTo (events ++ e ∷ []) place r a
answer_later events e place (Get key) (answer.Value value) h = (h.0, brought_later events e key (Ok value) h.0 h.1)
answer_later events e place (Get key) (answer.Error error) h = (h.0, brought_later events e key (Err error) (h.0, place) h.1)
answer_later events e place (Get key) answer.Bad h = h
answer_later events e place Bad (answer.Value value) h = h
answer_later events e place Bad (answer.Error error) h = h
answer_later events e place Bad answer.Bad h = h

stands_later : (events : List Event) (e : Event) (waiting : ℕ → List Waiter) (place : Place) (r : Request) (s : Slot) → StandsFor events waiting place r s → StandsFor (events ++ e ∷ []) waiting place r s
stands_later events e waiting place r (Answered a) h = answer_later events e place r a h
stands_later events e waiting place r (Waits key n) h = h

pub upholds_later : (events : List Event) (e : Event) (u : Upstream) (top : ℕ) → Upholds events u top → Upholds (events ++ e ∷ []) u top
upholds_later events e u top h = record {
  stored = λ key value is. let b = h.stored key value is in (b.0, brought_later events e key (Ok value) b.0 b.1);
  numbered = h.numbered;
  known = h.known;
  unique = h.unique;
}

pub holds_later : (events : List Event) (e : Event) (waiting : ℕ → List Waiter) (number : ℕ) (requests : List Request) (bytes : List ℕ) (client : Option Client) →
    HoldsAt events waiting number requests bytes client → HoldsAt (events ++ e ∷ []) waiting number requests bytes client
holds_later events e waiting number requests bytes None h = record {
  answers = h.answers;
  sent = h.sent;
  answered = λ i a is. let s = h.answered i a is in (s.0, s.1, answer_later events e (place_at number i) s.0 a s.2);
}
holds_later events e waiting number requests bytes (Some client) h = record {
  answers = h.answers;
  sent = h.sent;
  count = h.count;
  all = h.all;
  stands = λ i s is. let t = h.stands i s is in (t.0, t.1, stands_later events e waiting (place_at number i) t.0 s t.2);
  listed = h.listed;
}

-- ---- other lists

module _ (events : List Event) (waiting waiting1 : ℕ → List Waiter) (number : ℕ)
    (keep : (k n i : ℕ) → IsAmong (n, place_at number i) (waiting k) → IsAmong (n, place_at number i) (waiting1 k)) where
  pub slot_moved : (i : ℕ) (r : Request) (s : Slot) → StandsFor events waiting (place_at number i) r s → StandsFor events waiting1 (place_at number i) r s
  slot_moved i r (Answered a) h = h
  slot_moved i r (Waits key n) h = (h.0, keep key n i h.1)

  pub moved : (back : (k n i : ℕ) → IsAmong (n, place_at number i) (waiting1 k) → IsAmong (n, place_at number i) (waiting k))
      (requests : List Request) (bytes : List ℕ) (client : Option Client) → HoldsAt events waiting number requests bytes client → HoldsAt events waiting1 number requests bytes client
  moved back requests bytes None h = h
  moved back requests bytes (Some client) h = record {
    answers = h.answers;
    sent = h.sent;
    count = h.count;
    all = h.all;
    stands = λ i s is. let t = h.stands i s is in (t.0, t.1, slot_moved i t.0 s t.2);
    listed = λ k n i on. h.listed k n i (back k n i on);
  }

-- ---- one request more

module _ (events : List Event) (waiting waiting1 : ℕ → List Waiter) (number : ℕ) (requests : List Request) (bytes : List ℕ) (client : Client) (r : Request) (s : Slot)
    (keep : (k n i : ℕ) → IsAmong (n, place_at number i) (waiting k) → IsAmong (n, place_at number i) (waiting1 k))
    (new : (k n i : ℕ) → IsAmong (n, place_at number i) (waiting1 k) → IsAmong (n, place_at number i) (waiting k) ⊎ ((i ≡ length requests) × (s ≡ Waits k n)))
    (this : StandsFor events waiting1 (place_at number (length requests)) r s) (h : HoldsClient events waiting number requests bytes client) where
  abbrev before : List Slot
  before = all_slots h.answers client.requests

  longer : all_slots h.answers (client.requests ++ s ∷ []) ≡ before ++ s ∷ []
  longer = sym (append_assoc (map Answered h.answers) client.requests (s ∷ []))

  added_stands : (i : ℕ) (t : Slot) → slice_get (before ++ s ∷ []) i ≡ Some t → Stands events waiting1 number (requests ++ r ∷ []) i t
  added_stands i t is = get_more before s i t (Stands events waiting1 number (requests ++ r ∷ []) i t) is
      (λ old. let u = h.stands i t old in (u.0, get_front requests (r ∷ []) i u.0 u.1, slot_moved events waiting waiting1 number keep i u.0 t u.2))
      (λ last same. let here : length requests ≡ i = sym (last ∙ h.all) in
      subst (λ x. Stands events waiting1 number (requests ++ r ∷ []) i x) same
      (subst (λ j. Stands events waiting1 number (requests ++ r ∷ []) j s) here (r, get_last requests r, this)))

  added_listed : (k n i : ℕ) → IsAmong (n, place_at number i) (waiting1 k) → slice_get (before ++ s ∷ []) i ≡ Some (Waits k n)
  added_listed k n i on = by (new k n i on)
    where
      by : IsAmong (n, place_at number i) (waiting k) ⊎ ((i ≡ length requests) × (s ≡ Waits k n)) → slice_get (before ++ s ∷ []) i ≡ Some (Waits k n)
      by (inl old) = get_front before (s ∷ []) i (Waits k n) (h.listed k n i old)
      by (inr last) = ap (slice_get (before ++ s ∷ [])) (last.0 ∙ sym h.all) ∙ get_last before s ∙ ap Some last.1

  pub added : HoldsClient events waiting1 number (requests ++ r ∷ []) bytes (with_request client s)
  added = record {
    answers = h.answers;
    sent = h.sent;
    count = h.count;
    all = ap length longer ∙ length-append before (s ∷ []) ∙ ap (λ n. n + 1) h.all ∙ sym (length-append requests (r ∷ []));
    stands = λ i t is. added_stands i t (ap (λ l. slice_get l i) (sym longer) ∙ is);
    listed = λ k n i on. ap (λ l. slice_get l i) longer ∙ added_listed k n i on;
  }

-- ---- what is due is sent

module _ (events : List Event) (waiting : ℕ → List Waiter) (number : ℕ) (requests : List Request) (bytes : List ℕ) where
  flush_one : (client : Client) → HoldsClient events waiting number requests bytes client → HoldsClient events waiting number requests (bytes ++ due_bytes client) (flushed client)
  flush_one client h =
      let due = due_answers client.requests in
      let same : all_slots (h.answers ++ due) (flushed client).requests ≡ all_slots h.answers client.requests =
      ap (λ l. l ++ (flushed client).requests) (map_append h.answers due)
      ∙ append_assoc (map Answered h.answers) (map Answered due) (flushed client).requests
      ∙ ap (λ l. map Answered h.answers ++ l) (sym (front_split client.requests)) in
      record {
        answers = h.answers ++ due;
        sent = ap (λ l. l ++ due_bytes client) h.sent ∙ sym (flat_append h.answers due);
        count = length-append h.answers due ∙ ap (λ n. n + length due) h.count;
        all = ap length same ∙ h.all;
        stands = λ i s is. h.stands i s (ap (λ l. slice_get l i) (sym same) ∙ is);
        listed = λ k n i on. ap (λ l. slice_get l i) same ∙ h.listed k n i on;
      }

  pub flush_at : (client : Option Client) → HoldsAt events waiting number requests bytes client →
      HoldsAt events waiting number requests (bytes ++ option_map_or due_bytes client []) (option_map flushed client)
  flush_at None h = subst (λ b. HoldsGone events number requests b) (sym (append-nil bytes)) h
  flush_at (Some client) h = flush_one client h

pub flush_stops : (client : Option Client) → Stops (option_map flushed client)
flush_stops None = tt
flush_stops (Some client) = front_stops client.requests
