-- What holds stays so while the requests of a list are given their answer.
use Rattle.std.proofs.Common.{◌≡◌, ◌≢◌, ◌⊎◌, inl, inr, ℕ, ◌-◌, ◌≤◌, ◌==◌, cond, Bool, true, false, List, [], ◌∷◌, ◌++◌, map, flat_map, length, Option, Some, None, slice_get, slice_set, refl, sym, ap, ◌∙◌, subst, arith, append_assoc}
use Rattle.std.proofs.lemmas.List.{append-nil}
use borrow.Author.Tests.{eqb-true}
use Rattle.std.specs.Option.{option_map, option_map_or}
use Rattle.moka_hist.specs.Finite.{put_at}
use Rattle.moka_laws.proofs.Counting.{differ_not, put_cases, put_there, some_same}
use Rattle.moka_requests.specs.declared.request.Request.{Request}
use Rattle.moka_requests.specs.declared.request.Request.TheVariants.{Get}
use Rattle.moka_collapsing.specs.declared.answer.Answer.{Answer}
use Rattle.moka_collapsing.specs.declared.slot.Place.{Place}
use Rattle.moka_collapsing.specs.declared.slot.Slot.{Slot}
use Rattle.moka_collapsing.specs.declared.slot.Slot.TheVariants.{Waits, Answered}
use Rattle.moka_collapsing.specs.Clients.{Client, due_bytes, flushed, with_answer}
use Rattle.moka_collapsing.specs.Folds.{folded}
use Rattle.moka_collapsing.specs.Reference.{Sent, due_to, gives, sends, sent_to}
use Rattle.moka_collapsing.specs.Runs.{Event, bytes_in}
use Rattle.moka_collapsing.specs.Served.{IsAmong, IsAnswerTo, StandsFor, all_slots, place_at}
use Rattle.moka_collapsing.specs.Texts.{reply_text}
use Rattle.moka_collapsing.specs.Upstream.{Waiter}
use Rattle.moka_collapsing.proofs.Holding.{HoldsAt, HoldsClient, HoldsGone, Stops, flush_at, flush_stops}
use Rattle.moka_collapsing.proofs.Sending.{outs_append, to_bytes}
use Rattle.moka_collapsing.proofs.Slots.{among_back, among_map, get_set, length_set, set_after, set_there, waits_on}

-- the two sides of one slot
same_key : (k n m j : ℕ) → Waits k n ≡ Waits m j → k ≡ m
same_key k n m j e = cc

same_get : (k m : ℕ) → Get k ≡ Get m → k ≡ m
same_get k m e = cc

-- the request of this index waits for the key, and is one of those that have still to be given its answer
abbrev pub IsGiven : ℕ → List Place → ℕ → ℕ → Request → Slot → Type 0
IsGiven key left number i r s = (n : ℕ) × (s ≡ Waits key n) × (r ≡ Get key) × IsAmong (place_at number i) left

-- a client while the requests at these places have still to be given their answer; the lists are those then
pub record Giving (events : List Event) (waiting : ℕ → List Waiter) (key : ℕ) (given : Answer) (left : List Place) (number : ℕ) (requests : List Request) (bytes : List ℕ) (client : Client) : Type 0 where
  pub answers : List Answer
  pub sent : bytes ≡ flat_map reply_text answers
  pub count : length answers ≡ client.sent
  pub all : length (all_slots answers client.requests) ≡ length requests
  pub stands : (i : ℕ) (s : Slot) → slice_get (all_slots answers client.requests) i ≡ Some s →
      (r : Request) × (slice_get requests i ≡ Some r) × (StandsFor events waiting (place_at number i) r s ⊎ IsGiven key left number i r s)
  pub listed : (k n i : ℕ) → IsAmong (n, place_at number i) (waiting k) → slice_get (all_slots answers client.requests) i ≡ Some (Waits k n)
  pub due : (i : ℕ) → IsAmong (place_at number i) left →
      (client.sent ≤ i) × (slice_get requests i ≡ Some (Get key)) × IsAnswerTo events (place_at number i) (Get key) given

abbrev pub GivingAt : List Event → (ℕ → List Waiter) → ℕ → Answer → List Place → ℕ → List Request → List ℕ → Option Client → Type 0
GivingAt events waiting key given left number requests bytes None = HoldsGone events number requests bytes
GivingAt events waiting key given left number requests bytes (Some client) = Giving events waiting key given left number requests bytes client

module _ (events : List Event) (waiting : ℕ → List Waiter) (key : ℕ) (given : Answer) (ended : waiting key ≡ []) where
  nobody : (k : ℕ) (w : Waiter) → key ≡ k → IsAmong w (waiting k) → ⊥
  nobody k w same on = subst (λ l. IsAmong w l) (ap waiting (sym same) ∙ ended) on

  module _ (number : ℕ) (requests : List Request) (bytes : List ℕ) where
    -- the first of the places is of another client
    past : (p : Place) (rest : List Place) → (p.client ≡ number → ⊥) → (client : Client) → Giving events waiting key given (p ∷ rest) number requests bytes client →
        Giving events waiting key given rest number requests bytes client
    past p rest other client h = record {
      answers = h.answers;
      sent = h.sent;
      count = h.count;
      all = h.all;
      stands = λ i s is. let t = h.stands i s is in (t.0, t.1, by i t.0 s t.2);
      listed = h.listed;
      due = λ i on. h.due i (inr on);
    }
      where
        within : (i : ℕ) → IsAmong (place_at number i) (p ∷ rest) → IsAmong (place_at number i) rest
        within i (inl e) = absurd (other (ap (λ x. x.client) e))
        within i (inr on) = on

        by : (i : ℕ) (r : Request) (s : Slot) → StandsFor events waiting (place_at number i) r s ⊎ IsGiven key (p ∷ rest) number i r s → StandsFor events waiting (place_at number i) r s ⊎ IsGiven key rest number i r s
        by i r s (inl a) = inl a
        by i r s (inr a) = inr (a.0, a.1, a.2, within i a.3)

    -- it is of this one
    module _ (index : ℕ) (rest : List Place) (client : Client) (h : Giving events waiting key given (place_at number index ∷ rest) number requests bytes client) where
      abbrev slots : List Slot
      slots = all_slots h.answers client.requests

      within_here : (i : ℕ) → index ≢ i → IsAmong (place_at number i) (place_at number index ∷ rest) → IsAmong (place_at number i) rest
      within_here i other (inl e) = absurd (other (ap (λ x. x.index) e))
      within_here i other (inr on) = on

      changed : all_slots h.answers (slice_set client.requests (index - client.sent) (Answered given)) ≡ slice_set slots index (Answered given)
      changed = ap (λ n. all_slots h.answers (slice_set client.requests (index - n) (Answered given))) (sym h.count)
          ∙ set_after h.answers client.requests index (Answered given) (omega (arith, h.count, (h.due index (inl refl)).0))

      stands_here : (i : ℕ) (s : Slot) → slice_get (slice_set slots index (Answered given)) i ≡ Some s →
          (r : Request) × (slice_get requests i ≡ Some r) × (StandsFor events waiting (place_at number i) r s ⊎ IsGiven key rest number i r s)
      stands_here i s is = get_set slots index i (Answered given) s ((r : Request) × (slice_get requests i ≡ Some r) × (StandsFor events waiting (place_at number i) r s ⊎ IsGiven key rest number i r s)) is
          (λ same it. subst (λ x. (r : Request) × (slice_get requests i ≡ Some r) × (StandsFor events waiting (place_at number i) r x ⊎ IsGiven key rest number i r x)) it
          (subst (λ j. (r : Request) × (slice_get requests j ≡ Some r) × (StandsFor events waiting (place_at number j) r (Answered given) ⊎ IsGiven key rest number j r (Answered given))) same
          (let d = h.due index (inl refl) in (Get key, d.1, inl d.2))))
          (λ other old. let t = h.stands i s old in (t.0, t.1, by t.0 other t.2))
        where
          by : (r : Request) → index ≢ i → StandsFor events waiting (place_at number i) r s ⊎ IsGiven key (place_at number index ∷ rest) number i r s → StandsFor events waiting (place_at number i) r s ⊎ IsGiven key rest number i r s
          by r other (inl a) = inl a
          by r other (inr a) = inr (a.0, a.1, a.2, within_here i other a.3)

      -- nobody is on a list for the request that is answered
      not_here : (k n i : ℕ) → IsAmong (n, place_at number i) (waiting k) → index ≡ i → ⊥
      not_here k n i on same = let t = h.stands i (Waits k n) (h.listed k n i on) in by t.0 t.1 t.2
        where
          asked : slice_get requests i ≡ Some (Get key)
          asked = ap (slice_get requests) (sym same) ∙ (h.due index (inl refl)).1

          by : (r : Request) → slice_get requests i ≡ Some r → StandsFor events waiting (place_at number i) r (Waits k n) ⊎ IsGiven key (place_at number index ∷ rest) number i r (Waits k n) → ⊥
          by r e (inl a) = nobody k (n, place_at number i) (same_get key k (some_same (sym asked ∙ e) ∙ a.0)) on
          by r e (inr a) = nobody k (n, place_at number i) (sym (same_key k n key a.0 a.1)) on

      answered_here : Giving events waiting key given rest number requests bytes (with_answer client index given)
      answered_here = record {
        answers = h.answers;
        sent = h.sent;
        count = h.count;
        all = ap length changed ∙ length_set slots index (Answered given) ∙ h.all;
        stands = λ i s is. stands_here i s (ap (λ l. slice_get l i) (sym changed) ∙ is);
        listed = λ k n i on. ap (λ l. slice_get l i) changed ∙ set_there slots index i (Answered given) (Waits k n) (not_here k n i on) (h.listed k n i on);
        due = λ i on. h.due i (inr on);
      }

    -- one is given its answer
    past_at : (p : Place) (rest : List Place) → (p.client ≡ number → ⊥) → (client : Option Client) → GivingAt events waiting key given (p ∷ rest) number requests bytes client → GivingAt events waiting key given rest number requests bytes client
    past_at p rest other None h = h
    past_at p rest other (Some client) h = past p rest other client h

    here_at : (index : ℕ) (rest : List Place) (client : Option Client) → GivingAt events waiting key given (place_at number index ∷ rest) number requests bytes client →
        GivingAt events waiting key given rest number requests bytes (option_map (λ c. with_answer c index given) client)
    here_at index rest None h = h
    here_at index rest (Some client) h = answered_here index rest client h

    -- all have it
    pub given_all : (client : Option Client) → GivingAt events waiting key given [] number requests bytes client → HoldsAt events waiting number requests bytes client
    given_all None h = h
    given_all (Some client) h = record {
      answers = h.answers;
      sent = h.sent;
      count = h.count;
      all = h.all;
      stands = λ i s is. let t = h.stands i s is in (t.0, t.1, by i t.0 s t.2);
      listed = h.listed;
    }
      where
        by : (i : ℕ) (r : Request) (s : Slot) → StandsFor events waiting (place_at number i) r s ⊎ IsGiven key [] number i r s → StandsFor events waiting (place_at number i) r s
        by i r s (inl a) = a
        by i r s (inr a) = absurd a.3

  module _ (asked_by : ℕ → List Request) (bytes : ℕ → List ℕ) where
    -- each client
    abbrev AllGiving : List Place → (ℕ → Option Client) → Type 0
    AllGiving left clients = (number : ℕ) → GivingAt events waiting key given left number (asked_by number) (bytes number) (clients number)

    abbrev with_given : Place → (ℕ → Option Client) → Option Client
    with_given p clients = option_map (λ c. with_answer c p.index given) (clients p.client)

    give_one : (p : Place) (rest : List Place) (clients : ℕ → Option Client) → AllGiving (p ∷ rest) clients → AllGiving rest (gives given clients p)
    give_one p rest clients h number = by (p.client == number) refl
      where
        by : (b : Bool) → (p.client == number) ≡ b → GivingAt events waiting key given rest number (asked_by number) (bytes number) (cond b (with_given p clients) (clients number))
        by true same = subst (λ n. GivingAt events waiting key given rest n (asked_by n) (bytes n) (with_given p clients)) (eqb-true p.client number same)
            (here_at p.client (asked_by p.client) (bytes p.client) p.index rest (clients p.client) (h p.client))
        by false other = past_at number (asked_by number) (bytes number) p rest (differ_not p.client number other) (clients number) (h number)

    pub give_all : (places : List Place) (clients : ℕ → Option Client) → AllGiving places clients → AllGiving [] (folded (gives given) clients places)
    give_all [] clients h = h
    give_all (p ∷ places) clients h = give_all places (gives given clients p) (give_one p places clients h)

-- ---- the clients are sent what is due

module _ (events : List Event) (waiting : ℕ → List Waiter) (asked_by : ℕ → List Request) (bytes : ℕ → List ℕ) where
  abbrev AllHold : Sent → Type 0
  AllHold s = (number : ℕ) → HoldsAt events waiting number (asked_by number) (bytes number ++ flat_map (bytes_in number) s.outs) (s.clients number)

  abbrev due_in : Sent → ℕ → List ℕ
  due_in s to = option_map_or due_bytes (s.clients to) []

  abbrev so_far : Sent → ℕ → List ℕ
  so_far s number = bytes number ++ flat_map (bytes_in number) s.outs

  send_one : (s : Sent) (to : ℕ) → AllHold s → AllHold (sends s to)
  send_one s to h number = subst (λ b. HoldsAt events waiting number (asked_by number) b (sent_to s.clients to number)) (sym more) (by (to == number) refl)
    where
      more : bytes number ++ flat_map (bytes_in number) (s.outs ++ due_to s.clients to) ≡ (so_far s number) ++ cond (to == number) (due_in s to) []
      more = ap (λ l. bytes number ++ l) (outs_append (bytes_in number) s.outs (due_to s.clients to) ∙ ap (λ l. flat_map (bytes_in number) s.outs ++ l) (to_bytes number to (due_in s to)))
          ∙ sym (append_assoc (bytes number) (flat_map (bytes_in number) s.outs) (cond (to == number) (due_in s to) []))

      by : (b : Bool) → (to == number) ≡ b → HoldsAt events waiting number (asked_by number) ((so_far s number) ++ cond b (due_in s to) []) (cond b (option_map flushed (s.clients to)) (s.clients number))
      by true same = subst (λ n. HoldsAt events waiting n (asked_by n) ((bytes n ++ flat_map (bytes_in n) s.outs) ++ (due_in s to)) (option_map flushed (s.clients to))) (eqb-true to number same)
          (flush_at events waiting to (asked_by to) (bytes to ++ flat_map (bytes_in to) s.outs) (s.clients to) (h to))
      by false other = subst (λ b. HoldsAt events waiting number (asked_by number) b (s.clients number)) (sym (append-nil (so_far s number))) (h number)

  pub send_all : (numbers : List ℕ) (s : Sent) → AllHold s → AllHold (folded sends s numbers)
  send_all [] s h = h
  send_all (n ∷ numbers) s h = send_all numbers (sends s n) (send_one s n h)

-- ---- whose first request has an answer is sent it

pub given_or_same : (given : Answer) (places : List Place) (clients : ℕ → Option Client) (number : ℕ) →
    (folded (gives given) clients places number ≡ clients number) ⊎ IsAmong number (map (λ place. place.client) places)
given_or_same given [] clients number = inl refl
given_or_same given (p ∷ places) clients number = by (p.client == number) refl (given_or_same given places (gives given clients p) number)
  where
    by : (b : Bool) → (p.client == number) ≡ b → (folded (gives given) (gives given clients p) places number ≡ gives given clients p number) ⊎ IsAmong number (map (λ place. place.client) places) →
        (folded (gives given) clients (p ∷ places) number ≡ clients number) ⊎ IsAmong number (map (λ place. place.client) (p ∷ places))
    by true same rest = inr (inl (eqb-true p.client number same))
    by false other (inl e) = inl (e ∙ put_there clients p.client (option_map (λ c. with_answer c p.index given) (clients p.client)) number other)
    by false other (inr on) = inr (inr on)

abbrev pub StopsOr : List ℕ → (ℕ → Option Client) → Type 0
StopsOr numbers clients = (number : ℕ) → Stops (clients number) ⊎ IsAmong number numbers

stop_one : (s : Sent) (to : ℕ) (rest : List ℕ) → StopsOr (to ∷ rest) s.clients → StopsOr rest (sends s to).clients
stop_one s to rest h number = by (to == number) refl (h number)
  where
    by : (b : Bool) → (to == number) ≡ b → Stops (s.clients number) ⊎ IsAmong number (to ∷ rest) → Stops (cond b (option_map flushed (s.clients to)) (s.clients number)) ⊎ IsAmong number rest
    by true same either = inl (flush_stops (s.clients to))
    by false other (inl stops) = inl stops
    by false other (inr (inl same)) = absurd (differ_not to number other same)
    by false other (inr (inr on)) = inr on

pub stop_all : (numbers : List ℕ) (s : Sent) → StopsOr numbers s.clients → StopsOr [] (folded sends s numbers).clients
stop_all [] s h = h
stop_all (n ∷ numbers) s h = stop_all numbers (sends s n) (stop_one s n numbers h)

-- ---- before the first is given its answer

module _ (events : List Event) (waiting waiting1 : ℕ → List Waiter) (key : ℕ) (given : Answer) (same : (k : ℕ) → waiting1 k ≡ put_at waiting key [] k)
    (answers : (w : Waiter) → IsAmong w (waiting key) → IsAnswerTo events w.1 (Get key) given) where
  pub on_before : (k : ℕ) (w : Waiter) → IsAmong w (waiting1 k) → IsAmong w (waiting k)
  on_before k w on = put_cases waiting key [] k (waiting1 k) (IsAmong w (waiting k)) (sym (same k))
      (λ here is. absurd (subst (λ l. IsAmong w l) (sym is) on))
      (λ other is. subst (λ l. IsAmong w l) (sym is) on)

  module _ (number : ℕ) (requests : List Request) (bytes : List ℕ) where
    abbrev places : List Place
    places = map (λ w. w.1) (waiting key)

    still : (i : ℕ) (r : Request) (s : Slot) → StandsFor events waiting (place_at number i) r s → StandsFor events waiting1 (place_at number i) r s ⊎ IsGiven key places number i r s
    still i r (Answered a) h = inl h
    still i r (Waits k n) h = put_cases waiting key [] k (waiting1 k) (StandsFor events waiting1 (place_at number i) r (Waits k n) ⊎ IsGiven key places number i r (Waits k n)) (sym (same k))
        (λ here is. inr (n, ap (λ j. Waits j n) (sym here), h.0 ∙ ap Get (sym here), among_map (λ w. w.1) (waiting key) (n, place_at number i) (subst (λ j. IsAmong (n, place_at number i) (waiting j)) (sym here) h.1)))
        (λ other is. inl (h.0, subst (λ l. IsAmong (n, place_at number i) l) is h.1))

    due_here : (client : Client) → HoldsClient events waiting number requests bytes client → (i : ℕ) → IsAmong (place_at number i) places →
        (client.sent ≤ i) × (slice_get requests i ≡ Some (Get key)) × IsAnswerTo events (place_at number i) (Get key) given
    due_here client h i on = among_back (λ w. w.1) (waiting key) (place_at number i) _ on (λ w on1 is. of w.0 w.1 is on1)
      where
        of : (n : ℕ) (p : Place) → p ≡ place_at number i → IsAmong (n, p) (waiting key) → (client.sent ≤ i) × (slice_get requests i ≡ Some (Get key)) × IsAnswerTo events (place_at number i) (Get key) given
        of n p is on1 =
            let here : IsAmong (n, place_at number i) (waiting key) = subst (λ q. IsAmong (n, q) (waiting key)) is on1 in
            let slot = h.listed key n i here in
            let t = h.stands i (Waits key n) slot in
            (omega (arith, h.count, waits_on h.answers client.requests i key n slot), t.1 ∙ ap Some t.2.0, answers (n, place_at number i) here)

    pub giving : (client : Option Client) → HoldsAt events waiting number requests bytes client → GivingAt events waiting1 key given places number requests bytes client
    giving None h = h
    giving (Some client) h = record {
      answers = h.answers;
      sent = h.sent;
      count = h.count;
      all = h.all;
      stands = λ i s is. let t = h.stands i s is in (t.0, t.1, still i t.0 s t.2);
      listed = λ k n i on. h.listed k n i (on_before k (n, place_at number i) on);
      due = due_here client h;
    }
