-- What holds stays so, whatever happens.
use Rattle.std.proofs.Common.{◌≡◌, ◌⊎◌, inl, inr, ℕ, ◌+◌, ◌<◌, ◌≤◌, ◌==◌, cond, Bool, true, false, List, [], ◌∷◌, ◌++◌, map, flat_map, filter, length, Option, Some, None, Result, Ok, Err, slice_get, nat_le, refl, sym, ap, ◌∙◌, subst, arith}
use Rattle.std.proofs.lemmas.List.{append-nil}
use borrow.Author.Tests.{eqb-true, leb-true, leb-false}
use Rattle.std.specs.Option.{option_map}
use Rattle.moka_hist.specs.Finite.{put_at}
use Rattle.moka_laws.proofs.Counting.{differ_not, none_some, put_here, put_there}
use Rattle.moka_requests.specs.Laws.{OnlyAdds}
use Rattle.moka_requests.specs.Requests.{new_requests, nothing_yet, requests_of, unfinished_after}
use Rattle.moka_requests.specs.declared.request.Request.{Request}
use Rattle.moka_requests.specs.declared.request.Request.TheVariants.{Get}
use Rattle.moka_requests.proofs.Pieces.{in_pieces}
use Rattle.moka_collapsing.specs.declared.answer.Answer.{Answer}
use Rattle.moka_collapsing.specs.declared.out.Out.{Out}
use Rattle.moka_collapsing.specs.declared.out.Out.TheVariants.{Cancel}
use Rattle.moka_collapsing.specs.declared.slot.Place.{Place}
use Rattle.moka_collapsing.specs.Clients.{Client, due_bytes, flushed, new_client, with_answer}
use Rattle.moka_collapsing.specs.Folds.{folded}
use Rattle.moka_collapsing.specs.Reference.{Come, Reference, Sent, all_come, ascending, closed, closes_at, fed, feeds_at, gives, key_of, most_clients, opens, replied, replies_at, sends, with_client}
use Rattle.moka_collapsing.specs.Runs.{Event, Open, Feed, Reply, Close, Run, bytes_in, happens, outs_of, taken}
use Rattle.moka_collapsing.specs.Served.{Brought, BroughtTo, IsAmong, IsAnswerTo, place_at}
use Rattle.moka_collapsing.specs.Texts.{reply_text}
use Rattle.moka_collapsing.specs.Upstream.{Upstream, Waiter, answer_of, ended, is_left, left}
use Rattle.moka_collapsing.proofs.Closing.{gone, others_closed, up_closed}
use Rattle.moka_collapsing.proofs.Cutting.{keeps_unfinished}
use Rattle.moka_collapsing.proofs.Feeding.{Feeding, fed_all}
use Rattle.moka_collapsing.proofs.Giving.{GivingAt, give_all, given_all, given_or_same, giving, on_before, send_all, stop_all}
use Rattle.moka_collapsing.proofs.Holding.{HoldsAt, HoldsClient, HoldsGone, Stops, Upholds, flush_at, flush_stops, holds_later, upholds_later}
use Rattle.moka_collapsing.proofs.Lawful.{kept_brought}
use Rattle.moka_collapsing.proofs.Sending.{bytes_at, none_cancelled_to}
use Rattle.moka_collapsing.proofs.Slots.{inserted_all}

-- a client's unfinished bytes are those of all that it has sent
abbrev pub HasRead : Option Client → List ℕ → Type 0
HasRead None bytes = Unit {0}
HasRead (Some client) bytes = client.unfinished ≡ unfinished_after nothing_yet bytes

-- what holds once these events have happened
pub record Holds (events : List Event) (g : Reference) (fed sent : ℕ → List ℕ) : Type 0 where
  pub up : Upholds events g.upstream g.last_client
  pub clients : (n : ℕ) → HoldsAt events g.upstream.waiting n (requests_of (fed n)) (sent n) (g.clients n)
  pub read : (n : ℕ) → HasRead (g.clients n) (fed n)
  pub stops : (n : ℕ) → Stops (g.clients n)
  pub unopened : (n : ℕ) → g.last_client < n → (g.clients n ≡ None) × (fed n ≡ [])

pub holds_later_all : (events : List Event) (e : Event) (g : Reference) (fed sent : ℕ → List ℕ) → Holds events g fed sent → Holds (events ++ e ∷ []) g fed sent
holds_later_all events e g fed sent h = record {
  up = upholds_later events e g.upstream g.last_client h.up;
  clients = λ n. holds_later events e g.upstream.waiting n (requests_of (fed n)) (sent n) (g.clients n) (h.clients n);
  read = h.read;
  stops = h.stops;
  unopened = h.unopened;
}

-- nobody sent anything, and nobody is sent anything
same_bytes : (events : List Event) (g : Reference) (fed fed1 sent sent1 : ℕ → List ℕ) → ((n : ℕ) → fed1 n ≡ fed n) → ((n : ℕ) → sent1 n ≡ sent n) → Holds events g fed sent → Holds events g fed1 sent1
same_bytes events g fed fed1 sent sent1 feds sents h = record {
  up = h.up;
  clients = λ n. subst (λ b. HoldsAt events g.upstream.waiting n (requests_of b) (sent1 n) (g.clients n)) (sym (feds n))
      (subst (λ b. HoldsAt events g.upstream.waiting n (requests_of (fed n)) b (g.clients n)) (sym (sents n)) (h.clients n));
  read = λ n. subst (λ b. HasRead (g.clients n) b) (sym (feds n)) (h.read n);
  stops = h.stops;
  unopened = λ n more. let o = h.unopened n more in (o.0, feds n ∙ o.1);
}

-- ---- a client opens

sent_nothing : (events : List Event) (n : ℕ) (requests : List Request) (bytes : List ℕ) → requests ≡ [] → HoldsGone events n requests bytes → bytes ≡ []
sent_nothing events n requests bytes none h = by h.answers h.sent (λ i a e. (h.answered i a e).0) (λ i a e. (h.answered i a e).1)
  where
    by : (answers : List Answer) → bytes ≡ flat_map reply_text answers → (which : (i : ℕ) (a : Answer) → slice_get answers i ≡ Some a → Request) →
        ((i : ℕ) (a : Answer) (e : slice_get answers i ≡ Some a) → slice_get requests i ≡ Some (which i a e)) → bytes ≡ []
    by [] e which is = e
    by (a ∷ answers) e which is = absurd (none_some (sym (ap (λ l. slice_get l 0) none) ∙ is 0 a refl))

module _ (events : List Event) (g : Reference) (fed sent : ℕ → List ℕ) (h : Holds events g fed sent) where
  abbrev next : ℕ
  next = g.last_client + 1

  fresh_one : HoldsClient events g.upstream.waiting next (requests_of (fed next)) (sent next) new_client
  fresh_one =
      let o = h.unopened next (omega arith) in
      let none : requests_of (fed next) ≡ [] = ap requests_of o.1 in
      record {
        answers = [];
        sent = sent_nothing events next (requests_of (fed next)) (sent next) none (subst (λ x. HoldsAt events g.upstream.waiting next (requests_of (fed next)) (sent next) x) o.0 (h.clients next));
        count = refl;
        all = sym (ap length none);
        stands = λ i s is. absurd (none_some is);
        listed = λ k n i on. absurd (omega (arith, h.up.known k (n, place_at next i) on));
      }

  opened : Holds events (with_client g) fed sent
  opened = record {
    up = record {
      stored = h.up.stored;
      numbered = h.up.numbered;
      known = λ k w on. omega (arith, h.up.known k w on);
      unique = h.up.unique;
    };
    clients = λ n. client_at n (next == n) refl;
    read = λ n. read_at n (next == n) refl;
    stops = λ n. stops_at n (next == n);
    unopened = λ n more. let o = h.unopened n (omega (arith, more)) in
        (put_there g.clients next (Some new_client) n (by n more (next == n) refl) ∙ o.0, o.1);
  }
    where
      client_at : (n : ℕ) (b : Bool) → (next == n) ≡ b → HoldsAt events g.upstream.waiting n (requests_of (fed n)) (sent n) (cond b (Some new_client) (g.clients n))
      client_at n true same = subst (λ m. HoldsClient events g.upstream.waiting m (requests_of (fed m)) (sent m) new_client) (eqb-true next n same) fresh_one
      client_at n false other = h.clients n

      read_at : (n : ℕ) (b : Bool) → (next == n) ≡ b → HasRead (cond b (Some new_client) (g.clients n)) (fed n)
      read_at n true same = subst (λ m. nothing_yet ≡ unfinished_after nothing_yet (fed m)) (eqb-true next n same) (ap (unfinished_after nothing_yet) (sym (h.unopened next (omega arith)).1))
      read_at n false other = h.read n

      stops_at : (n : ℕ) (b : Bool) → Stops (cond b (Some new_client) (g.clients n))
      stops_at n true = refl
      stops_at n false = h.stops n

      by : (n : ℕ) → next < n → (b : Bool) → (next == n) ≡ b → b ≡ false
      by n more true same = absurd (omega (arith, more, eqb-true next n same))
      by n more false other = refl

  open_holds : (b : Bool) → Holds events (cond {A = Option ℕ × Reference} b (None, g) (Some next, with_client g)).1 fed sent
  open_holds true = h
  open_holds false = opened

-- ---- a client is fed

module _ (adds : OnlyAdds) (events : List Event) (g : Reference) (fed_so_far sent : ℕ → List ℕ) (number : ℕ) (bytes : List ℕ) (h : Holds events g fed_so_far sent) where
  module _ (client : Client) (is : g.clients number ≡ Some client) where
    abbrev come : Come
    come = all_come g number client bytes

    abbrev rest : Client
    rest = record client { unfinished = unfinished_after client.unfinished bytes }

    abbrev fed_now : List ℕ
    fed_now = fed_so_far number ++ bytes

    has_read : client.unfinished ≡ unfinished_after nothing_yet (fed_so_far number)
    has_read = subst (λ x. HasRead x (fed_so_far number)) is (h.read number)

    it_holds : HoldsClient events g.upstream.waiting number (requests_of (fed_so_far number)) (sent number) client
    it_holds = subst (λ x. HoldsAt events g.upstream.waiting number (requests_of (fed_so_far number)) (sent number) x) is (h.clients number)

    known : number ≤ g.last_client
    known = by (nat_le number g.last_client) refl
      where
        by : (b : Bool) → nat_le number g.last_client ≡ b → number ≤ g.last_client
        by true e = leb-true number g.last_client e
        by false e = absurd (none_some (sym (h.unopened number (leb-false number g.last_client e)).0 ∙ is))

    start : Feeding events g.last_client number (λ n. requests_of (fed_so_far n)) sent g.clients (requests_of (fed_so_far number)) g.upstream rest
    start = record {
      up = h.up;
      fed = record {
        answers = it_holds.answers;
        sent = it_holds.sent;
        count = it_holds.count;
        all = it_holds.all;
        stands = it_holds.stands;
        listed = it_holds.listed;
      };
      others = λ n other. h.clients n;
    }

    requests_now : requests_of fed_now ≡ requests_of (fed_so_far number) ++ new_requests client.unfinished bytes
    requests_now = adds (fed_so_far number) bytes ∙ ap (λ u. requests_of (fed_so_far number) ++ new_requests u bytes) (sym has_read)

    end : Feeding events g.last_client number (λ n. requests_of (fed_so_far n)) sent g.clients (requests_of fed_now) come.upstream come.client
    end = subst (λ l. Feeding events g.last_client number (λ n. requests_of (fed_so_far n)) sent g.clients l come.upstream come.client) (sym requests_now)
        (fed_all events g.last_client number known (λ n. requests_of (fed_so_far n)) sent g.clients (new_requests client.unfinished bytes) (requests_of (fed_so_far number)) (record { upstream = g.upstream; client = rest; fetches = [] }) start)

    fed_client : (n : ℕ) (b : Bool) → (number == n) ≡ b →
        HoldsAt events come.upstream.waiting n (requests_of (cond b fed_now (fed_so_far n))) (sent n ++ cond b (due_bytes come.client) []) (cond b (Some (flushed come.client)) (g.clients n))
    fed_client n true same =
        subst (λ m. HoldsClient events come.upstream.waiting m (requests_of fed_now) (sent m ++ due_bytes come.client) (flushed come.client)) (eqb-true number n same)
        (flush_at events come.upstream.waiting number (requests_of fed_now) (sent number) (Some come.client) end.fed)
    fed_client n false other =
        subst (λ b. HoldsAt events come.upstream.waiting n (requests_of (fed_so_far n)) b (g.clients n)) (sym (append-nil (sent n))) (end.others n (differ_not number n other))

    fed_read : (n : ℕ) (b : Bool) → HasRead (cond b (Some (flushed come.client)) (g.clients n)) (cond b fed_now (fed_so_far n))
    fed_read n true =
        keeps_unfinished number (new_requests client.unfinished bytes) (record { upstream = g.upstream; client = rest; fetches = [] })
        ∙ ap (λ u. unfinished_after u bytes) has_read
        ∙ sym (in_pieces nothing_yet (fed_so_far number) bytes).unfinished
    fed_read n false = h.read n

    fed_stops : (n : ℕ) (b : Bool) → Stops (cond b (Some (flushed come.client)) (g.clients n))
    fed_stops n true = flush_stops (Some come.client)
    fed_stops n false = h.stops n

    fed_unopened : (n : ℕ) → g.last_client < n → (b : Bool) → (number == n) ≡ b → (cond b (Some (flushed come.client)) (g.clients n) ≡ None) × (cond b fed_now (fed_so_far n) ≡ [])
    fed_unopened n more true same = absurd (omega (arith, more, known, eqb-true number n same))
    fed_unopened n more false other = h.unopened n more

    fed_holds : Holds events (fed g number come).1 (put_at fed_so_far number fed_now) (λ n. sent n ++ flat_map (bytes_in n) (outs_of (fed g number come).0))
    fed_holds = record {
      up = end.up;
      clients = λ n. subst (λ b. HoldsAt events come.upstream.waiting n (requests_of (put_at fed_so_far number fed_now n)) (sent n ++ b) (put_at g.clients number (Some (flushed come.client)) n))
          (sym (bytes_at n number come)) (fed_client n (number == n) refl);
      read = λ n. fed_read n (number == n);
      stops = λ n. fed_stops n (number == n);
      unopened = λ n more. fed_unopened n more (number == n) refl;
    }

  pub feed_holds : (x : Option Client) → g.clients number ≡ x →
      Holds events (feeds_at g number x bytes).1 (put_at fed_so_far number (fed_so_far number ++ taken x bytes)) (λ n. sent n ++ flat_map (bytes_in n) (outs_of (feeds_at g number x bytes).0))
  feed_holds None is = same_bytes events g fed_so_far (put_at fed_so_far number (fed_so_far number ++ [])) sent (λ n. sent n ++ []) (λ n. by n (number == n) refl) (λ n. append-nil (sent n)) h
    where
      by : (n : ℕ) (b : Bool) → (number == n) ≡ b → cond b (fed_so_far number ++ []) (fed_so_far n) ≡ fed_so_far n
      by n true same = append-nil (fed_so_far number) ∙ ap fed_so_far (eqb-true number n same)
      by n false other = refl
  feed_holds (Some client) is = fed_holds client is

-- ---- an upstream request brings something

gives_keep : (P : ℕ → Option Client → Type 0) (given : Answer) → ((n i : ℕ) (x : Option Client) → P n x → P n (option_map (λ c. with_answer c i given) x)) →
    (places : List Place) (clients : ℕ → Option Client) → ((n : ℕ) → P n (clients n)) → (n : ℕ) → P n (folded (gives given) clients places n)
gives_keep P given stable [] clients h = h
gives_keep P given stable (p ∷ places) clients h = gives_keep P given stable places (gives given clients p) (λ n. by n (p.client == n) refl)
  where
    by : (n : ℕ) (b : Bool) → (p.client == n) ≡ b → P n (cond b (option_map (λ c. with_answer c p.index given) (clients p.client)) (clients n))
    by n true same = subst (λ m. P m (option_map (λ c. with_answer c p.index given) (clients p.client))) (eqb-true p.client n same) (stable p.client p.index (clients p.client) (h p.client))
    by n false other = h n

sends_keep : (P : ℕ → Option Client → Type 0) → ((n : ℕ) (x : Option Client) → P n x → P n (option_map flushed x)) →
    (numbers : List ℕ) (s : Sent) → ((n : ℕ) → P n (s.clients n)) → (n : ℕ) → P n ((folded sends s numbers).clients n)
sends_keep P stable [] s h = h
sends_keep P stable (to ∷ numbers) s h = sends_keep P stable numbers (sends s to) (λ n. by n (to == n) refl)
  where
    by : (n : ℕ) (b : Bool) → (to == n) ≡ b → P n (cond b (option_map flushed (s.clients to)) (s.clients n))
    by n true same = subst (λ m. P m (option_map flushed (s.clients to))) (eqb-true to n same) (stable to (s.clients to) (h to))
    by n false other = h n

none_mapped : {A B : Type 0} (f : A → B) (x : Option A) → x ≡ None → option_map f x ≡ None
none_mapped f None e = refl
none_mapped f (Some a) e = absurd (none_some (sym e))

module _ (events : List Event) (g : Reference) (fed_so_far sent : ℕ → List ℕ) (key : ℕ) (brought : Result ℕ ℕ) (h : Holds events g fed_so_far sent)
    (was : (w : Waiter) → IsAmong w (g.upstream.waiting key) → BroughtTo events key brought w) where
  abbrev given : Answer
  given = answer_of brought

  answers_it : (w : Waiter) → IsAmong w (g.upstream.waiting key) → IsAnswerTo events w.1 (Get key) (answer_of brought)
  answers_it w on = by brought (was w on)
    where
      by : (b : Result ℕ ℕ) → BroughtTo events key b w → IsAnswerTo events w.1 (Get key) (answer_of b)
      by (Ok value) it = (w, it)
      by (Err error) it = (w.0, it)

  -- whether a client is as far as it was
  abbrev Stays : ℕ → Option Client → Type 0
  Stays n x = HasRead x (fed_so_far n) × (g.last_client < n → x ≡ None)

  stays_given : (n i : ℕ) (x : Option Client) → Stays n x → Stays n (option_map (λ c. with_answer c i given) x)
  stays_given n i None s = s
  stays_given n i (Some c) s = (s.0, λ more. absurd (none_some (sym (s.1 more))))

  stays_flushed : (n : ℕ) (x : Option Client) → Stays n x → Stays n (option_map flushed x)
  stays_flushed n None s = s
  stays_flushed n (Some c) s = (s.0, λ more. absurd (none_some (sym (s.1 more))))

  module _ (w : Waiter) (ws : List Waiter) (is : g.upstream.waiting key ≡ w ∷ ws) where
    abbrev waiting1 : ℕ → List Waiter
    waiting1 = put_at g.upstream.waiting key []

    abbrev places : List Place
    places = map (λ it. it.1) (w ∷ ws)

    abbrev numbers : List ℕ
    numbers = ascending (map (λ place. place.client) places)

    abbrev all_given : Sent
    all_given = record { clients = folded (gives given) g.clients places; outs = [] }

    abbrev all_sent : Sent
    all_sent = folded sends all_given numbers

    abbrev asked_by : ℕ → List Request
    asked_by n = requests_of (fed_so_far n)

    first_on : IsAmong w (g.upstream.waiting key)
    first_on = subst (λ l. IsAmong w l) (sym is) (inl refl)

    up_ended : Upholds events (ended g.upstream key given) g.last_client
    up_ended = record {
      stored = λ k value e. by k value (kept_brought g.upstream.stored key brought k value e);
      numbered = λ k v on. h.up.numbered k v (before k v on);
      known = λ k v on. h.up.known k v (before k v on);
      unique = λ k v x onv onx. h.up.unique k v x (before k v onv) (before k x onx);
    }
      where
        before : (k : ℕ) (v : Waiter) → IsAmong v (waiting1 k) → IsAmong v (g.upstream.waiting k)
        before k v on = on_before events g.upstream.waiting waiting1 key given (λ j. refl) answers_it k v on

        by : (k value : ℕ) → (g.upstream.stored k ≡ Some value) ⊎ ((k ≡ key) × (brought ≡ Ok value)) → Brought events k (Ok value)
        by k value (inl old) = h.up.stored k value old
        by k value (inr new) = (w, subst (λ j. BroughtTo events j (Ok value) w) (sym new.0) (subst (λ b. BroughtTo events key b w) new.1 (was w first_on)))

    begun : (n : ℕ) → GivingAt events waiting1 key given places n (asked_by n) (sent n) (g.clients n)
    begun n = subst (λ l. GivingAt events waiting1 key given (map (λ it. it.1) l) n (asked_by n) (sent n) (g.clients n)) is
        (giving events g.upstream.waiting waiting1 key given (λ j. refl) answers_it n (asked_by n) (sent n) (g.clients n) (h.clients n))

    nobody_waits : waiting1 key ≡ []
    nobody_waits = put_here g.upstream.waiting key []

    holds_given : (n : ℕ) → HoldsAt events waiting1 n (asked_by n) (sent n ++ []) (all_given.clients n)
    holds_given n = subst (λ b. HoldsAt events waiting1 n (asked_by n) b (all_given.clients n)) (sym (append-nil (sent n)))
        (given_all events waiting1 key given nobody_waits n (asked_by n) (sent n) (all_given.clients n)
        (give_all events waiting1 key given nobody_waits asked_by sent places g.clients begun n))

    stays_all : (n : ℕ) → Stays n (all_sent.clients n)
    stays_all = sends_keep Stays stays_flushed numbers all_given
        (gives_keep Stays given stays_given places g.clients (λ n. (h.read n, λ more. (h.unopened n more).0)))

    stops_given : (n : ℕ) → Stops (all_given.clients n) ⊎ IsAmong n numbers
    stops_given n = by (given_or_same given places g.clients n)
      where
        by : (all_given.clients n ≡ g.clients n) ⊎ IsAmong n (map (λ place. place.client) places) → Stops (all_given.clients n) ⊎ IsAmong n numbers
        by (inl same) = inl (subst Stops (sym same) (h.stops n))
        by (inr on) = inr (inserted_all (map (λ place. place.client) places) [] n on)

    stops_sent : (n : ℕ) → Stops (all_sent.clients n)
    stops_sent n = by (stop_all numbers all_given stops_given n)
      where
        by : Stops (all_sent.clients n) ⊎ IsAmong n [] → Stops (all_sent.clients n)
        by (inl stops) = stops
        by (inr on) = absurd on

    replied_holds : Holds events (replied g key given places).1 fed_so_far (λ n. sent n ++ flat_map (bytes_in n) all_sent.outs)
    replied_holds = record {
      up = up_ended;
      clients = send_all events waiting1 asked_by sent numbers all_given holds_given;
      read = λ n. (stays_all n).0;
      stops = stops_sent;
      unopened = λ n more. ((stays_all n).1 more, (h.unopened n more).1);
    }

  pub reply_holds : (ws : List Waiter) → g.upstream.waiting key ≡ ws →
      Holds events (replies_at g key given ws).1 fed_so_far (λ n. sent n ++ flat_map (bytes_in n) (outs_of (replies_at g key given ws).0))
  reply_holds [] is = same_bytes events g fed_so_far fed_so_far sent (λ n. sent n ++ []) (λ n. refl) (λ n. append-nil (sent n)) h
  reply_holds (w ∷ ws) is = replied_holds w ws is

-- ---- a client closes

module _ (events : List Event) (g : Reference) (fed_so_far sent : ℕ → List ℕ) (number : ℕ) (h : Holds events g fed_so_far sent) where
  module _ (client : Client) (is : g.clients number ≡ Some client) where
    abbrev after : Upstream
    after = folded left g.upstream client.requests

    abbrev outs : List Out
    outs = map Cancel (ascending (filter (is_left after) (flat_map key_of client.requests)))

    closing : HoldsClient events g.upstream.waiting number (requests_of (fed_so_far number)) (sent number) client
    closing = subst (λ x. HoldsAt events g.upstream.waiting number (requests_of (fed_so_far number)) (sent number) x) is (h.clients number)

    closed_client : (n : ℕ) (b : Bool) → (number == n) ≡ b → HoldsAt events after.waiting n (requests_of (fed_so_far n)) (sent n) (cond b None (g.clients n))
    closed_client n true same = subst (λ m. HoldsGone events m (requests_of (fed_so_far m)) (sent m)) (eqb-true number n same)
        (gone events g.upstream g.last_client number (requests_of (fed_so_far number)) (sent number) client h.up closing)
    closed_client n false other =
        others_closed events g.upstream g.last_client number (requests_of (fed_so_far number)) (sent number) client h.up closing n (differ_not number n other) (requests_of (fed_so_far n)) (sent n) (g.clients n) (h.clients n)

    closed_read : (n : ℕ) (b : Bool) → HasRead (cond b None (g.clients n)) (fed_so_far n)
    closed_read n true = tt
    closed_read n false = h.read n

    closed_stops : (n : ℕ) (b : Bool) → Stops (cond b None (g.clients n))
    closed_stops n true = tt
    closed_stops n false = h.stops n

    closed_unopened : (n : ℕ) → g.last_client < n → (b : Bool) → cond b None (g.clients n) ≡ None
    closed_unopened n more true = refl
    closed_unopened n more false = (h.unopened n more).0

    nobody_sent : (n : ℕ) → sent n ++ flat_map (bytes_in n) outs ≡ sent n
    nobody_sent n = ap (λ l. sent n ++ l) (none_cancelled_to n (ascending (filter (is_left after) (flat_map key_of client.requests)))) ∙ append-nil (sent n)

    closed_holds : Holds events (closed g number client).1 fed_so_far (λ n. sent n ++ flat_map (bytes_in n) outs)
    closed_holds = same_bytes events (closed g number client).1 fed_so_far fed_so_far sent (λ n. sent n ++ flat_map (bytes_in n) outs) (λ n. refl) nobody_sent (record {
      up = up_closed events g.upstream g.last_client number (requests_of (fed_so_far number)) (sent number) client h.up closing;
      clients = λ n. closed_client n (number == n) refl;
      read = λ n. closed_read n (number == n);
      stops = λ n. closed_stops n (number == n);
      unopened = λ n more. (closed_unopened n more (number == n), (h.unopened n more).1);
    })

  pub close_holds : (x : Option Client) → g.clients number ≡ x →
      Holds events (closes_at g number x).1 fed_so_far (λ n. sent n ++ flat_map (bytes_in n) (outs_of (closes_at g number x).0))
  close_holds None is = same_bytes events g fed_so_far fed_so_far sent (λ n. sent n ++ []) (λ n. refl) (λ n. append-nil (sent n)) h
  close_holds (Some client) is = closed_holds client is

-- ---- whatever happens

pub still_holds : (adds : OnlyAdds) (events : List Event) (e : Event) (r : Run) →
    ((key : ℕ) (brought : Result ℕ ℕ) (w : Waiter) → e ≡ Reply key brought → IsAmong w (r.gateway.upstream.waiting key) → BroughtTo events key brought w) →
    Holds events r.gateway r.fed r.sent → Holds events (happens r e).gateway (happens r e).fed (happens r e).sent
still_holds adds events Open r was h =
    same_bytes events (opens r.gateway).1 r.fed r.fed r.sent (λ n. r.sent n ++ []) (λ n. refl) (λ n. append-nil (r.sent n))
    (open_holds events r.gateway r.fed r.sent h (r.gateway.open_clients == most_clients))
still_holds adds events (Feed number bytes) r was h = feed_holds adds events r.gateway r.fed r.sent number bytes h (r.gateway.clients number) refl
still_holds adds events (Reply key brought) r was h =
    reply_holds events r.gateway r.fed r.sent key brought h (λ w on. was key brought w refl on) (r.gateway.upstream.waiting key) refl
still_holds adds events (Close number) r was h = close_holds events r.gateway r.fed r.sent number h (r.gateway.clients number) refl
