-- Every run is served.
use Rattle.std.proofs.Common.{◌≡◌, ℕ, List, [], ◌∷◌, ◌++◌, Option, Some, None, Result, refl, sym, ap, subst}
use Rattle.moka_laws.proofs.Counting.{none_some}
use Rattle.std.proofs.lemmas.Bool.{false≢true}
use Rattle.moka_requests.specs.Laws.{OnlyAdds}
use Rattle.moka_requests.specs.Requests.{requests_of}
use Rattle.moka_collapsing.specs.Clients.{Client}
use Rattle.moka_collapsing.specs.Runs.{Event, Reply, begun_run, happens, run_of}
use Rattle.moka_collapsing.specs.Served.{BroughtTo, IsAmong, IsServed, IsServedClient, Stands}
use Rattle.moka_collapsing.specs.Upstream.{Waiter}
use Rattle.moka_collapsing.proofs.Cutting.{folded_append}
use Rattle.moka_collapsing.proofs.Due.{all_due}
use Rattle.moka_collapsing.proofs.Happening.{Holds, holds_later_all, still_holds}
use Rattle.moka_collapsing.proofs.Holding.{HoldsAt, Stops}
use Rattle.moka_collapsing.proofs.Slots.{left_answered}
use Rattle.moka_collapsing.proofs.Staying.{kept_for_good, over_runs}

-- what holds after a run
abbrev HoldsAfter : List Event → Type 0
HoldsAfter events = Holds events (run_of events).gateway (run_of events).fed (run_of events).sent

at_first : HoldsAfter []
at_first = record {
  up = record {
    stored = λ key value e. absurd (none_some e);
    numbered = λ k w on. absurd on;
    known = λ k w on. absurd on;
    unique = λ k w v onw onv e. absurd onw;
  };
  clients = λ n. record { answers = []; sent = refl; answered = λ i a e. absurd (none_some e) };
  read = λ n. tt;
  stops = λ n. tt;
  unopened = λ n more. (refl, refl);
}

-- what the last event brought
just_brought : (events : List Event) (e : Event) (key : ℕ) (brought : Result ℕ ℕ) (w : Waiter) → e ≡ Reply key brought →
    IsAmong w ((run_of events).gateway.upstream.waiting key) → BroughtTo (events ++ e ∷ []) key brought w
just_brought events e key brought w is on = record {
  before = events;
  after = [];
  run = ap (λ x. events ++ x ∷ []) is;
  waited = on;
}

one_more_event : OnlyAdds → (events : List Event) (e : Event) → HoldsAfter events → HoldsAfter (events ++ e ∷ [])
one_more_event adds events e h =
    let r = run_of events in
    subst (λ s. Holds (events ++ e ∷ []) s.gateway s.fed s.sent) (sym (folded_append happens begun_run events (e ∷ [])))
    (still_holds adds (events ++ e ∷ []) e r (λ key brought w is on. just_brought events e key brought w is on) (holds_later_all events e r.gateway r.fed r.sent h))

holds_after : OnlyAdds → (events : List Event) → HoldsAfter events
holds_after adds = over_runs HoldsAfter (one_more_event adds) at_first

-- ---- what a user may rely on of it

served_at : (events : List Event) (number : ℕ) (x : Option Client) →
    HoldsAt events (run_of events).gateway.upstream.waiting number (requests_of ((run_of events).fed number)) ((run_of events).sent number) x →
    Stops x → IsServedClient events number x
served_at events number None h stops = record {
  answers = h.answers;
  sent = h.sent;
  stands = λ i s e. left_answered h.answers i s (Stands events (run_of events).gateway.upstream.waiting number (requests_of ((run_of events).fed number)) i s) e
      (λ a answered same. subst (λ t. Stands events (run_of events).gateway.upstream.waiting number (requests_of ((run_of events).fed number)) i t) same (h.answered i a answered));
  stops = refl;
  all = λ is_open. absurd (false≢true is_open);
}
served_at events number (Some client) h stops = record {
  answers = h.answers;
  sent = h.sent;
  stands = h.stands;
  stops = stops;
  all = λ is_open. h.all;
}

pub all_served : OnlyAdds → (events : List Event) → IsServed events
all_served adds events =
    let h = holds_after adds events in
    record {
      stored = λ key value. (h.up.stored key value, kept_for_good events key value);
      clients = λ number. served_at events number ((run_of events).gateway.clients number) (h.clients number) (h.stops number);
      due = λ before after event e. all_due (run_of before).gateway event;
    }
