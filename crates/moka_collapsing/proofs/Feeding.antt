-- What holds stays so while the requests of a client come.
use Rattle.std.proofs.Common.{◌≡◌, ◌≢◌, ◌⊎◌, inl, inr, ℕ, ◌+◌, ◌≤◌, List, [], ◌∷◌, ◌++◌, map, length, Option, Some, None, refl, sym, ap, ◌∙◌, subst, arith, append_assoc, length-append}
use Rattle.std.proofs.lemmas.List.{append-nil, length-map}
use Rattle.moka_hist.specs.Finite.{put_at}
use Rattle.moka_laws.proofs.Counting.{put_cases, put_here}
use Rattle.moka_requests.specs.declared.request.Request.{Request}
use Rattle.moka_requests.specs.declared.request.Request.TheVariants.{Get, Bad}
use Rattle.moka_collapsing.specs.declared.answer.Answer.TheVariants as answer
use Rattle.moka_collapsing.specs.declared.slot.Place.{Place}
use Rattle.moka_collapsing.specs.declared.slot.Slot.{Slot}
use Rattle.moka_collapsing.specs.declared.slot.Slot.TheVariants.{Waits, Answered}
use Rattle.moka_collapsing.specs.Clients.{Client, made, with_request}
use Rattle.moka_collapsing.specs.Folds.{folded}
use Rattle.moka_collapsing.specs.Reference.{Come, comes}
use Rattle.moka_collapsing.specs.Runs.{Event}
use Rattle.moka_collapsing.specs.Served.{IsAmong, StandsFor, place_at}
use Rattle.moka_collapsing.specs.Upstream.{Upstream, Waiter, asked_at, counted, joined}
use Rattle.moka_collapsing.proofs.Holding.{HoldsAt, HoldsClient, Upholds, added, moved}
use Rattle.moka_collapsing.proofs.Slots.{among_either, among_last, among_more}

-- what holds while the client of this number is fed
pub record Feeding (events : List Event) (top number : ℕ) (asked_by : ℕ → List Request) (bytes : ℕ → List ℕ) (clients : ℕ → Option Client)
    (requests : List Request) (u : Upstream) (client : Client) : Type 0 where
  pub up : Upholds events u top
  pub fed : HoldsClient events u.waiting number requests (bytes number) client
  pub others : (n : ℕ) → number ≢ n → HoldsAt events u.waiting n (asked_by n) (bytes n) (clients n)

module _ (events : List Event) (top number : ℕ) (known : number ≤ top) (asked_by : ℕ → List Request) (bytes : ℕ → List ℕ) (clients : ℕ → Option Client) where
  abbrev Fed : List Request → Upstream → Client → Type 0
  Fed = Feeding events top number asked_by bytes clients

  -- one that is answered at once, and changes no list
  at_once : (requests : List Request) (u v : Upstream) (client : Client) (r : Request) (s : Slot) → Upholds events v top → v.waiting ≡ u.waiting →
      StandsFor events u.waiting (place_at number (length requests)) r s → ((k n : ℕ) → s ≡ Waits k n → ⊥) → Fed requests u client → Fed (requests ++ r ∷ []) v (with_request client s)
  at_once requests u v client r s up same this not h = record {
    up = up;
    fed = subst (λ w. HoldsClient events w number (requests ++ r ∷ []) (bytes number) (with_request client s)) (sym same)
        (added events u.waiting u.waiting number requests (bytes number) client r s (λ k n i on. on) (λ k n i on. inl on) this h.fed);
    others = λ n other. subst (λ w. HoldsAt events w n (asked_by n) (bytes n) (clients n)) (sym same) (h.others n other);
  }

  -- one that waits
  module _ (requests : List Request) (u : Upstream) (client : Client) (key : ℕ) (h : Fed requests u client) where
    abbrev place : Place
    place = place_at number (made client)

    abbrev waiter : Waiter
    waiter = (u.last + 1, place)

    abbrev more : List Waiter
    more = u.waiting key ++ waiter ∷ []

    abbrev waiting1 : ℕ → List Waiter
    waiting1 = put_at u.waiting key more

    index : made client ≡ length requests
    index = omega (arith, h.fed.count, h.fed.all, length-append (map Answered h.fed.answers) client.requests, length-map h.fed.answers Answered)

    keep : (k : ℕ) (v : Waiter) → IsAmong v (u.waiting k) → IsAmong v (waiting1 k)
    keep k v on = put_cases u.waiting key more k (waiting1 k) (IsAmong v (waiting1 k)) refl
        (λ same is. subst (λ l. IsAmong v l) is (among_more (u.waiting key) (waiter ∷ []) v (subst (λ j. IsAmong v (u.waiting j)) (sym same) on)))
        (λ other is. subst (λ l. IsAmong v l) is on)

    back : (k : ℕ) (v : Waiter) (P : Type 0) → IsAmong v (waiting1 k) → (IsAmong v (u.waiting k) → P) → (key ≡ k → waiter ≡ v → P) → P
    back k v P on old new = put_cases u.waiting key more k (waiting1 k) P refl
        (λ same is. among_either (u.waiting key) waiter v P (subst (λ l. IsAmong v l) (sym is) on) (λ was. old (subst (λ j. IsAmong v (u.waiting j)) same was)) (new same))
        (λ other is. old (subst (λ l. IsAmong v l) (sym is) on))

    up_joined : Upholds events (joined u key place) top
    up_joined = record {
      stored = h.up.stored;
      numbered = λ k w on. back k w (w.0 ≤ u.last + 1) on
          (λ old. omega (arith, h.up.numbered k w old))
          (λ same is. omega (arith, ap (λ x. x.0) is));
      known = λ k w on. back k w (w.1.client ≤ top) on
          (λ old. h.up.known k w old)
          (λ same is. subst (λ n. n ≤ top) (ap (λ x. x.1.client) is) known);
      unique = λ k w v onw onv e. back k w (w.1 ≡ v.1) onw
          (λ old. back k v (w.1 ≡ v.1) onv
          (λ was. h.up.unique k w v old was e)
          (λ same is. absurd (omega (arith, h.up.numbered k w old, ap (λ x. x.0) is, e))))
          (λ same is. back k v (w.1 ≡ v.1) onv
          (λ was. absurd (omega (arith, h.up.numbered k v was, ap (λ x. x.0) is, e)))
          (λ here it. sym (ap (λ x. x.1) is) ∙ ap (λ x. x.1) it));
    }

    this_waits : StandsFor events waiting1 (place_at number (length requests)) (Get key) (Waits key (u.last + 1))
    this_waits = (
      refl,
      subst (λ i. IsAmong (u.last + 1, place_at number i) (waiting1 key)) index
          (subst (λ l. IsAmong waiter l) (sym (put_here u.waiting key more)) (among_last (u.waiting key) waiter)),
    )

    new_here : (k n i : ℕ) → IsAmong (n, place_at number i) (waiting1 k) → IsAmong (n, place_at number i) (u.waiting k) ⊎ ((i ≡ length requests) × (Waits key (u.last + 1) ≡ Waits k n))
    new_here k n i on = back k (n, place_at number i) (IsAmong (n, place_at number i) (u.waiting k) ⊎ ((i ≡ length requests) × (Waits key (u.last + 1) ≡ Waits k n))) on
        (λ old. inl old)
        (λ same is. inr (sym (ap (λ x. x.1.index) is) ∙ index, ap (λ j. Waits j (u.last + 1)) same ∙ ap (λ x. Waits k x.0) is))

    waits_too : Fed (requests ++ Get key ∷ []) (joined u key place) (with_request client (Waits key (u.last + 1)))
    waits_too = record {
      up = up_joined;
      fed = added events u.waiting waiting1 number requests (bytes number) client (Get key) (Waits key (u.last + 1)) (λ k n i. keep k (n, place_at number i)) new_here this_waits h.fed;
      others = λ n other. moved events u.waiting waiting1 n (λ k m i. keep k (m, place_at n i))
          (λ k m i on. back k (m, place_at n i) (IsAmong (m, place_at n i) (u.waiting k)) on (λ old. old) (λ same is. absurd (other (ap (λ x. x.1.client) is))))
          (asked_by n) (bytes n) (clients n) (h.others n other);
    }

  up_counted : (u : Upstream) → Upholds events u top → Upholds events (counted u) top
  up_counted u h = record {
    stored = h.stored;
    numbered = λ k w on. omega (arith, h.numbered k w on);
    known = h.known;
    unique = h.unique;
  }

  fed_asked : (requests : List Request) (u : Upstream) (client : Client) (key : ℕ) → Fed requests u client → (x : Option ℕ) → u.stored key ≡ x →
      Fed (requests ++ Get key ∷ []) (asked_at x u key (place_at number (made client))).1 (with_request client (asked_at x u key (place_at number (made client))).0.slot)
  fed_asked requests u client key h (Some value) e =
      at_once requests u (counted u) client (Get key) (Answered (answer.Value value)) (up_counted u h.up) refl (h.up.stored key value e) (λ k n is. cc) h
  fed_asked requests u client key h None e = waits_too requests u client key h

  fed_one : (requests : List Request) (r : Request) (c : Come) → Fed requests c.upstream c.client → Fed (requests ++ r ∷ []) (comes number c r).upstream (comes number c r).client
  fed_one requests Bad c h = at_once requests c.upstream c.upstream c.client Bad (Answered answer.Bad) h.up refl tt (λ k n is. cc) h
  fed_one requests (Get key) c h = fed_asked requests c.upstream c.client key h (c.upstream.stored key) refl

  pub fed_all : (rs requests : List Request) (c : Come) → Fed requests c.upstream c.client → Fed (requests ++ rs) (folded (comes number) c rs).upstream (folded (comes number) c rs).client
  fed_all [] requests c h = subst (λ l. Fed l c.upstream c.client) (sym (append-nil requests)) h
  fed_all (r ∷ rs) requests c h =
      subst (λ l. Fed l (folded (comes number) (comes number c r) rs).upstream (folded (comes number) (comes number c r) rs).client) (append_assoc requests (r ∷ []) rs)
      (fed_all rs (requests ++ r ∷ []) (comes number c r) (fed_one requests r c h))
