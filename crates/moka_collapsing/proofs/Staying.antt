-- What was brought is stored, and stays so.
use Rattle.std.proofs.Common.{◌≡◌, ◌⊎◌, inl, inr, ℕ, ◌+◌, ◌==◌, cond, Bool, true, false, List, [], ◌∷◌, ◌++◌, length, Option, Some, None, Result, Ok, Err, refl, sym, ap, ◌∙◌, subst, arith, length-append, append_assoc}
use Rattle.std.proofs.lemmas.List.{append-nil}
use Rattle.moka_hist.specs.Finite.{put_at}
use Rattle.moka_laws.proofs.Counting.{differ_not, none_some, put_cases, put_here}
use Rattle.moka_requests.specs.Requests.{new_requests, unfinished_after}
use Rattle.moka_requests.specs.declared.request.Request.{Request}
use Rattle.moka_requests.specs.declared.request.Request.TheVariants.{Get, Bad}
use Rattle.moka_collapsing.specs.declared.slot.Place.{Place}
use Rattle.moka_collapsing.specs.declared.slot.Slot.{Slot}
use Rattle.moka_collapsing.specs.declared.slot.Slot.TheVariants.{Waits, Answered}
use Rattle.moka_collapsing.specs.Clients.{Client, made}
use Rattle.moka_collapsing.specs.Folds.{folded}
use Rattle.moka_collapsing.specs.Reference.{Come, Reference, closes_at, comes, feeds_at, most_clients, replies_at, with_client}
use Rattle.moka_collapsing.specs.Runs.{Event, Open, Feed, Reply, Close, begun_run, brought_by, happens, run_of}
use Rattle.moka_collapsing.specs.Served.{Brought, IsAmong, place_at}
use Rattle.moka_collapsing.specs.Upstream.{Upstream, Waiter, answer_of, asked_at, joined, left, without}
use Rattle.moka_collapsing.proofs.Cutting.{folded_append}
use Rattle.moka_collapsing.proofs.Lawful.{closes_lawful, feeds_lawful, kept_brought}

-- nobody waits for a key that is stored
abbrev Settled : Upstream → Type 0
Settled u = (k v : ℕ) → u.stored k ≡ Some v → u.waiting k ≡ []

-- ---- that stays so

settled_asked : (u : Upstream) (key : ℕ) (place : Place) → Settled u → (x : Option ℕ) → u.stored key ≡ x → Settled (asked_at x u key place).1
settled_asked u key place h (Some value) e = h
settled_asked u key place h None e = λ k v is. put_cases u.waiting key (u.waiting key ++ (u.last + 1, place) ∷ []) k _ ((joined u key place).waiting k ≡ []) refl
    (λ same w. absurd (none_some (sym e ∙ ap u.stored same ∙ is)))
    (λ other w. sym w ∙ h k v is)

settled_come : (number : ℕ) (c : Come) (r : Request) → Settled c.upstream → Settled (comes number c r).upstream
settled_come number c Bad h = h
settled_come number c (Get key) h = settled_asked c.upstream key (place_at number (made c.client)) h (c.upstream.stored key) refl

settled_all : (number : ℕ) (rs : List Request) (c : Come) → Settled c.upstream → Settled (folded (comes number) c rs).upstream
settled_all number [] c h = h
settled_all number (r ∷ rs) c h = settled_all number rs (comes number c r) (settled_come number c r h)

settled_fed : (g : Reference) (number : ℕ) (bytes : List ℕ) (x : Option Client) → Settled g.upstream → Settled (feeds_at g number x bytes).1.upstream
settled_fed g number bytes None h = h
settled_fed g number bytes (Some client) h =
    settled_all number (new_requests client.unfinished bytes) (record { upstream = g.upstream; client = record client { unfinished = unfinished_after client.unfinished bytes }; fetches = [] }) h

settled_replied : (g : Reference) (key : ℕ) (brought : Result ℕ ℕ) (ws : List Waiter) → Settled g.upstream → Settled (replies_at g key (answer_of brought) ws).1.upstream
settled_replied g key brought [] h = h
settled_replied g key brought (w ∷ ws) h = λ k v is. put_cases g.upstream.waiting key [] k _ (put_at g.upstream.waiting key [] k ≡ []) refl
    (λ same e. sym e)
    (λ other e. sym e ∙ h k v (old k v other (kept_brought g.upstream.stored key brought k v is)))
  where
    old : (k v : ℕ) → (key == k) ≡ false → (g.upstream.stored k ≡ Some v) ⊎ ((k ≡ key) × (brought ≡ Ok v)) → g.upstream.stored k ≡ Some v
    old k v other (inl it) = it
    old k v other (inr it) = absurd (differ_not key k other (sym it.0))

settled_left : (slots : List Slot) (u : Upstream) → Settled u → Settled (folded left u slots)
settled_left [] u h = h
settled_left (Waits key n ∷ slots) u h = settled_left slots (left u (Waits key n)) (λ k v is.
    put_cases u.waiting key (without n (u.waiting key)) k _ (put_at u.waiting key (without n (u.waiting key)) k ≡ []) refl
    (λ same e. sym e ∙ ap (without n) (h key v (ap u.stored same ∙ is)))
    (λ other e. sym e ∙ h k v is))
settled_left (Answered a ∷ slots) u h = settled_left slots u h

settled_closed : (g : Reference) (number : ℕ) (x : Option Client) → Settled g.upstream → Settled (closes_at g number x).1.upstream
settled_closed g number None h = h
settled_closed g number (Some client) h = settled_left client.requests g.upstream h

abbrev opened_at : Bool → Reference → Option ℕ × Reference
opened_at b g = cond b (None, g) (Some (g.last_client + 1), with_client g)

same_upstream : (g : Reference) (b : Bool) → (opened_at b g).1.upstream ≡ g.upstream
same_upstream g true = refl
same_upstream g false = refl

settled_still : (g : Reference) (e : Event) → Settled g.upstream → Settled (brought_by g e).1.upstream
settled_still g Open h = subst Settled (sym (same_upstream g (g.open_clients == most_clients))) h
settled_still g (Feed number bytes) h = settled_fed g number bytes (g.clients number) h
settled_still g (Reply key brought) h = settled_replied g key brought (g.upstream.waiting key) h
settled_still g (Close number) h = settled_closed g number (g.clients number) h

-- ---- what is stored stays

stays_fed : (g : Reference) (number : ℕ) (bytes : List ℕ) (x : Option Client) (k : ℕ) → (feeds_at g number x bytes).1.upstream.stored k ≡ g.upstream.stored k
stays_fed g number bytes None k = refl
stays_fed g number bytes (Some client) k = (feeds_lawful g number client bytes).stored k

stays_closed : (g : Reference) (number : ℕ) (x : Option Client) (k : ℕ) → (closes_at g number x).1.upstream.stored k ≡ g.upstream.stored k
stays_closed g number None k = refl
stays_closed g number (Some client) k = (closes_lawful g number client).stored k

not_empty : (w : Waiter) (ws : List Waiter) → w ∷ ws ≡ [] → ⊥
not_empty w ws e = cc

stays_replied : (g : Reference) (key : ℕ) (brought : Result ℕ ℕ) (ws : List Waiter) → g.upstream.waiting key ≡ ws → Settled g.upstream →
    (k v : ℕ) → g.upstream.stored k ≡ Some v → (replies_at g key (answer_of brought) ws).1.upstream.stored k ≡ Some v
stays_replied g key brought [] on h k v is = is
stays_replied g key (Ok value) (w ∷ ws) on h k v is = put_cases g.upstream.stored key (Some value) k _ (put_at g.upstream.stored key (Some value) k ≡ Some v) refl
    (λ same e. absurd (not_empty w ws (sym on ∙ h key v (ap g.upstream.stored same ∙ is))))
    (λ other e. sym e ∙ is)
stays_replied g key (Err error) (w ∷ ws) on h k v is = is

stays : (g : Reference) (e : Event) → Settled g.upstream → (k v : ℕ) → g.upstream.stored k ≡ Some v → (brought_by g e).1.upstream.stored k ≡ Some v
stays g Open h k v is = ap (λ u. u.stored k) (same_upstream g (g.open_clients == most_clients)) ∙ is
stays g (Feed number bytes) h k v is = stays_fed g number bytes (g.clients number) k ∙ is
stays g (Reply key brought) h k v is = stays_replied g key brought (g.upstream.waiting key) refl h k v is
stays g (Close number) h k v is = stays_closed g number (g.clients number) k ∙ is

-- what is brought while a request waits is stored
stores : (g : Reference) (key v : ℕ) (w : Waiter) (ws : List Waiter) → IsAmong w ws → (replies_at g key (answer_of (Ok v)) ws).1.upstream.stored key ≡ Some v
stores g key v w [] on = absurd on
stores g key v w (x ∷ ws) on = put_here g.upstream.stored key (Some v)

-- ---- over a run

-- the last of a list is what stands there, or comes after it
split_last : {X P : Type 0} (xs : List X) (x : X) (before : List X) (y : X) (after : List X) → xs ++ x ∷ [] ≡ before ++ y ∷ after →
    (xs ≡ before → x ≡ y → P) → ((rest : List X) → xs ≡ before ++ y ∷ rest → P) → P
split_last [] x [] y after e last earlier = last refl (first_same e)
  where
    first_same : x ∷ [] ≡ y ∷ after → x ≡ y
    first_same e = cc
split_last (z ∷ xs) x [] y after e last earlier = earlier xs (ap (λ f. f ∷ xs) (first_same e))
  where
    first_same : z ∷ (xs ++ x ∷ []) ≡ y ∷ after → z ≡ y
    first_same e = cc
split_last [] x (b ∷ before) y after e last earlier =
    absurd (omega (arith, ap length e, length-append before (y ∷ after)))
split_last (z ∷ xs) x (b ∷ before) y after e last earlier =
    split_last xs x before y after (rest_same e)
    (λ same it. last (ap (λ l. z ∷ l) same ∙ ap (λ f. f ∷ before) (first_same e)) it)
    (λ rest same. earlier rest (ap (λ l. z ∷ l) same ∙ ap (λ f. f ∷ (before ++ y ∷ rest)) (first_same e)))
  where
    first_same : z ∷ (xs ++ x ∷ []) ≡ b ∷ (before ++ y ∷ after) → z ≡ b
    first_same e = cc

    rest_same : z ∷ (xs ++ x ∷ []) ≡ b ∷ (before ++ y ∷ after) → xs ++ x ∷ [] ≡ before ++ y ∷ after
    rest_same e = cc

-- what holds of every run, if it holds of the empty one, and goes on by an event
module _ (P : List Event → Type 0) (step : (events : List Event) (e : Event) → P events → P (events ++ e ∷ [])) where
  goes_on : (events more : List Event) → P events → P (events ++ more)
  goes_on events [] h = subst P (sym (append-nil events)) h
  goes_on events (e ∷ more) h = subst P (append_assoc events (e ∷ []) more) (goes_on (events ++ e ∷ []) more (step events e h))

  pub over_runs : P [] → (events : List Event) → P events
  over_runs h events = goes_on [] events h

record Keeps (events : List Event) : Type 0 where
  pub settled : Settled (run_of events).gateway.upstream
  pub kept : (k v : ℕ) → Brought events k (Ok v) → (run_of events).gateway.upstream.stored k ≡ Some v

keeps_nothing : Keeps []
keeps_nothing = record {
  settled = λ k v is. refl;
  kept = λ k v b. absurd (omega (arith, ap length b.1.run, length-append b.1.before (Reply k (Ok v) ∷ b.1.after)));
}

now_kept : (events : List Event) (e : Event) → Keeps events → (k v : ℕ) → Brought (events ++ e ∷ []) k (Ok v) →
    (brought_by (run_of events).gateway e).1.upstream.stored k ≡ Some v
now_kept events e h k v b = split_last events e b.1.before (Reply k (Ok v)) b.1.after b.1.run
    (λ same it. subst (λ x. (brought_by (run_of events).gateway x).1.upstream.stored k ≡ Some v) (sym it)
    (stores (run_of events).gateway k v b.0 ((run_of events).gateway.upstream.waiting k)
    (subst (λ l. IsAmong b.0 ((run_of l).gateway.upstream.waiting k)) (sym same) b.1.waited)))
    (λ rest same. stays (run_of events).gateway e h.settled k v
    (h.kept k v (b.0, record { before = b.1.before; after = rest; run = same; waited = b.1.waited })))

keeps_more : (events : List Event) (e : Event) → Keeps events → Keeps (events ++ e ∷ [])
keeps_more events e h =
    let next = folded_append happens begun_run events (e ∷ []) in
    record {
      settled = subst (λ r. Settled r.gateway.upstream) (sym next) (settled_still (run_of events).gateway e h.settled);
      kept = λ k v b. ap (λ r. r.gateway.upstream.stored k) next ∙ now_kept events e h k v b;
    }

pub kept_for_good : (events : List Event) (k v : ℕ) → Brought events k (Ok v) → (run_of events).gateway.upstream.stored k ≡ Some v
kept_for_good events = (over_runs Keeps keeps_more keeps_nothing events).kept
