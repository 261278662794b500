-- What a user may rely on at each call.
use Rattle.std.proofs.Common.{◌≡◌, ◌⊎◌, inl, inr, ℕ, ◌+◌, ◌==◌, cond, Bool, true, false, List, [], ◌∷◌, ◌++◌, map, filter, flat_map, length, Option, Some, None, IfSome, nat_eq, refl, sym, ap, ◌∙◌, subst, arith, length-append}
use Rattle.std.proofs.lemmas.List.{append-nil}
use borrow.Author.Tests.{eqb-true}
use Rattle.std.specs.List.{AllByRecursion, IsDistinct}
use Rattle.std.specs.Option.{option_map_or, option_to_list}
use Rattle.std.specs.Ordering.{nat_cmp, match_ordering}
use Rattle.std.specs.declared.cmp.Ordering.{Ordering}
use Rattle.std.specs.declared.cmp.Ordering.TheVariants as ordering
use Rattle.std.specs.BTreeSet.{insert_key}
use Rattle.std.specs.declared.result.Result.{Result}
use Rattle.std.specs.declared.result.Result.TheVariants.{Ok, Err}
use Rattle.moka_hist.specs.Finite.{put_at}
use Rattle.moka_laws.proofs.Counting.{differ, put_cases, put_here}
use Rattle.moka_requests.specs.Requests.{new_requests, unfinished_after}
use Rattle.moka_requests.specs.declared.request.Request.{Request}
use Rattle.moka_requests.specs.declared.request.Request.TheVariants.{Get, Bad}
use Rattle.moka_collapsing.specs.declared.answer.Answer.{Answer}
use Rattle.moka_collapsing.specs.declared.out.Out.TheVariants.{Cancel}
use Rattle.moka_collapsing.specs.declared.slot.Asked.{Asked}
use Rattle.moka_collapsing.specs.declared.slot.Place.{Place}
use Rattle.moka_collapsing.specs.declared.slot.Slot.{Slot}
use Rattle.moka_collapsing.specs.declared.slot.Slot.TheVariants.{Waits, Answered}
use Rattle.moka_collapsing.specs.Clients.{Client, due_bytes, made}
use Rattle.moka_collapsing.specs.Folds.{folded}
use Rattle.moka_collapsing.specs.Laws.{CloseIsLawful, FeedIsLawful, IsLeftCancel, IsOpened, IsTo, ReplyIsLawful}
use Rattle.moka_collapsing.specs.Reference.{Come, Reference, Sent, all_come, ascending, comes, due_to, gives, key_of, replies_at, sends, to_client}
use Rattle.moka_collapsing.specs.Upstream.{Upstream, Waiter, answer_of, asked_at, counted, fetch_of, is_left, joined, keeps, left}
use Rattle.moka_collapsing.proofs.Cutting.{same_in_pieces}
use Rattle.moka_collapsing.proofs.Ordering.{in_order}

-- ---- lists

all_weaker : {X : Type 0} (P Q : X → Type 0) → ((x : X) → P x → Q x) → (xs : List X) → AllByRecursion P xs → AllByRecursion Q xs
all_weaker P Q to [] h = tt
all_weaker P Q to (x ∷ xs) h = (to x h.0, all_weaker P Q to xs h.1)

all_end : {X : Type 0} (P : X → Type 0) (xs : List X) (x : X) → AllByRecursion P xs → P x → AllByRecursion P (xs ++ x ∷ [])
all_end P [] x h p = (p, tt)
all_end P (y ∷ xs) x h p = (h.0, all_end P xs x h.1 p)

pub all_append : {X : Type 0} (P : X → Type 0) (xs ys : List X) → AllByRecursion P xs → AllByRecursion P ys → AllByRecursion P (xs ++ ys)
all_append P [] ys h k = k
all_append P (x ∷ xs) ys h k = (h.0, all_append P xs ys h.1 k)

distinct_end : (xs : List ℕ) (x : ℕ) → AllByRecursion (λ y. nat_eq y x ≡ false) xs → IsDistinct nat_eq xs → IsDistinct nat_eq (xs ++ x ∷ [])
unfolding IsDistinct
distinct_end [] x h d = (tt, tt)
distinct_end (y ∷ xs) x h d = (all_end (λ z. nat_eq y z ≡ false) xs x d.0 h.0, distinct_end xs x h.1 d.1)

-- ---- a client is fed

-- what the requests have brought about so far
record IsSoFar (u : Upstream) (c : Come) : Type 0 where
  pub stored : (key : ℕ) → c.upstream.stored key ≡ u.stored key
  pub grows : (key : ℕ) → is_left c.upstream key ≡ true → is_left u key ≡ true
  pub opened : AllByRecursion (IsOpened u c.upstream) c.fetches
  pub once : IsDistinct nat_eq c.fetches

pub none_left : (ws : List Waiter) → (length ws == 0) ≡ true → ws ≡ []
none_left [] e = refl
none_left (w ∷ ws) e = absurd (omega (arith, eqb-true (length (w ∷ ws)) 0 e))

one_left : (ws : List Waiter) (w : Waiter) → (length (ws ++ w ∷ []) == 0) ≡ false
one_left [] w = refl
one_left (v ∷ ws) w = differ (length ((v ∷ ws) ++ w ∷ [])) 0 (λ e. absurd (omega (arith, e, length-append (v ∷ ws) (w ∷ []))))

not_both : {b : Bool} → b ≡ true → b ≡ false → ⊥
not_both t f = cc

-- a list that joined a request is left by nobody
join_keeps : (u : Upstream) (key : ℕ) (w : Waiter) (k : ℕ) → (length (put_at u.waiting key (u.waiting key ++ w ∷ []) k) == 0) ≡ true → (length (u.waiting k) == 0) ≡ true
join_keeps u key w k left = put_cases u.waiting key (u.waiting key ++ w ∷ []) k _ ((length (u.waiting k) == 0) ≡ true) refl
    (λ same e. absurd (not_both (ap (λ l. length l == 0) e ∙ left) (one_left (u.waiting key) w)))
    (λ other e. ap (λ l. length l == 0) e ∙ left)

still_open : (u : Upstream) (key : ℕ) (w : Waiter) (k : ℕ) → (length (u.waiting k) == 0) ≡ false → (length (put_at u.waiting key (u.waiting key ++ w ∷ []) k) == 0) ≡ false
still_open u key w k some = by (length (put_at u.waiting key (u.waiting key ++ w ∷ []) k) == 0) refl
  where
    by : (b : Bool) → (length (put_at u.waiting key (u.waiting key ++ w ∷ []) k) == 0) ≡ b → b ≡ false
    by true e = absurd (not_both (join_keeps u key w k e) some)
    by false e = refl

so_far_stored : (u : Upstream) (c : Come) (client : Client) → IsSoFar u c → IsSoFar u (record { upstream = counted c.upstream; client = client; fetches = c.fetches ++ [] })
so_far_stored u c client is = record {
  stored = is.stored;
  grows = is.grows;
  opened = subst (AllByRecursion (IsOpened u (counted c.upstream))) (sym (append-nil c.fetches)) (all_weaker (IsOpened u c.upstream) (IsOpened u (counted c.upstream)) (λ k o. record { unknown = o.unknown; none = o.none; awaited = o.awaited }) c.fetches is.opened);
  once = subst (IsDistinct nat_eq) (sym (append-nil c.fetches)) is.once;
}

module _ (u : Upstream) (c : Come) (client : Client) (key : ℕ) (place : Place) (is : IsSoFar u c) where
  abbrev then : Upstream
  then = joined c.upstream key place

  opened_still : AllByRecursion (IsOpened u then) c.fetches
  opened_still = all_weaker (IsOpened u c.upstream) (IsOpened u then) (λ k o. record { unknown = o.unknown; none = o.none; awaited = still_open c.upstream key (c.upstream.last + 1, place) k o.awaited }) c.fetches is.opened

  so_far_grows : (k : ℕ) → is_left then k ≡ true → is_left u k ≡ true
  so_far_grows k left = is.grows k (join_keeps c.upstream key (c.upstream.last + 1, place) k left)

  so_far_joined : (w : Waiter) (ws : List Waiter) → IsSoFar u (record { upstream = then; client = client; fetches = c.fetches ++ option_to_list (fetch_of (w ∷ ws) key) })
  so_far_joined w ws = record {
    stored = is.stored;
    grows = so_far_grows;
    opened = subst (AllByRecursion (IsOpened u then)) (sym (append-nil c.fetches)) opened_still;
    once = subst (IsDistinct nat_eq) (sym (append-nil c.fetches)) is.once;
  }

  so_far_opened : c.upstream.stored key ≡ None → c.upstream.waiting key ≡ [] → IsSoFar u (record { upstream = then; client = client; fetches = c.fetches ++ key ∷ [] })
  so_far_opened unknown none = record {
    stored = is.stored;
    grows = so_far_grows;
    opened = all_end (IsOpened u then) c.fetches key opened_still (record {
      unknown = sym (is.stored key) ∙ unknown;
      none = none_left (u.waiting key) (is.grows key (ap (λ l. length l == 0) none));
      awaited = ap (λ l. length l == 0) (put_here c.upstream.waiting key (c.upstream.waiting key ++ (c.upstream.last + 1, place) ∷ [])) ∙ one_left (c.upstream.waiting key) (c.upstream.last + 1, place);
    });
    once = distinct_end c.fetches key (all_weaker (IsOpened u c.upstream) (λ k. nat_eq k key ≡ false) (λ k o. differ k key (λ same. not_both (ap (λ l. length l == 0) (ap c.upstream.waiting same ∙ none)) o.awaited)) c.fetches is.opened) is.once;
  }

  so_far_waits : c.upstream.stored key ≡ None → (ws : List Waiter) → c.upstream.waiting key ≡ ws →
      IsSoFar u (record { upstream = then; client = client; fetches = c.fetches ++ option_to_list (fetch_of ws key) })
  so_far_waits unknown [] none = so_far_opened unknown none
  so_far_waits unknown (w ∷ ws) some = so_far_joined w ws

so_far_asked : (u : Upstream) (c : Come) (slotted : Asked → Client) (key : ℕ) (place : Place) → IsSoFar u c → (x : Option ℕ) → c.upstream.stored key ≡ x →
    IsSoFar u (record { upstream = (asked_at x c.upstream key place).1; client = slotted (asked_at x c.upstream key place).0; fetches = c.fetches ++ option_to_list (asked_at x c.upstream key place).0.fetch })
so_far_asked u c slotted key place is (Some value) known = so_far_stored u c (slotted (asked_at (Some value) c.upstream key place).0) is
so_far_asked u c slotted key place is None unknown = so_far_waits u c (slotted (asked_at None c.upstream key place).0) key place is unknown (c.upstream.waiting key) refl

so_far_one : (u : Upstream) (number : ℕ) (r : Request) (c : Come) → IsSoFar u c → IsSoFar u (comes number c r)
so_far_one u number Bad c is = record { stored = is.stored; grows = is.grows; opened = is.opened; once = is.once }
so_far_one u number (Get key) c is =
    so_far_asked u c (λ it. record c.client { requests = c.client.requests ++ it.slot ∷ [] }) key (record { client = number; index = made c.client }) is (c.upstream.stored key) refl

so_far_all : (u : Upstream) (number : ℕ) (rs : List Request) (c : Come) → IsSoFar u c → IsSoFar u (folded (comes number) c rs)
so_far_all u number [] c is = is
so_far_all u number (r ∷ rs) c is = so_far_all u number rs (comes number c r) (so_far_one u number r c is)

so_far_none : (u : Upstream) (client : Client) → IsSoFar u (record { upstream = u; client = client; fetches = [] })
unfolding IsDistinct
so_far_none u client = record { stored = λ key. refl; grows = λ key e. e; opened = tt; once = tt }

pub feeds_lawful : (g : Reference) (number : ℕ) (client : Client) (bytes : List ℕ) → FeedIsLawful g number client bytes
feeds_lawful g number client bytes =
    let is = so_far_all g.upstream number (new_requests client.unfinished bytes) _
    (so_far_none g.upstream (record client { unfinished = unfinished_after client.unfinished bytes })) in
    record {
      in_order = in_order (all_come g number client bytes).client;
      in_pieces = λ front back e. same_in_pieces g number client front back;
      opened = is.opened;
      once = is.once;
      stored = is.stored;
    }

-- ---- an upstream request brings something

to_is_to : (number : ℕ) (bytes : List ℕ) → AllByRecursion IsTo (to_client number bytes)
to_is_to number [] = tt
to_is_to number (b ∷ bytes) = (tt, tt)

sent_is_to : (s : Sent) (numbers : List ℕ) → AllByRecursion IsTo s.outs → AllByRecursion IsTo (folded sends s numbers).outs
sent_is_to s [] h = h
sent_is_to s (n ∷ numbers) h = sent_is_to (sends s n) numbers (all_append IsTo s.outs (due_to s.clients n) h (to_is_to n (option_map_or due_bytes (s.clients n) [])))

pub kept_brought : (stored : ℕ → Option ℕ) (key : ℕ) (brought : Result ℕ ℕ) (k v : ℕ) → keeps stored key (answer_of brought) k ≡ Some v →
    (stored k ≡ Some v) ⊎ ((k ≡ key) × (brought ≡ Ok v))
kept_brought stored key (Ok value) k v e = put_cases stored key (Some value) k (Some v) ((stored k ≡ Some v) ⊎ ((k ≡ key) × (Ok value ≡ Ok v))) e
    (λ same is. inr (sym same, cc))
    (λ other is. inl is)
kept_brought stored key (Err error) k v e = inl e

-- all that waited have this answer
abbrev all_given : Reference → Answer → List Waiter → Sent
all_given g given ws = record { clients = folded (gives given) g.clients (map (λ it. it.1) ws); outs = [] }

pub replies_lawful : (g : Reference) (key : ℕ) (brought : Result ℕ ℕ) → ReplyIsLawful g key brought
replies_lawful g key brought = by (g.upstream.waiting key) refl
  where
    by : (ws : List Waiter) → g.upstream.waiting key ≡ ws → ReplyIsLawful g key brought
    by [] e = record {
      stored = λ k v is. inl (subst (λ ws. (replies_at g key (answer_of brought) ws).1.upstream.stored k ≡ Some v) e is);
      ended = subst (λ ws. (replies_at g key (answer_of brought) ws).1.upstream.waiting key ≡ []) (sym e) e;
      sends = subst (λ ws. IfSome (replies_at g key (answer_of brought) ws).0 (λ outs. AllByRecursion IsTo outs)) (sym e) tt;
    }
    by (w ∷ ws) e = record {
      stored = λ k v is. kept_brought g.upstream.stored key brought k v (subst (λ ws. (replies_at g key (answer_of brought) ws).1.upstream.stored k ≡ Some v) e is);
      ended = subst (λ ws. (replies_at g key (answer_of brought) ws).1.upstream.waiting key ≡ []) (sym e) (put_here g.upstream.waiting key []);
      sends = subst (λ ws. IfSome (replies_at g key (answer_of brought) ws).0 (λ outs. AllByRecursion IsTo outs)) (sym e) (sent_is_to (all_given g (answer_of brought) (w ∷ ws)) (ascending (map (λ place. place.client) (map (λ it. it.1) (w ∷ ws)))) tt);
    }

-- ---- a client closes

pub left_stored : (u : Upstream) (slots : List Slot) (key : ℕ) → (folded left u slots).stored key ≡ u.stored key
left_stored u [] key = refl
left_stored u (Waits k n ∷ slots) key = left_stored (left u (Waits k n)) slots key
left_stored u (Answered a ∷ slots) key = left_stored u slots key

filtered : (test : ℕ → Bool) (xs : List ℕ) → AllByRecursion (λ x. test x ≡ true) (filter test xs)
filtered test [] = tt
filtered test (x ∷ xs) = by (test x) refl (filtered test xs)
  where
    by : (b : Bool) → test x ≡ b → AllByRecursion (λ y. test y ≡ true) (filter test xs) → AllByRecursion (λ y. test y ≡ true) (cond b (x ∷ filter test xs) (filter test xs))
    by true e rest = (e, rest)
    by false e rest = rest

inserted : (P : ℕ → Type 0) (xs : List ℕ) (x : ℕ) → AllByRecursion P xs → P x → AllByRecursion P (insert_key nat_cmp xs x)
inserted P [] x h p = (p, tt)
inserted P (y ∷ xs) x h p = by (nat_cmp x y) (inserted P xs x h.1 p)
  where
    by : (o : Ordering) → AllByRecursion P (insert_key nat_cmp xs x) → AllByRecursion P (match_ordering o (x ∷ y ∷ xs) (y ∷ xs) (y ∷ insert_key nat_cmp xs x))
    by ordering.Less rest = (p, h)
    by ordering.Equal rest = h
    by ordering.Greater rest = (h.0, rest)

all_inserted : (P : ℕ → Type 0) (xs ys : List ℕ) → AllByRecursion P ys → AllByRecursion P xs → AllByRecursion P (folded (insert_key nat_cmp) ys xs)
all_inserted P [] ys h k = h
all_inserted P (x ∷ xs) ys h k = all_inserted P xs (insert_key nat_cmp ys x) (inserted P ys x h k.0) k.1

cancelled : (after : Upstream) (keys : List ℕ) → AllByRecursion (λ key. is_left after key ≡ true) keys → AllByRecursion (IsLeftCancel after) (map Cancel keys)
cancelled after [] h = tt
cancelled after (k ∷ keys) h = (h.0, cancelled after keys h.1)

pub closes_lawful : (g : Reference) (number : ℕ) (client : Client) → CloseIsLawful g number client
closes_lawful g number client =
    let after : Upstream = folded left g.upstream client.requests in
    record {
      cancels = cancelled after (ascending (filter (is_left after) (flat_map key_of client.requests))) (all_inserted (λ key. is_left after key ≡ true) (filter (is_left after) (flat_map key_of client.requests)) [] tt (filtered (is_left after) (flat_map key_of client.requests)));
      stored = left_stored g.upstream client.requests;
    }
