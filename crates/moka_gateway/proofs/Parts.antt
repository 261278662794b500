-- The parts of a gateway after each of its calls.
use Rattle.std.proofs.Common.{◌≡◌, ℕ, ◌+◌, ◌-◌, ◌<◌, ◌==◌, cond, List, [], ◌∷◌, ◌++◌, map, true, false, Option, Some, None, refl, sym, ap, ◌∙◌, subst, arith}
use Rattle.std.proofs.lemmas.Bool.{false≢true}
use Rattle.std.specs.Option.{option_map}
use Rattle.std.specs.Prelude.{OnErr}
use Rattle.std.specs.declared.result.Result.{Result}
use Rattle.std.specs.declared.result.Result.TheVariants.{Ok, Err}
use Rattle.moka_hist.specs.Finite.{put_at}
use Rattle.moka_laws.proofs.Counting.{none_some, put_cases}
use Rattle.moka_collapsing.specs.declared.answer.Answer.{Answer}
use Rattle.moka_collapsing.specs.declared.out.Out.{Out}
use Rattle.moka_collapsing.specs.declared.out.Out.TheVariants.{Cancel, Fetch}
use Rattle.moka_collapsing.specs.declared.slot.Given.{Given}
use Rattle.moka_collapsing.specs.declared.slot.Place.{Place}
use Rattle.moka_collapsing.specs.Clients.{Client, due_bytes, flushed}
use Rattle.moka_collapsing.specs.Folds.{folded}
use Rattle.moka_collapsing.specs.Reference.{Reference, Sent, ascending, closes, closes_at, feeds, feeds_at, gives, replies, replies_at, sends, to_client}
use Rattle.moka_collapsing.specs.Upstream.{Waiter, answer_of, given_at, given_to, left, settled, settled_at}
use Rattle.moka_gateway.specs.declared.fetches.Fetches.{Fetches}
use Rattle.moka_gateway.specs.declared.gateway.Gateway.{Gateway}
use Rattle.moka_gateway.specs.Fetches.{IsFetches}
use Rattle.moka_gateway.specs.Folds.{brought_by, clients_of, gives_one, left_keys, sent_all}
use Rattle.moka_gateway.specs.Gateway.{Has, HasParts, IsGateway, IsSpent, IsUsable}

-- ---- a call begins and ends

pub spent_usable : (g : Gateway) → IsSpent g → IsUsable g
spent_usable g spent = λ unspent. absurd (false≢true (sym unspent ∙ spent))

pub on_err : {X Y P : Type 0} (r : Result X Y) → P → OnErr r P
on_err (Ok x) p = tt
on_err (Err e) p = p

module _ (old mid : Gateway) (begun : (old.spent ≡ false) × (mid ≡ record old { spent = true })) where
  pub has_before : (r : Reference) → IsGateway old r → Has mid r
  has_before r is = subst (λ x. Has x r) (sym begun.1) is.has

  pub had_before : IsUsable old → (r : Reference) × Has mid r
  had_before usable = let u = usable begun.0 in (u.0, has_before u.0 u.1)

  -- the call's answer and change are those of the row
  pub carried : {A : Type 0} (answer : A) (row : Reference → A × Reference) (new last : Gateway) →
      ((r : Reference) → Has mid r → (answer ≡ (row r).0) × Has new (row r).1) → last ≡ record new { spent = false } →
      (r : Reference) → IsGateway old r → (answer ≡ (row r).0) × IsGateway last (row r).1
  carried answer row new last is same r g =
      let it = is r (has_before r g) in
      (it.0, subst (λ x. IsGateway x (row r).1) (sym same) (record { unspent = refl; has = it.1 }))

  pub stays_usable : {A : Type 0} (answer : A) (row : Reference → A × Reference) (new last : Gateway) →
      ((r : Reference) → Has mid r → (answer ≡ (row r).0) × Has new (row r).1) → last ≡ record new { spent = false } → IsUsable old → IsUsable last
  stays_usable answer row new last is same usable =
      let u = usable begun.0 in
      λ unspent. ((row u.0).1, (carried answer row new last is same u.0 u.1).1)

  pub still_spent : (new : Gateway) → new.spent ≡ mid.spent → IsSpent new
  still_spent new same = same ∙ ap (λ x. x.spent) begun.1

-- ---- the parts

module _ (fetches : Fetches) (clients : ℕ → Option Client) (count last : ℕ) (g : Reference) (p : HasParts fetches clients count last g) where
  -- a client that is not open
  pub fed_none : (number : ℕ) (bytes : List ℕ) → clients number ≡ None → (None ≡ (feeds g number bytes).0) × HasParts fetches clients count last (feeds g number bytes).1
  fed_none number bytes none =
      subst (λ x. (None ≡ (feeds_at g number x bytes).0) × HasParts fetches clients count last (feeds_at g number x bytes).1)
      (sym none ∙ p.clients number) (refl, p)

  pub closed_none : (number : ℕ) → clients number ≡ None → (None ≡ (closes g number).0) × HasParts fetches clients count last (closes g number).1
  closed_none number none =
      subst (λ x. (None ≡ (closes_at g number x).0) × HasParts fetches clients count last (closes_at g number x).1)
      (sym none ∙ p.clients number) (refl, p)

  -- one that is has another stand
  still_numbered : (number : ℕ) (before : Client) (after : Option Client) → g.clients number ≡ Some before → (n : ℕ) → g.last_client < n →
      put_at g.clients number after n ≡ None
  still_numbered number before after at n above = put_cases g.clients number after n _ (put_at g.clients number after n ≡ None) refl
      (λ same e. absurd (none_some (sym (p.numbered n above) ∙ sym (ap g.clients same) ∙ at)))
      (λ other e. sym e ∙ p.numbered n above)

  pub fed_some : (number : ℕ) (bytes : List ℕ) (client after : Client) → clients number ≡ Some client → (fetches1 : Fetches) (outs : List Out) →
      outs ≡ map Fetch (brought_by g.upstream number client bytes).fetches ++ to_client number (due_bytes (brought_by g.upstream number client bytes).client) →
      IsFetches fetches1 (brought_by g.upstream number client bytes).upstream → after ≡ flushed (brought_by g.upstream number client bytes).client →
      (clients1 : ℕ → Option Client) → ((k : ℕ) → clients1 k ≡ put_at clients number (Some after) k) → (count1 : ℕ) → count1 ≡ count →
      (Some outs ≡ (feeds g number bytes).0) × HasParts fetches1 clients1 count1 last (feeds g number bytes).1
  fed_some number bytes client after here fetches1 outs out f1 after_is clients1 put count1 same =
      let at = sym (p.clients number) ∙ here in
      subst (λ x. (Some outs ≡ (feeds_at g number x bytes).0) × HasParts fetches1 clients1 count1 last (feeds_at g number x bytes).1) (sym at) (
        ap Some out,
        record {
          fetches = f1;
          clients = λ k. put k ∙ ap (λ x. put_at clients number (Some x) k) after_is ∙ ap (λ x. cond (number == k) (Some (flushed (brought_by g.upstream number client bytes).client)) x) (p.clients k);
          count = same ∙ p.count;
          last = p.last;
          numbered = still_numbered number client (Some (flushed (brought_by g.upstream number client bytes).client)) at;
        },
      )

  pub closed_some : (number : ℕ) (client : Client) → clients number ≡ Some client → (fetches1 : Fetches) (outs : List Out) →
      outs ≡ map Cancel (left_keys (folded left g.upstream client.requests) client.requests) → IsFetches fetches1 (folded left g.upstream client.requests) →
      (clients1 : ℕ → Option Client) → ((k : ℕ) → clients1 k ≡ put_at clients number None k) → (count1 : ℕ) → count1 + 1 ≡ count →
      (Some outs ≡ (closes g number).0) × HasParts fetches1 clients1 count1 last (closes g number).1
  closed_some number client here fetches1 outs out f1 clients1 put count1 less =
      let at = sym (p.clients number) ∙ here in
      subst (λ x. (Some outs ≡ (closes_at g number x).0) × HasParts fetches1 clients1 count1 last (closes_at g number x).1) (sym at) (
        ap Some out,
        record {
          fetches = f1;
          clients = λ k. put k ∙ ap (λ x. cond (number == k) None x) (p.clients k);
          count = fewer count count1 g.open_clients less p.count;
          last = p.last;
          numbered = still_numbered number client None at;
        },
      )
    where
      fewer : (a b n : ℕ) → b + 1 ≡ a → a ≡ n → b ≡ n - 1
      fewer a b n e f = omega arith

  -- nobody waits
  pub replied_none : (key : ℕ) (brought : Result ℕ ℕ) → None ≡ given_at (answer_of brought) (g.upstream.waiting key) → (fetches1 : Fetches) →
      IsFetches fetches1 (settled g.upstream key (answer_of brought)) →
      (None ≡ (replies g key brought).0) × HasParts fetches1 clients count last (replies g key brought).1
  replied_none key brought none fetches1 f1 = by (g.upstream.waiting key) none f1
    where
      by : (ws : List Waiter) → None ≡ given_at (answer_of brought) ws → IsFetches fetches1 (settled_at g.upstream key (answer_of brought) ws) →
          (None ≡ (replies_at g key (answer_of brought) ws).0) × HasParts fetches1 clients count last (replies_at g key (answer_of brought) ws).1
      by [] e f = (refl, record { fetches = f; clients = p.clients; count = p.count; last = p.last; numbered = p.numbered })
      by (w ∷ ws) e f = absurd (none_some e)

-- ---- answers are given

all_given : (answer : Answer) (cs : ℕ → Option Client) → (ws : List Waiter) → folded gives_one cs (map (given_to answer) ws) ≡ folded (gives answer) cs (map (λ w. w.1) ws)
all_given answer cs [] = refl
all_given answer cs (w ∷ ws) = all_given answer (gives answer cs w.1) ws

all_clients : (answer : Answer) (ws : List Waiter) → map (λ (it : Given). it.place.client) (map (given_to answer) ws) ≡ map (λ (place : Place). place.client) (map (λ (w : Waiter). w.1) ws)
all_clients answer [] = refl
all_clients answer (w ∷ ws) = ap (λ l. w.1.client ∷ l) (all_clients answer ws)

-- nobody is opened by it
opens_none : {A : Type 0} (f : ℕ → Option A) (number n : ℕ) (h : A → A) → f n ≡ None → put_at f number (option_map h (f number)) n ≡ None
opens_none f number n h none = put_cases f number (option_map h (f number)) n _ (put_at f number (option_map h (f number)) n ≡ None) refl
    (λ same e. sym e ∙ ap (λ x. option_map h x) (ap f same ∙ none))
    (λ other e. sym e ∙ none)

given_none : (cs : ℕ → Option Client) → (given : List Given) (n : ℕ) → cs n ≡ None → folded gives_one cs given n ≡ None
given_none cs [] n none = none
given_none cs (it ∷ given) n none = given_none (gives_one cs it) given n (opens_none cs it.place.client n _ none)

sent_none : (s : Sent) → (numbers : List ℕ) (n : ℕ) → s.clients n ≡ None → (folded sends s numbers).clients n ≡ None
sent_none s [] n none = none
sent_none s (number ∷ numbers) n none = sent_none (sends s number) numbers n (opens_none s.clients number n flushed none)

module _ (fetches : Fetches) (clients : ℕ → Option Client) (count last : ℕ) (g : Reference) (p : HasParts fetches clients count last g) where
  pub replied_some : (key : ℕ) (brought : Result ℕ ℕ) (given : List Given) → Some given ≡ given_at (answer_of brought) (g.upstream.waiting key) → (fetches1 : Fetches) →
      IsFetches fetches1 (settled g.upstream key (answer_of brought)) → (outs : List Out) → outs ≡ (sent_all g.clients given).outs →
      (clients1 : ℕ → Option Client) → ((n : ℕ) → clients1 n ≡ (sent_all g.clients given).clients n) → (count1 : ℕ) → count1 ≡ count →
      (Some outs ≡ (replies g key brought).0) × HasParts fetches1 clients1 count1 last (replies g key brought).1
  replied_some key brought given some fetches1 f1 outs out clients1 sent count1 same = by (g.upstream.waiting key) some f1
    where
      by : (ws : List Waiter) → Some given ≡ given_at (answer_of brought) ws → IsFetches fetches1 (settled_at g.upstream key (answer_of brought) ws) →
          (Some outs ≡ (replies_at g key (answer_of brought) ws).0) × HasParts fetches1 clients1 count1 last (replies_at g key (answer_of brought) ws).1
      by [] e f = absurd (none_some (sym e))
      by (w ∷ ws) e f = (
        ap Some (out ∙ ap (λ s. s.outs) is),
        record {
          fetches = f;
          clients = λ n. sent n ∙ ap (λ s. s.clients n) is;
          count = same ∙ p.count;
          last = p.last;
          numbered = λ n above. sym (ap (λ s. s.clients n) is)
              ∙ sent_none (record { clients = folded gives_one g.clients given; outs = [] }) (clients_of given) n (given_none g.clients given n (p.numbered n above));
        },
      )
        where
          given_is : given ≡ map (given_to (answer_of brought)) (w ∷ ws)
          given_is = cc

          whole : List Waiter
          whole = w ∷ ws

          is : sent_all g.clients given ≡ folded sends (record { clients = folded (gives (answer_of brought)) g.clients (map (λ w. w.1) whole); outs = [] }) (ascending (map (λ place. place.client) (map (λ w. w.1) whole)))
          is = ap (sent_all g.clients) given_is
              ∙ ap (λ f. folded sends (record { clients = f; outs = [] }) (ascending (map (λ it. it.place.client) (map (given_to (answer_of brought)) whole)))) (all_given (answer_of brought) g.clients whole)
              ∙ ap (λ l. folded sends (record { clients = folded (gives (answer_of brought)) g.clients (map (λ w. w.1) whole); outs = [] }) (ascending l)) (all_clients (answer_of brought) whole)
