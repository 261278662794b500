-- Rows of requests, answers and clients, one after the other.
use Rattle.std.proofs.Common.{◌≡◌, ℕ, ◌+◌, ◌<◌, ◌≤◌, ◌==◌, cond, List, [], ◌∷◌, ◌++◌, map, drop, length, get_or, Option, refl, sym, ap, ◌∙◌, subst, arith}
use Rattle.std.proofs.lemmas.List.{append-nil, at_drop_all, at_drop_more, map-append}
use Rattle.std.specs.Option.{option_map, option_map_or, option_to_list}
use Rattle.moka_requests.specs.declared.request.Request.{Request}
use Rattle.moka_requests.specs.declared.request.Request.TheVariants.{Get, Bad}
use Rattle.moka_collapsing.specs.declared.answer.Answer.TheVariants as answer
use Rattle.moka_collapsing.specs.declared.out.Out.{Out}
use Rattle.moka_collapsing.specs.declared.out.Out.TheVariants.{Fetch, To}
use Rattle.moka_collapsing.specs.declared.slot.Asked.{Asked}
use Rattle.moka_collapsing.specs.declared.slot.Given.{Given}
use Rattle.moka_collapsing.specs.declared.slot.Place.{Place}
use Rattle.moka_collapsing.specs.declared.slot.Slot.{Slot}
use Rattle.moka_collapsing.specs.declared.slot.Slot.TheVariants.{Answered}
use Rattle.moka_collapsing.specs.Clients.{Client, due_bytes, flushed, made, with_answer, with_request}
use Rattle.moka_collapsing.specs.Folds.{folded}
use Rattle.moka_collapsing.specs.Reference.{Come, Sent, comes, due_to, sends, sent_to, to_client}
use Rattle.moka_collapsing.specs.Upstream.{Upstream, asked, left}
use Rattle.moka_gateway.specs.declared.fetches.Fetches.{Fetches}
use Rattle.moka_gateway.specs.Fetches.{IsFetches}
use Rattle.moka_requests.specs.Requests.{new_requests, unfinished_after}
use Rattle.moka_gateway.specs.Folds.{HasCome, brought_by, gives_one}

-- ---- requests come

-- of a row these are still to come
pub record Coming (fetches : Fetches) (client : Client) (outs : List Out) (number : ℕ) (rest : List Request) (whole : Come) : Type 0 where
  pub come : Come
  pub has : HasCome fetches client outs come
  pub comes : folded (comes number) come rest ≡ whole

-- one request more has come
pub one_come : (requests : List Request) (i : ℕ) (d : Request) → i < length requests → (number : ℕ) (old new : Fetches) (client client1 : Client) (outs outs1 : List Out) (whole : Come) →
    ((c : Come) → HasCome old client outs c → HasCome new client1 outs1 (comes number c (get_or requests i d))) →
    Coming old client outs number (drop i requests) whole → Coming new client1 outs1 number (drop (i + 1) requests) whole
one_come requests i d within number old new client client1 outs outs1 whole is g = record {
  come = comes number g.come (get_or requests i d);
  has = is g.come g.has;
  comes = sym (at_drop_more (λ l. folded (comes number) g.come l) requests i d within) ∙ g.comes;
}

-- all have
pub all_came : (requests : List Request) (i : ℕ) → length requests ≤ i → (number : ℕ) (fetches : Fetches) (client : Client) (outs : List Out) (whole : Come) →
    Coming fetches client outs number (drop i requests) whole → HasCome fetches client outs whole
all_came requests i all number fetches client outs whole g =
    subst (λ c. HasCome fetches client outs c) (sym (at_drop_all (λ l. folded (comes number) g.come l) requests i all) ∙ g.comes) g.has

pub come_bad : (fetches : Fetches) (client new : Client) (outs : List Out) (c : Come) (number : ℕ) → HasCome fetches client outs c →
    new ≡ with_request client (Answered answer.Bad) → HasCome fetches new outs (comes number c Bad)
come_bad fetches client new outs c number h e = record {
  stands = h.stands;
  same = e ∙ ap (λ x. with_request x (Answered answer.Bad)) h.same;
  done = h.done;
}

pub come_get : (fetches : Fetches) (client new : Client) (outs outs1 : List Out) (c : Come) (number key index : ℕ) (place : Place) (a : Asked) → client ≡ c.client →
    outs ≡ map Fetch c.fetches → index ≡ made client → place ≡ record { client = number; index = index } →
    (a ≡ (asked c.upstream key place).0) × IsFetches fetches (asked c.upstream key place).1 →
    new ≡ with_request client a.slot → outs1 ≡ outs ++ map Fetch (option_to_list a.fetch) → HasCome fetches new outs1 (comes number c (Get key))
come_get fetches client new outs outs1 c number key index place a same before at here is with_it more =
    let place_is : place ≡ record { client = number; index = made c.client } =
    here ∙ ap (λ i. record { client = number; index = i }) (at ∙ ap made same) in
    let a_is = is.0 ∙ ap (λ p. (asked c.upstream key p).0) place_is in
    record {
      stands = subst (λ p. IsFetches fetches (asked c.upstream key p).1) place_is is.1;
      same = with_it ∙ ap (λ x. with_request x a.slot) same ∙ ap (λ x. with_request c.client x.slot) a_is;
      done = more ∙ ap (λ x. x ++ map Fetch (option_to_list a.fetch)) before
          ∙ sym (map-append Fetch c.fetches (option_to_list a.fetch)) ∙ ap (λ x. map Fetch (c.fetches ++ option_to_list x.fetch)) a_is;
    }

-- those that are due at a client's bytes
abbrev pub at_first : Upstream → Client → List ℕ → Come
at_first u client bytes = record { upstream = u; client = record client { unfinished = unfinished_after client.unfinished bytes }; fetches = [] }

pub first_has : (fetches : Fetches) (u : Upstream) (client read : Client) (outs : List Out) (bytes : List ℕ) → IsFetches fetches u →
    read ≡ record client { unfinished = unfinished_after client.unfinished bytes } → outs ≡ [] → HasCome fetches read outs (at_first u client bytes)
first_has fetches u client read outs bytes f is none = record { stands = f; same = is; done = none }

pub all_brought : (fetches : Fetches) (u : Upstream) (client new : Client) (outs : List Out) (bytes : List ℕ) (number : ℕ) (requests : List Request) →
    requests ≡ new_requests client.unfinished bytes → HasCome fetches new outs (folded (comes number) (at_first u client bytes) requests) →
    HasCome fetches new outs (brought_by u number client bytes)
all_brought fetches u client new outs bytes number requests is h = subst (λ l. HasCome fetches new outs (folded (comes number) (at_first u client bytes) l)) is h

-- all at once
pub came_so : (before after : Fetches) (u : Upstream) (client read new : Client) (outs0 outs : List Out) (bytes : List ℕ) (number : ℕ) (requests : List Request) → IsFetches before u →
    read ≡ record client { unfinished = unfinished_after client.unfinished bytes } → outs0 ≡ [] → requests ≡ new_requests client.unfinished bytes →
    ((c : Come) → HasCome before read outs0 c → HasCome after new outs (folded (comes number) c requests)) →
    HasCome after new outs (brought_by u number client bytes)
came_so before after u client read new outs0 outs bytes number requests f is none all come =
    all_brought after u client new outs bytes number requests all (come (at_first u client bytes) (first_has before u client read outs0 bytes f is none))

pub outs_brought : (fetches : Fetches) (client : Client) (outs outs1 : List Out) (number : ℕ) (whole : Come) → HasCome fetches client outs whole →
    outs1 ≡ outs ++ to_client number (due_bytes client) → outs1 ≡ map Fetch whole.fetches ++ to_client number (due_bytes whole.client)
outs_brought fetches client outs outs1 number whole h more =
    more ∙ ap (λ l. l ++ to_client number (due_bytes client)) h.done ∙ ap (λ c. map Fetch whole.fetches ++ to_client number (due_bytes c)) h.same

-- ---- what is sent

some_sent : (number : ℕ) (bytes : List ℕ) → 0 < length bytes → To number bytes ∷ [] ≡ to_client number bytes
some_sent number [] h = absurd (omega (arith, h))
some_sent number (b ∷ bytes) h = refl

pub to_some : (outs : List Out) (number : ℕ) (bytes due : List ℕ) → bytes ≡ due → 0 < length bytes → outs ++ To number bytes ∷ [] ≡ outs ++ to_client number due
to_some outs number bytes due same some = ap (λ l. outs ++ l) (some_sent number bytes some ∙ ap (to_client number) same)

pub to_none : (outs : List Out) (number : ℕ) (bytes due : List ℕ) → bytes ≡ due → bytes ≡ [] → outs ≡ outs ++ to_client number due
to_none outs number bytes due same none = sym (append-nil outs) ∙ ap (λ l. outs ++ to_client number l) (sym none ∙ same)

-- ---- answers are given

pub record Giving (now : ℕ → Option Client) (rest : List Given) (whole : ℕ → Option Client) : Type 0 where
  pub mid : ℕ → Option Client
  pub same : (n : ℕ) → now n ≡ mid n
  pub comes : folded gives_one mid rest ≡ whole

gives_like : (it : Given) (f g : ℕ → Option Client) → ((n : ℕ) → f n ≡ g n) → (n : ℕ) → gives_one f it n ≡ gives_one g it n
gives_like it f g same n =
    ap (λ x. cond (it.place.client == n) (option_map (λ client. with_answer client it.place.index it.answer) x) (f n)) (same it.place.client)
    ∙ ap (λ y. cond (it.place.client == n) (option_map (λ client. with_answer client it.place.index it.answer) (g it.place.client)) y) (same n)

pub one_given : (given : List Given) (i : ℕ) (d : Given) → i < length given → (old new whole : ℕ → Option Client) →
    ((n : ℕ) → new n ≡ gives_one old (get_or given i d) n) → Giving old (drop i given) whole → Giving new (drop (i + 1) given) whole
one_given given i d within old new whole is g = record {
  mid = gives_one g.mid (get_or given i d);
  same = λ n. is n ∙ gives_like (get_or given i d) old g.mid g.same n;
  comes = sym (at_drop_more (λ l. folded gives_one g.mid l) given i d within) ∙ g.comes;
}

pub giving_done : (now : ℕ → Option Client) (given : List Given) (i : ℕ) (whole : ℕ → Option Client) → length given ≤ i → Giving now (drop i given) whole → (n : ℕ) → now n ≡ whole n
giving_done now given i whole all g n = g.same n ∙ ap (λ f. f n) (sym (at_drop_all (λ l. folded gives_one g.mid l) given i all) ∙ g.comes)

-- ---- clients are sent what is due

pub record Sending (now : ℕ → Option Client) (outs : List Out) (rest : List ℕ) (whole : Sent) : Type 0 where
  pub mid : Sent
  pub same : (n : ℕ) → now n ≡ mid.clients n
  pub done : outs ≡ mid.outs
  pub comes : folded sends mid rest ≡ whole

pub one_sent : (old new : ℕ → Option Client) (outs outs1 : List Out) (number : ℕ) (rest all : List ℕ) (whole : Sent) → all ≡ number ∷ rest →
    ((n : ℕ) → new n ≡ sent_to old number n) → outs1 ≡ outs ++ due_to old number → Sending old outs all whole → Sending new outs1 rest whole
one_sent old new outs outs1 number rest all whole first is more s = record {
  mid = sends s.mid number;
  same = λ n. is n
      ∙ ap (λ x. cond (number == n) (option_map flushed x) (old n)) (s.same number)
      ∙ ap (λ y. cond (number == n) (option_map flushed (s.mid.clients number)) y) (s.same n);
  done = more ∙ ap (λ x. x ++ due_to old number) s.done ∙ ap (λ x. s.mid.outs ++ to_client number (option_map_or due_bytes x [])) (s.same number);
  comes = sym (ap (λ l. folded sends s.mid l) first) ∙ s.comes;
}

pub sending_done : (now : ℕ → Option Client) (outs : List Out) (rest : List ℕ) (whole : Sent) → rest ≡ [] → Sending now outs rest whole →
    (outs ≡ whole.outs) × ((n : ℕ) → now n ≡ whole.clients n)
sending_done now outs rest whole none s =
    let is = sym (ap (λ l. folded sends s.mid l) none) ∙ s.comes in
    (s.done ∙ ap (λ x. x.outs) is, λ n. s.same n ∙ ap (λ x. x.clients n) is)

-- ---- requests leave

pub record Leaving (fetches : Fetches) (rest : List Slot) (whole : Upstream) : Type 0 where
  pub mid : Upstream
  pub stands : IsFetches fetches mid
  pub comes : folded left mid rest ≡ whole

pub one_left : (old new : Fetches) (slot : Slot) (rest all : List Slot) (whole : Upstream) → all ≡ slot ∷ rest →
    ((u : Upstream) → IsFetches old u → IsFetches new (left u slot)) → Leaving old all whole → Leaving new rest whole
one_left old new slot rest all whole first is l = record {
  mid = left l.mid slot;
  stands = is l.mid l.stands;
  comes = sym (ap (λ x. folded left l.mid x) first) ∙ l.comes;
}

pub leaving_done : (fetches : Fetches) (rest : List Slot) (whole : Upstream) → rest ≡ [] → Leaving fetches rest whole → IsFetches fetches whole
leaving_done fetches rest whole none l = subst (IsFetches fetches) (sym (ap (λ x. folded left l.mid x) none) ∙ l.comes) l.stands
