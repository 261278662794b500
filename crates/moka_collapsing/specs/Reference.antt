-- The reference gateway.
use Rattle.std.specs.Prelude.{ℕ, ◌+◌, ◌-◌, ◌==◌, cond, List, [], ◌∷◌, ◌++◌, map, flat_map, filter, Option, Some, None, Result}
use Rattle.std.specs.Option.{option_map, option_map_or, option_to_list}
use Rattle.std.specs.Ordering.{nat_cmp}
use Rattle.std.specs.BTreeSet.{insert_key}
use Rattle.moka_hist.specs.Finite.{put_at}
use Rattle.moka_requests.specs.Requests.{new_requests, unfinished_after}
use Rattle.moka_requests.specs.declared.request.Request.{Request}
use Rattle.moka_requests.specs.declared.request.Request.TheVariants.{Get, Bad}
use Rattle.moka_collapsing.specs.declared.answer.Answer.{Answer}
use Rattle.moka_collapsing.specs.declared.answer.Answer.TheVariants as answer
use Rattle.moka_collapsing.specs.declared.out.Out.{Out}
use Rattle.moka_collapsing.specs.declared.out.Out.TheVariants.{Fetch, Cancel, To}
use Rattle.moka_collapsing.specs.declared.slot.Asked.{Asked}
use Rattle.moka_collapsing.specs.declared.slot.Place.{Place}
use Rattle.moka_collapsing.specs.declared.slot.Slot.{Slot}
use Rattle.moka_collapsing.specs.declared.slot.Slot.TheVariants.{Waits, Answered}
use Rattle.moka_collapsing.specs.Clients.{Client, due_bytes, flushed, made, new_client, with_answer, with_request}
use Rattle.moka_collapsing.specs.Folds.{folded}
use Rattle.moka_collapsing.specs.Upstream.{Upstream, Waiter, answer_of, asked, ended, is_left, left, no_requests}

pub record Reference : Type 0 where
  -- what is stored by key, and which requests wait for an open upstream request
  pub upstream : Upstream
  -- the clients that are open, by their numbers
  pub clients : ℕ → Option Client
  -- how many are open, and the number of the last that was opened
  pub open_clients : ℕ
  pub last_client : ℕ

-- a gateway that has no client and has stored nothing
abbrev pub fresh : Reference
fresh =
    record {
      upstream = no_requests;
      clients = λ client. None;
      open_clients = 0;
      last_client = 0;
    }

-- the numbers, each once, ascending
abbrev pub ascending : List ℕ → List ℕ
ascending numbers = folded (insert_key nat_cmp) [] numbers

-- what is to be sent to a client: nothing where it has no new bytes
abbrev pub to_client : ℕ → List ℕ → List Out
to_client number [] = []
to_client number (byte ∷ bytes) = To number (byte ∷ bytes) ∷ []

-- ---- opening a client

-- so many clients may be open at once
abbrev pub most_clients : ℕ
most_clients = 1000

abbrev pub with_client : Reference → Reference
with_client g =
    record g {
      clients = put_at g.clients (g.last_client + 1) (Some new_client);
      open_clients = g.open_clients + 1;
      last_client = g.last_client + 1;
    }

abbrev pub opens : Reference → Option ℕ × Reference
opens g =
    cond (g.open_clients == most_clients) (None, g) (Some (g.last_client + 1), with_client g)

-- ---- feeding a client

-- what a client's requests have brought about so far
pub record Come : Type 0 where
  pub upstream : Upstream
  pub client : Client
  pub fetches : List ℕ

-- a request of the client of this number comes
abbrev pub comes : ℕ → Come → Request → Come
comes number c Bad = record c { client = with_request c.client (Answered answer.Bad) }
comes number c (Get key) =
    let place : Place = record { client = number; index = made c.client } in
    let it : Asked × Upstream = asked c.upstream key place in
    record {
      upstream = it.1;
      client = with_request c.client it.0.slot;
      fetches = c.fetches ++ option_to_list it.0.fetch;
    }

-- the requests come that are due at these bytes
abbrev pub all_come : Reference → ℕ → Client → List ℕ → Come
all_come g number client bytes =
    let rest : Client = record client { unfinished = unfinished_after client.unfinished bytes } in
    folded (comes number) (record { upstream = g.upstream; client = rest; fetches = [] })
    (new_requests client.unfinished bytes)

abbrev pub fed : Reference → ℕ → Come → Option (List Out) × Reference
fed g number come = (
  Some (map Fetch come.fetches ++ to_client number (due_bytes come.client)),
  record g {
    upstream = come.upstream;
    clients = put_at g.clients number (Some (flushed come.client));
  },
)

abbrev pub feeds_at : Reference → ℕ → Option Client → List ℕ → Option (List Out) × Reference
feeds_at g number None bytes = (None, g)
feeds_at g number (Some client) bytes = fed g number (all_come g number client bytes)

abbrev pub feeds : Reference → ℕ → List ℕ → Option (List Out) × Reference
feeds g number bytes = feeds_at g number (g.clients number) bytes

-- ---- the upstream request of a key brings something

-- a request that waited has this answer
abbrev pub gives : Answer → (ℕ → Option Client) → Place → ℕ → Option Client
gives answer clients place =
    put_at clients place.client
    (option_map (λ client. with_answer client place.index answer) (clients place.client))

-- what may be sent to the client of this number, and the clients once it is
abbrev pub due_to : (ℕ → Option Client) → ℕ → List Out
due_to clients number =
    to_client number (option_map_or due_bytes (clients number) [])

abbrev pub sent_to : (ℕ → Option Client) → ℕ → ℕ → Option Client
sent_to clients number = put_at clients number (option_map flushed (clients number))

-- one client after the other is sent what is due
pub record Sent : Type 0 where
  pub clients : ℕ → Option Client
  pub outs : List Out

abbrev pub sends : Sent → ℕ → Sent
sends s number =
    record { clients = sent_to s.clients number; outs = s.outs ++ due_to s.clients number }

-- the requests that waited have this answer, and their clients are sent what they may be, by
-- ascending number
abbrev pub replied : Reference → ℕ → Answer → List Place → Option (List Out) × Reference
replied g key answer places =
    let given : ℕ → Option Client = folded (gives answer) g.clients places in
    let numbers : List ℕ = ascending (map (λ place. place.client) places) in
    let sent : Sent = folded sends (record { clients = given; outs = [] }) numbers in (
      Some sent.outs,
      record g { upstream = ended g.upstream key answer; clients = sent.clients },
    )

abbrev pub replies_at : Reference → ℕ → Answer → List Waiter → Option (List Out) × Reference
replies_at g key answer [] = (None, g)
replies_at g key answer (waiter ∷ waiters) =
    replied g key answer (map (λ w. w.1) (waiter ∷ waiters))

abbrev pub replies : Reference → ℕ → Result ℕ ℕ → Option (List Out) × Reference
replies g key brought = replies_at g key (answer_of brought) (g.upstream.waiting key)

-- ---- closing a client

-- the keys for which a client's requests wait
abbrev pub key_of : Slot → List ℕ
key_of (Waits key number) = key ∷ []
key_of (Answered answer) = []

-- the client's requests leave the lists, and the upstream requests are given up for which nobody
-- waits any more
abbrev pub closed : Reference → ℕ → Client → Option (List Out) × Reference
closed g number client =
    let after : Upstream = folded left g.upstream client.requests in (
      Some (map Cancel (ascending (filter (is_left after) (flat_map key_of client.requests)))),
      record g {
        upstream = after;
        clients = put_at g.clients number None;
        open_clients = g.open_clients - 1;
      },
    )

abbrev pub closes_at : Reference → ℕ → Option Client → Option (List Out) × Reference
closes_at g number None = (None, g)
closes_at g number (Some client) = closed g number client

abbrev pub closes : Reference → ℕ → Option (List Out) × Reference
closes g number = closes_at g number (g.clients number)
