-- What rows of requests, answers and clients come to.
use Rattle.std.specs.Prelude.{◌≡◌, ℕ, List, [], map, flat_map, filter, Option}
use Rattle.moka_requests.specs.Requests.{new_requests, unfinished_after}
use Rattle.moka_collapsing.specs.declared.out.Out.{Out}
use Rattle.moka_collapsing.specs.declared.out.Out.TheVariants.{Fetch}
use Rattle.moka_collapsing.specs.declared.slot.Given.{Given}
use Rattle.moka_collapsing.specs.declared.slot.Slot.{Slot}
use Rattle.moka_collapsing.specs.Clients.{Client}
use Rattle.moka_collapsing.specs.Folds.{folded}
use Rattle.moka_collapsing.specs.Reference.{Come, Sent, ascending, comes, gives, key_of, sends}
use Rattle.moka_collapsing.specs.Upstream.{Upstream, is_left}
use Rattle.moka_gateway.specs.declared.fetches.Fetches.{Fetches}
use Rattle.moka_gateway.specs.Fetches.{IsFetches}

-- ---- a client's requests come

-- what a client's bytes bring about
abbrev pub brought_by : Upstream → ℕ → Client → List ℕ → Come
brought_by u number client bytes =
    folded (comes number)
    (record {
      upstream = u;
      client = record client { unfinished = unfinished_after client.unfinished bytes };
      fetches = [];
    })
    (new_requests client.unfinished bytes)

-- the fetches, the client and what is to be done are what the requests have brought about so far
pub record HasCome (fetches : Fetches) (client : Client) (outs : List Out) (come : Come) : Type 0
  where
    pub stands : IsFetches fetches come.upstream
    pub same : client ≡ come.client
    pub done : outs ≡ map Fetch come.fetches

-- ---- answers are given and sent

-- a request that waited has its answer
abbrev pub gives_one : (ℕ → Option Client) → Given → ℕ → Option Client
gives_one clients it = gives it.answer clients it.place

-- the numbers of the clients that have an answer
abbrev pub clients_of : List Given → List ℕ
clients_of given = ascending (map (λ it. it.place.client) given)

-- the requests have their answers, and their clients are sent what they may be
abbrev pub sent_all : (ℕ → Option Client) → List Given → Sent
sent_all clients given =
    folded sends (record { clients = folded gives_one clients given; outs = [] })
    (clients_of given)

-- ---- requests leave

-- the keys for which some of these waited and for which nobody does any more
abbrev pub left_keys : Upstream → List Slot → List ℕ
left_keys u slots = ascending (filter (is_left u) (flat_map key_of slots))
