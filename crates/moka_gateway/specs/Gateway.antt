-- Which reference gateway a gateway stands for.
use Rattle.std.specs.Prelude.{◌≡◌, ◌<◌, ℕ, false, true, List, Option, None, nat_eq}
use Rattle.std.specs.HashMap.{get, hash_map_len}
use Rattle.moka_gateway.specs.declared.gateway.Gateway.{Gateway}
use Rattle.moka_collapsing.specs.Clients.{Client}
use Rattle.moka_collapsing.specs.Reference.{Reference}
use Rattle.moka_collapsing.specs.Runs.{Event, run_of}
use Rattle.moka_collapsing.specs.Served.{IsServed}
use Rattle.moka_gateway.specs.declared.fetches.Fetches.{Fetches}
use Rattle.moka_gateway.specs.Fetches.{IsFetches}

-- part by part these are what the reference gateway has; no number is given out that a client has
pub record HasParts (all : Fetches) (open_now : ℕ → Option Client) (many given_out : ℕ)
    (reference : Reference) : Type 0 where
  pub fetches : IsFetches all reference.upstream
  pub clients : (number : ℕ) → open_now number ≡ reference.clients number
  pub count : many ≡ reference.open_clients
  pub last : given_out ≡ reference.last_client
  pub numbered : (number : ℕ) → reference.last_client < number → reference.clients number ≡ None

-- the gateway has the parts of the reference gateway
abbrev pub Has : Gateway → Reference → Type 0
Has gateway reference =
    HasParts gateway.fetches (get nat_eq gateway.clients) (hash_map_len gateway.clients)
    gateway.last_client reference

-- the gateway stands for the reference gateway: memory was never wanting, and part by part it has
-- what the other has
pub record IsGateway (gateway : Gateway) (reference : Reference) : Type 0 where
  pub unspent : gateway.spent ≡ false
  pub has : Has gateway reference

-- memory was wanting: the gateway answers that from then on
abbrev pub IsSpent : Gateway → Type 0
IsSpent gateway = gateway.spent ≡ true

-- unless it is spent it stands for a reference gateway
abbrev pub IsUsable : Gateway → Type 0
IsUsable gateway = gateway.spent ≡ false → (reference : Reference) × IsGateway gateway reference

-- The gateway was new, and then these events have happened to it: it stands for what they come to,
-- and its clients are served.
pub record IsAfter (gateway : Gateway) (events : List Event) : Type 0 where
  pub stands : IsGateway gateway (run_of events).gateway
  pub served : IsServed events
