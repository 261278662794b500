-- Which upstream state the fetches stand for, and the lists whose calls are told what was brought.
use Rattle.std.specs.Prelude.{◌≡◌, ℕ, Bool, true, false, List, Option, Some, nat_eq}
use Rattle.std.specs.HashMap.{get}
use Rattle.std.specs.declared.cmp.PartialEq as PartialEq
use Rattle.std.specs.declared.hash.Hash as Hash
use Rattle.std.specs.declared.result.Result.{Result}
use Rattle.moka_small.specs.declared.outcome.Outcome.{Outcome}
use Rattle.moka_small.specs.declared.outcome.Outcome.TheVariants as outcome
use Rattle.moka_polled.specs.Polled.{IsPolled}
use Rattle.moka_polled.specs.declared.machine.PolledMachine.{PolledMachine}
use Rattle.moka_collapsing.specs.declared.answer.Answer.{Answer}
use Rattle.moka_collapsing.specs.Settling.{HasAnswer, IsAnswered}
use Rattle.moka_collapsing.specs.Standing.{Cache, Serves}
use Rattle.moka_collapsing.specs.Upstream.{Upstream, Waiter}
use Rattle.moka_collapsing.specs.Waiting.{Waiting}
use Rattle.moka_gateway.specs.declared.fetches.Fetches.{Fetches}

-- the fetches stand for this: their cache serves their lists
pub record IsFetches (fetches : Fetches) (u : Upstream) : Type 0 where
  pub small : Cache
  pub polled : IsPolled nat_eq fetches.cache small
  pub serves : Serves small (get nat_eq fetches.lists) u

module _ {same : PartialEq.Ghosts ℕ} {hash : Hash.Ghosts ℕ} where
  -- a poll of the call comes to some answer
  pub record IsAnswering (cache : PolledMachine ℕ ℕ ℕ same hash) (call : ℕ) : Type 0 where
    pub small : Cache
    pub polled : IsPolled nat_eq cache small
    pub given : Answer
    pub has : HasAnswer call given small

  -- the list is one of those that the cache serves
  pub record IsListIn (cache : PolledMachine ℕ ℕ ℕ same hash) (w : Waiting) : Type 0 where
    pub small : Cache
    pub lists : ℕ → Option Waiting
    pub upstream : Upstream
    pub key : ℕ
    pub polled : IsPolled nat_eq cache small
    pub serves : Serves small lists upstream
    pub on : lists key ≡ Some w

  -- the call that asked was answered, and of the others these are left
  pub record IsEnding (cache : PolledMachine ℕ ℕ ℕ same hash) (rest : List Waiter) : Type 0 where
    pub base : Cache
    pub small : Cache
    pub key : ℕ
    pub asking : ℕ
    pub brought : Result ℕ ℕ
    pub polled : IsPolled nat_eq cache small
    pub answered : IsAnswered base small key asking brought rest

  -- of a list that is answered so these are left
  pub record Ends (cache : PolledMachine ℕ ℕ ℕ same hash) (base : Cache) (key asking : ℕ)
      (brought : Result ℕ ℕ) (rest : List Waiter) : Type 0 where
    pub small : Cache
    pub polled : IsPolled nat_eq cache small
    pub answered : IsAnswered base small key asking brought rest

-- what the call of a request may come to
abbrev pub is_of_request : Outcome ℕ ℕ → Bool
is_of_request outcome.Waits = true
is_of_request outcome.Asks = true
is_of_request (outcome.Loaded value fresh) = true
is_of_request outcome.Nothing = false
is_of_request (outcome.Failed error) = false
is_of_request (outcome.Found found) = false
is_of_request outcome.Done = false
is_of_request outcome.Evicted = false
is_of_request outcome.Kept = false
