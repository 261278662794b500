-- The cache is empty, and no list stands.
use Rattle.std.proofs.Common.{◌≡◌, ℕ, nat_eq, None, refl}
use Rattle.std.specs.HashMap.{get}
use Rattle.moka_small.specs.Small.{empty}
use Rattle.moka_gateway.proofs.Beginning.{serves_none}
use Rattle.moka_gateway.proofs.fetches.Fetches.new.Goals as goal

pub returns : goal.returns
returns c =
    let none : (k : ℕ) → get nat_eq c.new-2.result k ≡ None = λ k. rw c.new-2.ensures.empty refl in
    record { small = empty None; polled = c.in_ok-new.ensures.empty; serves = serves_none (get nat_eq c.new-2.result) none }
