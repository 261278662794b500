-- It has what the fresh reference gateway has.
use Rattle.std.proofs.Common.{◌≡◌, ℕ, nat_eq, None, refl}
use Rattle.std.specs.HashMap.{get}
use Rattle.moka_gateway.proofs.gateway.Gateway.build.Goals as goal

pub returns : goal.returns
returns c =
    let none : (k : ℕ) → get nat_eq c.new-2.result k ≡ None = λ k. rw c.new-2.ensures.empty refl in
    record {
      unspent = refl;
      has = record {
        fetches = c.in_ok-new.ensures;
        clients = none;
        count = rw c.new-2.ensures.len refl;
        last = refl;
        numbered = λ number later. refl;
      };
    }
