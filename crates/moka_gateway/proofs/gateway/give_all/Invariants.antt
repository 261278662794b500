-- The requests that are left still get their answers.
use Rattle.std.proofs.Common.{◌≡◌, ℕ, Option, drop, map, nat_eq}
use Rattle.std.specs.BTreeSet.{insert_key}
use Rattle.std.specs.HashMap.{get, hash_map_len}
use Rattle.std.specs.Ordering.{nat_cmp}
use Rattle.moka_collapsing.specs.Clients.{Client}
use Rattle.moka_collapsing.specs.Folds.{folded}
use Rattle.moka_gateway.specs.Folds.{clients_of, gives_one}
use Rattle.moka_gateway.proofs.Rows.{Giving}
use Rattle.moka_gateway.proofs.gateway.give_all.Given as goal

abbrev pub invariant-loop-it : goal.invariant-loop-it
invariant-loop-it l =
    record {
      numbers : folded (insert_key nat_cmp) l.numbers.keys (map (λ it. it.place.client) (drop l.it-index l.given)) ≡ clients_of l.given;
      given : (cs : ℕ → Option Client) → ((n : ℕ) → get nat_eq l.fn.clients n ≡ cs n) →
          Giving (get nat_eq l.clients) (drop l.it-index l.given) (folded gives_one cs l.given);
      count : hash_map_len l.clients ≡ hash_map_len l.fn.clients;
    }
