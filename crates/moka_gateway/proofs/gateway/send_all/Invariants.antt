-- The clients that are left are still sent what is due.
use Rattle.std.proofs.Common.{◌≡◌, ℕ, Option, [], length, nat_eq}
use Rattle.std.specs.HashMap.{get, hash_map_len}
use Rattle.moka_collapsing.specs.Clients.{Client}
use Rattle.moka_collapsing.specs.Folds.{folded}
use Rattle.moka_collapsing.specs.Reference.{sends}
use Rattle.moka_gateway.proofs.Rows.{Sending}
use Rattle.moka_gateway.proofs.gateway.send_all.Given as goal

abbrev pub invariant-loop-number : goal.invariant-loop-number
invariant-loop-number l =
    record {
      sent : (cs : ℕ → Option Client) → ((n : ℕ) → get nat_eq l.fn.clients n ≡ cs n) →
          Sending (get nat_eq l.clients) l.outs.items l.numbers.keys (folded sends (record { clients = cs; outs = [] }) l.fn.numbers.keys);
      count : hash_map_len l.clients ≡ hash_map_len l.fn.clients;
    }

abbrev pub decreases-loop-number : goal.decreases-loop-number
decreases-loop-number l = length l.numbers.keys
