-- The requests that are left have still to leave.
use Rattle.std.proofs.Common.{◌≡◌, ◌++◌, length, flat_map}
use Rattle.moka_collapsing.specs.Folds.{folded}
use Rattle.moka_collapsing.specs.Reference.{key_of}
use Rattle.moka_collapsing.specs.Upstream.{Upstream, left}
use Rattle.moka_gateway.specs.Fetches.{IsFetches}
use Rattle.moka_gateway.proofs.Rows.{Leaving}
use Rattle.moka_gateway.proofs.gateway.leave_all.Given as goal

abbrev pub invariant-loop-slot : goal.invariant-loop-slot
invariant-loop-slot l =
    record {
      keys : l.keys.items ++ flat_map key_of l.slots.items ≡ flat_map key_of l.fn.slots.items;
      left : (u : Upstream) → IsFetches l.fn.fetches u → Leaving l.fetches l.slots.items (folded left u l.fn.slots.items);
    }

abbrev pub decreases-loop-slot : goal.decreases-loop-slot
decreases-loop-slot l = length l.slots.items
