-- The keys that are left are still looked at.
use Rattle.std.proofs.Common.{◌≡◌, drop, filter}
use Rattle.std.specs.BTreeSet.{insert_key}
use Rattle.std.specs.Ordering.{nat_cmp}
use Rattle.moka_collapsing.specs.Folds.{folded}
use Rattle.moka_collapsing.specs.Reference.{ascending}
use Rattle.moka_collapsing.specs.Upstream.{Upstream, is_left}
use Rattle.moka_gateway.specs.Fetches.{IsFetches}
use Rattle.moka_gateway.proofs.gateway.not_open.Given as goal

abbrev pub invariant-loop-key : goal.invariant-loop-key
invariant-loop-key l =
    (u : Upstream) → IsFetches l.fetches u →
    folded (insert_key nat_cmp) l.left.keys (filter (is_left u) (drop l.key-index l.keys)) ≡ ascending (filter (is_left u) l.keys)
