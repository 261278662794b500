-- Those that are left wait on.
use Rattle.std.proofs.Common.{◌≡◌, ◌++◌, length, map}
use Rattle.moka_collapsing.specs.Upstream.{answer_of, given_to}
use Rattle.moka_gateway.specs.Fetches.{Ends, IsEnding}
use Rattle.moka_gateway.proofs.fetches.answer_rest.Given as goal

abbrev pub invariant-loop-number : goal.invariant-loop-number
invariant-loop-number l =
    (s : IsEnding l.fn.cache l.fn.rest.entries) →
    Ends l.cache s.base s.key s.asking s.brought l.rest.entries
    × (l.given.items ++ map (given_to (answer_of s.brought)) l.rest.entries ≡ l.fn.given.items ++ map (given_to (answer_of s.brought)) l.fn.rest.entries)

abbrev pub decreases-loop-number : goal.decreases-loop-number
decreases-loop-number l = length l.rest.entries
