-- The requests that are left are still to come.
use Rattle.std.proofs.Common.{drop}
use Rattle.moka_collapsing.specs.Folds.{folded}
use Rattle.moka_collapsing.specs.Reference.{Come, comes}
use Rattle.moka_gateway.specs.Folds.{HasCome}
use Rattle.moka_gateway.proofs.Rows.{Coming}
use Rattle.moka_gateway.proofs.gateway.all_come.Given as goal

abbrev pub invariant-loop-request : goal.invariant-loop-request
invariant-loop-request l =
    (c : Come) → HasCome l.fn.fetches l.fn.client l.fn.outs.items c →
    Coming l.fetches l.client l.outs.items l.number (drop l.request-index l.requests) (folded (comes l.number) c l.requests)
