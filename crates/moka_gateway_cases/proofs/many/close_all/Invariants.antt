-- The gateway stays as it may be used.
use Rattle.moka_gateway.specs.Gateway.{IsUsable}
use Rattle.moka_gateway_cases.proofs.many.close_all.Given as goal

abbrev pub invariant-loop-client : goal.invariant-loop-client
invariant-loop-client l = IsUsable l.gateway
