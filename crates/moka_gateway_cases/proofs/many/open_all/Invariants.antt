-- The gateway stays as it may be used.
use Rattle.moka_gateway.specs.Gateway.{IsUsable}
use Rattle.moka_gateway_cases.proofs.many.open_all.Given as goal

abbrev pub invariant-loop : goal.invariant-loop
invariant-loop l = IsUsable l.gateway
