-- The gateway stays as it may be used.
use Rattle.moka_gateway.specs.Gateway.{IsUsable}
use Rattle.moka_gateway_cases.proofs.acts.single.Given as goal

abbrev pub invariant-loop-byte : goal.invariant-loop-byte
invariant-loop-byte l = IsUsable l.gateway
