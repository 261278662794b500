-- The gateway stays as it may be used.
use Rattle.moka_gateway.specs.Gateway.{IsUsable}
use Rattle.moka_gateway_cases.proofs.acts.play_on.Given as goal

abbrev pub invariant-loop-act : goal.invariant-loop-act
invariant-loop-act l = IsUsable l.gateway
