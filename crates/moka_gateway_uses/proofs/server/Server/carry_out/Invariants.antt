-- The gateway stays as it may be used.
use Rattle.moka_gateway.specs.Gateway.{IsUsable}
use Rattle.moka_gateway_uses.proofs.server.Server.carry_out.Given as goal

abbrev pub invariant-loop-out : goal.invariant-loop-out
invariant-loop-out l = IsUsable l.self.gateway
