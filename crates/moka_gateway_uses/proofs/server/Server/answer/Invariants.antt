-- The gateway stays as it may be used.
use Rattle.moka_gateway.specs.Gateway.{IsUsable}
use Rattle.moka_gateway_uses.proofs.server.Server.answer.Given as goal

abbrev pub invariant-loop : goal.invariant-loop
invariant-loop l = IsUsable l.self.gateway
