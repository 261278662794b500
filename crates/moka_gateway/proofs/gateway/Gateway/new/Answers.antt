use Rattle.std.proofs.Common.{[]}
use Rattle.moka_collapsing.specs.Reference.{fresh}
use Rattle.moka_gateway.proofs.gateway.Gateway.new.Goals as goal

pub returns-clause-usable : goal.returns-clause-usable
returns-clause-usable c = λ unspent. (fresh, c.in_ok-gateway.ensures)

pub returns-clause-after : goal.returns-clause-after
returns-clause-after c = record { stands = c.in_ok-gateway.ensures; served = c.runs_are_served.ensures [] }
