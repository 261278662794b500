-- It gives this to whichever call it is.
use Rattle.std.proofs.lemmas.Result.{IfOk-weaker}
use Rattle.moka_desk_cases.proofs.flows.bare.BareGround.access.Goals as goal

pub returns-clause-gives : goal.returns-clause-gives
returns-clause-gives g c =
    IfOk-weaker c.serve.result _ _ (λ given gives access is w h may. gives access is c.args.self.now.call w h) c.serve.ensures.gives
