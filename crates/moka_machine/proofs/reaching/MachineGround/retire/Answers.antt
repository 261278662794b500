-- The access is that of the layers, and the other calls are as they were.
use Rattle.moka_machine.proofs.OtherCalls.{gets_last, still_reaches}
use Rattle.moka_machine.proofs.reaching.MachineGround.retire.Goals as goal

pub returns-clause-gives : goal.returns-clause-gives
returns-clause-gives g c = λ access is w h may.
    let eq = g.K.PartialEq.eq in
    let old = c.args.self.now in
    let r = c.retire.ensures.serves access is w h.layers may in
    (r.0, r.1, still_reaches eq g.T.Tests old.layers c.retire.new.self old.calls w r.0 c.retire.ensures.call (gets_last eq old.layers.call w r.0 access c.retire.result r.1) r.2 r.3 c.retire.ensures.kept h)
