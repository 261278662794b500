-- The access is that of the layers, and the other calls are as they were.
use Rattle.std.proofs.Common.{refl}
use Rattle.std.proofs.lemmas.Result.{IfOk-weaker, on_err_weaker}
use Rattle.moka_machine.proofs.OtherCalls.{gets_last, still_reaches}
use Rattle.moka_machine.proofs.reaching.MachineGround.access.Goals as goal

pub returns-clause-gives : goal.returns-clause-gives
returns-clause-gives g c =
    let eq = g.K.PartialEq.eq in
    let old = c.args.self.now in
    IfOk-weaker c.access.result _ _ (λ given serves access is w h may.
    let r = serves access is w h.layers may in
    (r.0, r.1, still_reaches eq g.T.Tests old.layers c.access.new.self old.calls w r.0 c.access.ensures.call (gets_last eq old.layers.call w r.0 access given r.1) r.2 r.3 c.access.ensures.kept h))
    c.access.ensures.serves

pub returns-clause-err_stands : goal.returns-clause-err_stands
returns-clause-err_stands g c =
    let old = c.args.self.now in
    on_err_weaker c.access.result (λ keeps w h.
    let r = keeps w h.layers in
    still_reaches g.K.PartialEq.eq g.T.Tests old.layers c.access.new.self old.calls w w c.access.ensures.call refl r.0 r.1 c.access.ensures.kept h)
    c.access.ensures.err
