-- The call starts where room was made for it.
use Rattle.std.proofs.Common.{◌≡◌, IfOk, subst}
use Rattle.std.proofs.lemmas.Result.{IfOk-weaker, on_err_weaker}
use Rattle.moka_hist.specs.declared.events.Event.TheVariants as event
use Rattle.moka_hist.specs.declared.events.Start.{Start}
use Rattle.moka_machine.specs.Machine.{ServesEvent}
use Rattle.moka_machine.proofs.machine.Machine.start.Goals as goal

pub returns-clause-serves : goal.returns-clause-serves
returns-clause-serves g c =
    let same : c.in_ok-start.start ≡ c.args.start.now = c.in_ok-start.ensures.same in
    subst (λ (x : Start g.row.K.Denot g.row.V.Denot). IfOk c.enter.result (λ r. ServesEvent g.K.PartialEq.eq g.T.Tests c.args.self.now (event.Start x) r c.enter.new.self)) same
    (IfOk-weaker c.enter.result _ _ (λ r serves s h reached. serves s (c.make_room.ensures.same s h) reached) c.enter.ensures.serves)

pub returns-clause-err : goal.returns-clause-err
returns-clause-err g c = on_err_weaker c.enter.result (λ keeps s h. keeps s (c.make_room.ensures.same s h)) c.enter.ensures.err
