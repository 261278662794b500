-- Each stored pair stands under its own key.
use Rattle.std.proofs.lemmas.Result.{IfOk-weaker}
use Rattle.moka_polled.proofs.Listing.{lists_stored}
use Rattle.moka_polled.proofs.machine.PolledMachine.entries.Goals as goal

pub returns-clause-listed : goal.returns-clause-listed
returns-clause-listed g c = IfOk-weaker c.entries.result _ _ (λ pairs lists m p.
    lists_stored g.K.PartialEq.eq g.met.K.Eq.laws c.stored_under_own_keys.ensures.stored p.state m pairs p.seen
    (lists p.state p.stands))
    c.entries.ensures
