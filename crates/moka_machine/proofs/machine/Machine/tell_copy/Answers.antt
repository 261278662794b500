-- The copy is the answer.
use Rattle.std.proofs.Common.{◌≡◌, subst, rules}
use Rattle.moka_hist.specs.declared.events.Event.TheVariants as event
use Rattle.moka_hist.specs.declared.events.Told.{Told}
use Rattle.moka_machine.specs.Machine.{ServesEvent}
use Rattle.moka_machine.proofs.machine.Machine.tell_copy.Goals as goal

pub returns-clause-serves : goal.returns-clause-serves
returns-clause-serves g c =
    let same : c.in_ok-answer.answer ≡ c.args.answer.now = search (rules, c.in_ok-answer.ensures.cases, g.met.V.Exact.exact, g.met.E.Exact.exact) in
    subst (λ (a : Told g.row.V.Denot g.row.E.Denot). ServesEvent g.K.PartialEq.eq g.T.Tests c.args.self.now (event.Tell c.args.call a) c.tell.result c.tell.new.self) same c.tell.ensures
