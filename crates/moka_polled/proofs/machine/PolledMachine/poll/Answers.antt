-- A live call comes to something.
use Rattle.std.proofs.Common.{sym, ◌∙◌}
use Rattle.moka_laws.proofs.Counting.{none_some}
use Rattle.moka_polled.specs.Polled.{IsLive}
use Rattle.moka_polled.proofs.Carrying.{has_small, the_one}
use Rattle.moka_polled.proofs.machine.PolledMachine.poll.Goals as goal

pub unreachable-requires : goal.unreachable-requires
unreachable-requires g c =
    let here = has_small g.K.PartialEq.eq c.args.self.now c.poll_if_live.new.self (IsLive c.args.call) c.requires.live
    c.in_ok-outcome.ensures.stays in
    let stand = the_one (here.0.stands c.args.call) here.2 in
    let came = c.in_ok-outcome.ensures.polled here.0 stand.0 here.1 stand.1 in
    none_some (sym c.in-None.is ∙ came.0)

pub returns-clause-given : goal.returns-clause-given
returns-clause-given g c = λ m stand p live.
    c.in_ok-outcome.ensures.given m stand c.in-Some.outcome p live c.in-Some.is
