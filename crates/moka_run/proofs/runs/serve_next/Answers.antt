-- An event that tells is told the front of the copies, and any other is served.
use Rattle.std.proofs.Common.{sym, subst, ◌∙◌}
use Rattle.std.proofs.lemmas.Result.{on_err_weaker}
use Rattle.moka_hist.specs.declared.events.Event.{Event}
use Rattle.moka_machine.specs.Machine.{ServesEvent}
use Rattle.moka_run.proofs.Tellings.{has_front, stops_untold, tells_front, tells_none}
use Rattle.moka_run.proofs.runs.serve_next.Goals as goal

pub next_of-requires : goal.next_of-requires
next_of-requires g c = record {
  some = has_front c.args.event.now c.in-Some.call c.args.told.now.items c.requires.front.0 (sym c.asked_in.ensures ∙ c.in-Some.is) c.requires.front.1;
}

pub returns-in-Some-clause-serves : goal.returns-in-Some-clause-serves
returns-in-Some-clause-serves g c =
    let f = tells_front c.args.event.now c.in-Some.call c.next_of.result c.args.told.now.items c.next_of.new.told.items c.requires.front.0
    (sym c.asked_in.ensures ∙ c.in-Some.is) c.requires.front.1 c.next_of.ensures in
    subst (λ (e : Event g.row.K.Denot g.row.V.Denot g.row.E.Denot). ServesEvent g.K.PartialEq.eq g.T.Tests c.args.cache.now e c.tell.result c.tell.new.self) (sym f.0) c.tell.ensures

pub returns-in-Some-clause-rest : goal.returns-in-Some-clause-rest
returns-in-Some-clause-rest g c = λ rest front.
    (tells_front c.args.event.now c.in-Some.call c.next_of.result c.args.told.now.items c.next_of.new.told.items rest
    (sym c.asked_in.ensures ∙ c.in-Some.is) front c.next_of.ensures).1

pub returns-in-None-clause-needs : goal.returns-in-None-clause-needs
returns-in-None-clause-needs g c =
    on_err_weaker c.serve.result (λ needs s stands. stops_untold s c.args.event.now (sym c.asked_in.ensures ∙ c.in-None.is) (needs s stands)) c.serve.ensures.needs

pub returns-in-None-clause-rest : goal.returns-in-None-clause-rest
returns-in-None-clause-rest g c = λ rest front. tells_none c.args.event.now c.args.told.now.items rest (sym c.asked_in.ensures ∙ c.in-None.is) front
