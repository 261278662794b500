-- The test is asked on the value that the flow carries.
use Rattle.std.proofs.Common.{refl, sym, ap, ◌∙◌}
use Rattle.std.specs.Option.{option_map}
use Rattle.moka_init.specs.FlowPlan.{call_of, tested_in}
use Rattle.moka_cache.proofs.Staying.{asked_still}
use Rattle.moka_cache.proofs.Taking.{asked_for, tested_accords, unasked_for}
use Rattle.moka_cache.proofs.driver.ask_test.Goals as goal

pub returns-in-Some-clause-brings : goal.returns-in-Some-clause-brings
returns-in-Some-clause-brings g c =
    let value = c.in-Some.value in
    tested_accords (g.Q.Asked.gives c.args.asked.now) (g.Q.Asked.tests c.args.asked.now) (tested_in (call_of c.args.flow.now).plan) value.now c.replaces.result
    (sym c.tested.ensures ∙ ap (option_map (λ v. v.now)) c.in-Some.is) c.replaces.ensures.answers

pub returns-in-Some-clause-once : goal.returns-in-Some-clause-once
returns-in-Some-clause-once g c =
    let value = c.in-Some.value in
    asked_for g.row.E.Denot g.Q.Asked.asks c.args.asked.now c.replaces.new.self (tested_in (call_of c.args.flow.now).plan) value.now c.replaces.result
    (sym c.tested.ensures ∙ ap (option_map (λ v. v.now)) c.in-Some.is) c.replaces.ensures.once

pub returns-in-None-clause-brings : goal.returns-in-None-clause-brings
returns-in-None-clause-brings g c = λ taken none. absurd none

pub returns-in-None-clause-once : goal.returns-in-None-clause-once
returns-in-None-clause-once g c =
    unasked_for g.row.E.Denot g.Q.Asked.asks c.args.asked.now c.args.asked.now (tested_in (call_of c.args.flow.now).plan) (sym c.tested.ensures ∙ ap (option_map (λ v. v.now)) c.in-None.is) refl

pub returns-in-Some-clause-asked : goal.returns-in-Some-clause-asked
returns-in-Some-clause-asked g c = record { asks = c.replaces.ensures.again; same = c.replaces.ensures.same; tested = c.replaces.ensures.tested }

pub returns-in-None-clause-asked : goal.returns-in-None-clause-asked
returns-in-None-clause-asked g c = asked_still g.Q.Asked.can_poll g.Q.Asked.gives g.Q.Asked.tests c.args.asked.now c.requires.asks

pub replaces-requires-clause-so : goal.replaces-requires-clause-so
replaces-requires-clause-so g c = c.requires.so c.in-Some.value.now (sym c.tested.ensures ∙ ap (option_map (λ v. v.now)) c.in-Some.is)
