-- It is left as its round leaves it, or as who is asked does.
use Rattle.moka_kept.specs.Facts.{facts}
use Rattle.std.proofs.Common.{IfSome, refl, subst}
use Rattle.moka_init.specs.FlowPlan.{call_of, tested_in}
use Rattle.moka_kept.specs.Taking.{Brings}
use Rattle.moka_kept.specs.declared.brought.Brought.TheVariants as brought
use Rattle.moka_cache.specs.Asked.{Accords}
use Rattle.moka_cache.specs.Hearing.{over_in}
use Rattle.moka_kept.proofs.Stopping.{meets_less}
use Rattle.moka_kept.proofs.Ways.{came_same}
use Rattle.moka_cache.proofs.Meeting.{tested_meets}
use Rattle.moka_cache.proofs.Staying.{asked_since, context_since}
use Rattle.moka_cache.proofs.Taking.{told_accords}
use Rattle.moka_cache.proofs.Turning.{asked_here, asks_weaker, pends_by, turns_weaker, unasked_or}
use Rattle.moka_cache.proofs.cache.Cache.ask.Goals as goal

pub returns-then-not-is_polled-clause-turns : goal.returns-then-not-is_polled-clause-turns
returns-then-not-is_polled-clause-turns g c =
    let flow = c.args.flow.now in
    let such = Accords (g.Q.Asked.gives c.args.asked.now) (g.Q.Asked.tests c.args.asked.now) in
    turns_weaker (facts g.K.PartialEq.eq g.P.Fact.holds) (Brings (tested_in (call_of flow).plan) c.ask_test-brought.result) such c.ask_test-brought.ensures.brings flow (over_in c.round.result) c.round.new.flow
    c.round.ensures.turns

pub returns-then-not-is_polled-clause-unasked : goal.returns-then-not-is_polled-clause-unasked
returns-then-not-is_polled-clause-unasked g c =
    let flow = c.args.flow.now in
    let value = tested_in (call_of flow).plan in
    let brought = c.ask_test-brought.result in
    let such = Accords (g.Q.Asked.gives c.args.asked.now) (g.Q.Asked.tests c.args.asked.now) in
    unasked_or (facts g.K.PartialEq.eq g.P.Fact.holds) such g.Q.Asked.asks flow c.requires.rests c.args.asked.now c.ask_test-brought.new.asked c.round.new.asked brought c.ask_test-brought.ensures.once
    (asks_weaker (facts g.K.PartialEq.eq g.P.Fact.holds) (Brings value brought) such c.ask_test-brought.ensures.brings _ flow c.round.ensures.unasked)

pub returns-then-not-is_polled-clause-cause : goal.returns-then-not-is_polled-clause-cause
returns-then-not-is_polled-clause-cause g c = pends_by _ _ _ (over_in c.round.result) c.round.ensures.cause

pub returns-in-Ready-Some-clause-turns : goal.returns-in-Ready-Some-clause-turns
returns-in-Ready-Some-clause-turns g c =
    let flow = c.args.flow.now in
    let gives = g.Q.Asked.gives c.args.asked.now in
    let tests = g.Q.Asked.tests c.args.asked.now in
    let value = tested_in (call_of flow).plan in
    let round = c.round-in-Ready-Some in
    let answer = c.in-Ready-Some.answer in
    let given : gives answer = subst (λ o. IfSome o gives) c.in-Ready-Some.field-0-is c.in-Ready-Some.ensures.value in
    turns_weaker (facts g.K.PartialEq.eq g.P.Fact.holds) (Brings value (brought.Told answer)) (Accords gives tests) (told_accords gives tests value answer given) flow (over_in round.result) round.new.flow
    round.ensures.turns

pub returns-in-Ready-Some-clause-cause : goal.returns-in-Ready-Some-clause-cause
returns-in-Ready-Some-clause-cause g c = pends_by _ _ _ (over_in c.round-in-Ready-Some.result) c.round-in-Ready-Some.ensures.cause

pub returns-in-Ready-Some-clause-unasked : goal.returns-in-Ready-Some-clause-unasked
returns-in-Ready-Some-clause-unasked g c =
    asked_here (facts g.K.PartialEq.eq g.P.Fact.holds) (Accords (g.Q.Asked.gives c.args.asked.now) (g.Q.Asked.tests c.args.asked.now)) c.args.flow.now c.requires.rests c.if-not-is_polled.ensures.asking c.args.asked.now c.round-in-Ready-Some.new.asked

pub returns-in-Ready-None-clause-unasked : goal.returns-in-Ready-None-clause-unasked
returns-in-Ready-None-clause-unasked g c =
    asked_here (facts g.K.PartialEq.eq g.P.Fact.holds) (Accords (g.Q.Asked.gives c.args.asked.now) (g.Q.Asked.tests c.args.asked.now)) c.args.flow.now c.requires.rests c.if-not-is_polled.ensures.asking c.args.asked.now c.poll.new.self

pub returns-in-Pending-clause-unasked : goal.returns-in-Pending-clause-unasked
returns-in-Pending-clause-unasked g c =
    asked_here (facts g.K.PartialEq.eq g.P.Fact.holds) (Accords (g.Q.Asked.gives c.args.asked.now) (g.Q.Asked.tests c.args.asked.now)) c.args.flow.now c.requires.rests c.if-not-is_polled.ensures.asking c.args.asked.now c.poll.new.self

pub returns-then-not-is_polled-clause-asked : goal.returns-then-not-is_polled-clause-asked
returns-then-not-is_polled-clause-asked g c = asked_since g.Q.Asked.can_poll g.Q.Asked.gives g.Q.Asked.tests _ _ _ c.ask_test-brought.ensures.asked c.round.ensures.asked

pub returns-in-Ready-Some-clause-asked : goal.returns-in-Ready-Some-clause-asked
returns-in-Ready-Some-clause-asked g c =
    asked_since g.Q.Asked.can_poll g.Q.Asked.gives g.Q.Asked.tests _ c.poll.new.self _ (record { asks = c.poll.ensures.again; same = c.poll.ensures.same; tested = c.poll.ensures.tested }) c.round-in-Ready-Some.ensures.asked

pub returns-in-Ready-Some-clause-context : goal.returns-in-Ready-Some-clause-context
returns-in-Ready-Some-clause-context g c = context_since _ _ _ (over_in c.round-in-Ready-Some.result) c.poll.ensures.kept c.round-in-Ready-Some.ensures.context

pub returns-in-Ready-None-clause-asked : goal.returns-in-Ready-None-clause-asked
returns-in-Ready-None-clause-asked g c = record { asks = c.poll.ensures.again; same = c.poll.ensures.same; tested = c.poll.ensures.tested }

pub returns-in-Ready-None-clause-context : goal.returns-in-Ready-None-clause-context
returns-in-Ready-None-clause-context g c = record { kept = c.poll.ensures.kept; armed = tt }

pub returns-in-Pending-clause-asked : goal.returns-in-Pending-clause-asked
returns-in-Pending-clause-asked g c = record { asks = c.poll.ensures.again; same = c.poll.ensures.same; tested = c.poll.ensures.tested }

pub returns-in-Pending-clause-context : goal.returns-in-Pending-clause-context
returns-in-Pending-clause-context g c = record { kept = c.poll.ensures.kept; armed = c.in-Pending.ensures.armed }

pub round-requires-clause-asks : goal.round-requires-clause-asks
round-requires-clause-asks g c = c.ask_test-brought.ensures.asked.asks

pub round-requires-clause-so : goal.round-requires-clause-so
round-requires-clause-so g c =
    let flow = c.args.flow.now in
    meets_less (facts g.K.PartialEq.eq g.P.Fact.holds) c.args.key.now (Brings (tested_in (call_of flow).plan) c.ask_test-brought.result) (Accords (g.Q.Asked.gives c.args.asked.now) (g.Q.Asked.tests c.args.asked.now)) c.ask_test-brought.ensures.brings flow.call (call_of flow) c.requires.so

pub round-requires-in-Ready-Some-clause-so : goal.round-requires-in-Ready-Some-clause-so
round-requires-in-Ready-Some-clause-so g c =
    let flow = c.args.flow.now in
    let gives = g.Q.Asked.gives c.args.asked.now in
    let tests = g.Q.Asked.tests c.args.asked.now in
    let value = tested_in (call_of flow).plan in
    let answer = c.in-Ready-Some.answer in
    let given : gives answer = subst (λ o. IfSome o gives) c.in-Ready-Some.field-0-is c.in-Ready-Some.ensures.value in
    meets_less (facts g.K.PartialEq.eq g.P.Fact.holds) c.args.key.now (Brings value (brought.Told answer)) (Accords gives tests) (told_accords gives tests value answer given) flow.call (call_of flow) c.requires.so

pub ask_test-brought-requires-clause-so : goal.ask_test-brought-requires-clause-so
ask_test-brought-requires-clause-so g c =
    let f = facts g.K.PartialEq.eq g.P.Fact.holds in
    let flow = c.args.flow.now in
    let such = Accords (g.Q.Asked.gives c.args.asked.now) (g.Q.Asked.tests c.args.asked.now) in
    tested_meets f c.args.key.now flow.call (call_of flow) (c.requires.so.0 (call_of flow) (came_same f such flow.call (call_of flow) (call_of flow) refl))
