-- Turn after turn.
use Rattle.moka_init.specs.FlowPlan.{call_of}
use Rattle.moka_kept.specs.Facts.{facts}
use Rattle.std.proofs.Common.{Some, inl, refl}
use Rattle.moka_kept.proofs.Stopping.{came_here, came_to_on, came_to_weaker, meets_less, meets_on}
use Rattle.moka_cache.specs.Asked.{Accords}
use Rattle.moka_cache.proofs.Staying.{asked_since, asked_still, context_since}
use Rattle.moka_cache.proofs.Taking.{accords_weaker}
use Rattle.moka_cache.proofs.Turning.{asked_on, asks_weaker, polls_on, turns_weaker}
use Rattle.moka_cache.proofs.cache.Cache.go_on.Goals as goal

pub loop-init : goal.loop-init
loop-init g c = record {
  came = came_here (facts g.K.PartialEq.eq g.P.Fact.holds) (Accords (g.Q.Asked.gives c.args.asked.now) (g.Q.Asked.tests c.args.asked.now)) c.args.flow.now c.requires.rests;
  asked = asked_still g.Q.Asked.can_poll g.Q.Asked.gives g.Q.Asked.tests c.args.asked.now c.requires.asks;
  kept = λ fact holds. holds;
  unasked = inl refl;
}

pub returns-in-Over-clause-polled : goal.returns-in-Over-clause-polled
returns-in-Over-clause-polled g c =
    let such = Accords (g.Q.Asked.gives c.args.asked.now) (g.Q.Asked.tests c.args.asked.now) in
    let since = Accords (g.Q.Asked.gives c.loop.asked) (g.Q.Asked.tests c.loop.asked) in
    polls_on (facts g.K.PartialEq.eq g.P.Fact.holds) such c.args.flow.now c.loop.flow c.in-Over.poll c.turn.new.flow c.loop.invariant.came
    (turns_weaker (facts g.K.PartialEq.eq g.P.Fact.holds) since such (accords_weaker _ _ _ _ c.loop.invariant.asked.same c.loop.invariant.asked.tested) c.loop.flow (Some c.in-Over.poll) c.turn.new.flow c.in-Over.ensures.turns)

pub loop-preserved : goal.loop-preserved
loop-preserved g c =
    let such = Accords (g.Q.Asked.gives c.args.asked.now) (g.Q.Asked.tests c.args.asked.now) in
    let since = Accords (g.Q.Asked.gives c.loop.asked) (g.Q.Asked.tests c.loop.asked) in record {
      came = came_to_on (facts g.K.PartialEq.eq g.P.Fact.holds) such c.args.flow.now c.loop.flow c.turn.new.flow c.loop.invariant.came
          (came_to_weaker (facts g.K.PartialEq.eq g.P.Fact.holds) since such (accords_weaker _ _ _ _ c.loop.invariant.asked.same c.loop.invariant.asked.tested) c.loop.flow c.turn.new.flow c.in-On.ensures.turns);
      asked = asked_since g.Q.Asked.can_poll g.Q.Asked.gives g.Q.Asked.tests _ _ _ c.loop.invariant.asked c.turn.ensures.asked;
      kept = λ fact holds. c.turn.ensures.context.kept fact (c.loop.invariant.kept fact holds);
      unasked = asked_on (facts g.K.PartialEq.eq g.P.Fact.holds) such c.args.flow.now c.loop.flow c.args.asked.now c.loop.asked c.turn.new.asked c.loop.invariant.came c.loop.invariant.unasked
          (asks_weaker (facts g.K.PartialEq.eq g.P.Fact.holds) since such (accords_weaker _ _ _ _ c.loop.invariant.asked.same c.loop.invariant.asked.tested) _ c.loop.flow c.turn.ensures.unasked);
    }

pub returns-in-Over-clause-unasked : goal.returns-in-Over-clause-unasked
returns-in-Over-clause-unasked g c =
    let such = Accords (g.Q.Asked.gives c.args.asked.now) (g.Q.Asked.tests c.args.asked.now) in
    let since = Accords (g.Q.Asked.gives c.loop.asked) (g.Q.Asked.tests c.loop.asked) in
    asked_on (facts g.K.PartialEq.eq g.P.Fact.holds) such c.args.flow.now c.loop.flow c.args.asked.now c.loop.asked c.turn.new.asked c.loop.invariant.came c.loop.invariant.unasked
    (asks_weaker (facts g.K.PartialEq.eq g.P.Fact.holds) since such (accords_weaker _ _ _ _ c.loop.invariant.asked.same c.loop.invariant.asked.tested) _ c.loop.flow c.turn.ensures.unasked)

pub turn-requires-clause-rests : goal.turn-requires-clause-rests
turn-requires-clause-rests g c = c.loop.invariant.came.rests

pub turn-requires-clause-asks : goal.turn-requires-clause-asks
turn-requires-clause-asks g c = c.loop.invariant.asked.asks

pub returns-in-Over-clause-cause : goal.returns-in-Over-clause-cause
returns-in-Over-clause-cause g c = c.in-Over.ensures.cause

pub returns-in-Over-clause-asked : goal.returns-in-Over-clause-asked
returns-in-Over-clause-asked g c = asked_since g.Q.Asked.can_poll g.Q.Asked.gives g.Q.Asked.tests _ _ _ c.loop.invariant.asked c.turn.ensures.asked

pub returns-in-Over-clause-context : goal.returns-in-Over-clause-context
returns-in-Over-clause-context g c = context_since _ _ _ (Some c.in-Over.poll) c.loop.invariant.kept c.in-Over.ensures.context

pub turn-requires-clause-so : goal.turn-requires-clause-so
turn-requires-clause-so g c =
    let such = Accords (g.Q.Asked.gives c.args.asked.now) (g.Q.Asked.tests c.args.asked.now) in
    let since = Accords (g.Q.Asked.gives c.loop.asked) (g.Q.Asked.tests c.loop.asked) in
    meets_less (facts g.K.PartialEq.eq g.P.Fact.holds) c.args.key.now since such (accords_weaker _ _ _ _ c.loop.invariant.asked.same c.loop.invariant.asked.tested) c.loop.flow.call (call_of c.loop.flow)
    (meets_on (facts g.K.PartialEq.eq g.P.Fact.holds) c.args.key.now such c.args.flow.now c.loop.flow c.loop.invariant.came c.requires.so)
