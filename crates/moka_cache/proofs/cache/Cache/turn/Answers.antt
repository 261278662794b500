-- A turn that tells what was heard is left as its round leaves it.
use Rattle.moka_kept.specs.Facts.{facts}
use Rattle.moka_init.specs.FlowPlan.{call_of, tested_in}
use Rattle.moka_kept.specs.Taking.{Brings}
use Rattle.moka_kept.specs.declared.brought.Brought.TheVariants as brought
use Rattle.moka_cache.specs.Asked.{Accords}
use Rattle.moka_cache.specs.Hearing.{over_in}
use Rattle.moka_kept.proofs.Stopping.{meets_less}
use Rattle.moka_cache.proofs.Turning.{asks_weaker, pends_by, turns_weaker}
use Rattle.moka_cache.proofs.cache.Cache.turn.Goals as goal

pub returns-in-Some-clause-turns : goal.returns-in-Some-clause-turns
returns-in-Some-clause-turns g c =
    let flow = c.args.flow.now in
    let such = Accords (g.Q.Asked.gives c.args.asked.now) (g.Q.Asked.tests c.args.asked.now) in
    turns_weaker (facts g.K.PartialEq.eq g.P.Fact.holds) (Brings (tested_in (call_of flow).plan) brought.Nothing) such (λ t none. absurd none) flow (over_in c.round.result) c.round.new.flow c.round.ensures.turns

pub returns-in-Some-clause-cause : goal.returns-in-Some-clause-cause
returns-in-Some-clause-cause g c = pends_by _ _ _ (over_in c.round.result) c.round.ensures.cause

pub returns-in-Some-clause-unasked : goal.returns-in-Some-clause-unasked
returns-in-Some-clause-unasked g c =
    let flow = c.args.flow.now in
    let such = Accords (g.Q.Asked.gives c.args.asked.now) (g.Q.Asked.tests c.args.asked.now) in
    asks_weaker (facts g.K.PartialEq.eq g.P.Fact.holds) (Brings (tested_in (call_of flow).plan) brought.Nothing) such (λ t none. absurd none) _ flow c.round.ensures.unasked

pub round-requires-clause-so : goal.round-requires-clause-so
round-requires-clause-so g c =
    let flow = c.args.flow.now in
    meets_less (facts g.K.PartialEq.eq g.P.Fact.holds) c.args.key.now (Brings (tested_in (call_of flow).plan) brought.Nothing) (Accords (g.Q.Asked.gives c.args.asked.now) (g.Q.Asked.tests c.args.asked.now)) (λ t none. absurd none) flow.call (call_of flow) c.requires.so
