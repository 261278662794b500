-- What follows the first hold, and the turns after that.
use Rattle.std.proofs.Common.{◌⊎◌, Some, None, subst}
use Rattle.moka_init.specs.FlowPlan.{call_of}
use Rattle.moka_kept.specs.Facts.{facts}
use Rattle.moka_kept.specs.Stops.{CameTo, IsWaiting}
use Rattle.moka_kept.specs.Taking.{NoAnswer}
use Rattle.moka_kept.proofs.Stopping.{came_to_weaker, meets_less, meets_on}
use Rattle.moka_cache.specs.Asked.{Accords}
use Rattle.moka_cache.specs.Hearing.{Awaits, Unheard, standing_at}
use Rattle.moka_cache.proofs.Staying.{asked_since, context_since}
use Rattle.moka_cache.proofs.Taking.{accords_weaker}
use Rattle.moka_cache.proofs.Turning.{asked_on, asks_weaker, begun_at, pending_by, pends_by, polls_on, turned, turns_weaker, waits_still}
use Rattle.moka_cache.proofs.cache.Cache.follow.Goals as goal

pub after-requires-clause-waits : goal.after-requires-clause-waits
after-requires-clause-waits g c = c.requires.waits

pub after-requires-clause-so : goal.after-requires-clause-so
after-requires-clause-so g c = c.requires.so

pub after-requires-clause-asks : goal.after-requires-clause-asks
after-requires-clause-asks g c = c.requires.asks

-- ---- the poll is over by it

pub returns-in-Over-clause-polled : goal.returns-in-Over-clause-polled
returns-in-Over-clause-polled g c = λ fresh stops.
    let f = facts g.K.PartialEq.eq g.P.Fact.holds in
    let such = Accords (g.Q.Asked.gives c.args.asked.now) (g.Q.Asked.tests c.args.asked.now) in
    turns_weaker f NoAnswer such (λ t none. absurd none) fresh (Some c.in-Over.poll) c.args.flow.now
    (turned f NoAnswer fresh c.args.stop (Some c.in-Over.poll) c.args.flow.now stops c.in-Over.ensures.follows)

pub returns-in-Over-clause-unasked : goal.returns-in-Over-clause-unasked
returns-in-Over-clause-unasked g c = λ fresh stops.
    let f = facts g.K.PartialEq.eq g.P.Fact.holds in
    let such = Accords (g.Q.Asked.gives c.args.asked.now) (g.Q.Asked.tests c.args.asked.now) in
    asks_weaker f NoAnswer such (λ t none. absurd none) _ fresh
    (begun_at f NoAnswer g.Q.Asked.begins fresh c.args.stop c.args.flow.now c.args.asked.now c.after.new.asked stops c.after.ensures.begun)

pub returns-in-Over-clause-cause : goal.returns-in-Over-clause-cause
returns-in-Over-clause-cause g c =
    let f = facts g.K.PartialEq.eq g.P.Fact.holds in
    let left = c.requires.left in
    pends_by _ _ _ (Some c.in-Over.poll)
    (pending_by _ (Some c.in-Over.poll) (λ pending.
    waits_still f NoAnswer _ left.0 c.args.stop c.args.flow.now left.1
    (subst (λ s. IsWaiting c.args.stop ⊎ Awaits (Unheard g.L.Listener.pends s.listener) (standing_at c.args.stop c.args.flow.now)) c.deref-shared.ensures (c.in-Over.ensures.cause pending))))

pub returns-in-Over-clause-asked : goal.returns-in-Over-clause-asked
returns-in-Over-clause-asked g c = c.after.ensures.asked

pub returns-in-Over-clause-context : goal.returns-in-Over-clause-context
returns-in-Over-clause-context g c = record { kept = c.after.ensures.kept; armed = pending_by _ (Some c.in-Over.poll) c.in-Over.ensures.armed }

-- ---- it goes on

pub go_on-requires-clause-rests : goal.go_on-requires-clause-rests
go_on-requires-clause-rests g c =
    let f = facts g.K.PartialEq.eq g.P.Fact.holds in
    let left = c.requires.left in
    let came : CameTo f NoAnswer left.0 c.args.flow.now = turned f NoAnswer left.0 c.args.stop None c.args.flow.now left.1 c.in-On.ensures.follows in
    came.rests

pub go_on-requires-clause-so : goal.go_on-requires-clause-so
go_on-requires-clause-so g c =
    let f = facts g.K.PartialEq.eq g.P.Fact.holds in
    let such = Accords (g.Q.Asked.gives c.args.asked.now) (g.Q.Asked.tests c.args.asked.now) in
    let since = Accords (g.Q.Asked.gives c.after.new.asked) (g.Q.Asked.tests c.after.new.asked) in
    let left = c.requires.left in
    let came = came_to_weaker f NoAnswer such (λ t none. absurd none) left.0 c.args.flow.now (turned f NoAnswer left.0 c.args.stop None c.args.flow.now left.1 c.in-On.ensures.follows) in
    meets_less f c.args.key.now since such (accords_weaker _ _ _ _ c.after.ensures.asked.same c.after.ensures.asked.tested) c.args.flow.now.call (call_of c.args.flow.now)
    (meets_on f c.args.key.now such left.0 c.args.flow.now came left.2)

pub go_on-requires-clause-asks : goal.go_on-requires-clause-asks
go_on-requires-clause-asks g c = c.after.ensures.asked.asks

pub returns-in-On-clause-polled : goal.returns-in-On-clause-polled
returns-in-On-clause-polled g c = λ fresh stops.
    let f = facts g.K.PartialEq.eq g.P.Fact.holds in
    let such = Accords (g.Q.Asked.gives c.args.asked.now) (g.Q.Asked.tests c.args.asked.now) in
    let since = Accords (g.Q.Asked.gives c.after.new.asked) (g.Q.Asked.tests c.after.new.asked) in
    let came = came_to_weaker f NoAnswer such (λ t none. absurd none) fresh c.args.flow.now (turned f NoAnswer fresh c.args.stop None c.args.flow.now stops c.in-On.ensures.follows) in
    polls_on f such fresh c.args.flow.now c.go_on.result c.go_on.new.flow came
    (turns_weaker f since such (accords_weaker _ _ _ _ c.after.ensures.asked.same c.after.ensures.asked.tested) c.args.flow.now (Some c.go_on.result) c.go_on.new.flow c.go_on.ensures.polled)

pub returns-in-On-clause-unasked : goal.returns-in-On-clause-unasked
returns-in-On-clause-unasked g c = λ fresh stops.
    let f = facts g.K.PartialEq.eq g.P.Fact.holds in
    let such = Accords (g.Q.Asked.gives c.args.asked.now) (g.Q.Asked.tests c.args.asked.now) in
    let since = Accords (g.Q.Asked.gives c.after.new.asked) (g.Q.Asked.tests c.after.new.asked) in
    let came = came_to_weaker f NoAnswer such (λ t none. absurd none) fresh c.args.flow.now (turned f NoAnswer fresh c.args.stop None c.args.flow.now stops c.in-On.ensures.follows) in
    asked_on f such fresh c.args.flow.now c.args.asked.now c.after.new.asked c.go_on.new.asked came
    (asks_weaker f NoAnswer such (λ t none. absurd none) _ fresh
    (begun_at f NoAnswer g.Q.Asked.begins fresh c.args.stop c.args.flow.now c.args.asked.now c.after.new.asked stops c.after.ensures.begun))
    (asks_weaker f since such (accords_weaker _ _ _ _ c.after.ensures.asked.same c.after.ensures.asked.tested) _ c.args.flow.now c.go_on.ensures.unasked)

pub returns-in-On-clause-cause : goal.returns-in-On-clause-cause
returns-in-On-clause-cause g c = c.go_on.ensures.cause

pub returns-in-On-clause-asked : goal.returns-in-On-clause-asked
returns-in-On-clause-asked g c = asked_since g.Q.Asked.can_poll g.Q.Asked.gives g.Q.Asked.tests _ _ _ c.after.ensures.asked c.go_on.ensures.asked

pub returns-in-On-clause-context : goal.returns-in-On-clause-context
returns-in-On-clause-context g c = context_since c.args.cx.now c.after.new.cx c.go_on.new.cx (Some c.go_on.result) c.after.ensures.kept c.go_on.ensures.context
