-- A hold of the lock, and what follows it.
use Rattle.moka_kept.specs.Facts.{facts}
use Rattle.std.proofs.Common.{◌⊎◌, subst}
use Rattle.moka_init.specs.FlowPlan.{call_of, tested_in}
use Rattle.moka_kept.specs.Stops.{IsWaiting}
use Rattle.moka_kept.specs.Taking.{Brings}
use Rattle.moka_cache.specs.Hearing.{Awaits, Unheard, over_in, standing_at}
use Rattle.moka_cache.proofs.Turning.{begun_at, pending_by, turned, waits_still}
use Rattle.moka_cache.proofs.cache.Cache.round.Goals as goal

pub returns-clause-turns : goal.returns-clause-turns
returns-clause-turns g c =
    turned (facts g.K.PartialEq.eq g.P.Fact.holds) (Brings (tested_in (call_of c.args.flow.now).plan) c.args.brought) c.args.flow.now c.hold-stop.result (over_in c.after.result) c.hold-stop.new.flow c.hold-stop.ensures.stops c.after.ensures.follows

pub returns-clause-cause : goal.returns-clause-cause
returns-clause-cause g c =
    pending_by _ (over_in c.after.result) (λ pending.
    waits_still (facts g.K.PartialEq.eq g.P.Fact.holds) (Brings (tested_in (call_of c.args.flow.now).plan) c.args.brought) _ c.args.flow.now c.hold-stop.result c.hold-stop.new.flow c.hold-stop.ensures.stops
    (subst (λ s. IsWaiting c.hold-stop.result ⊎ Awaits (Unheard g.L.Listener.pends s.listener) (standing_at c.hold-stop.result c.hold-stop.new.flow)) c.deref-shared.ensures (c.after.ensures.cause pending)))

pub returns-clause-context : goal.returns-clause-context
returns-clause-context g c = record {
  kept = λ fact holds. c.after.ensures.kept fact (c.hold-stop.ensures.kept fact holds);
  armed = pending_by _ (over_in c.after.result) c.after.ensures.armed;
}

pub returns-clause-unasked : goal.returns-clause-unasked
returns-clause-unasked g c =
    begun_at (facts g.K.PartialEq.eq g.P.Fact.holds) (Brings (tested_in (call_of c.args.flow.now).plan) c.args.brought) g.Q.Asked.begins c.args.flow.now c.hold-stop.result c.hold-stop.new.flow c.args.asked.now c.after.new.asked c.hold-stop.ensures.stops c.after.ensures.begun

pub after-requires-clause-so : goal.after-requires-clause-so
after-requires-clause-so g c = c.hold-stop.ensures.so
