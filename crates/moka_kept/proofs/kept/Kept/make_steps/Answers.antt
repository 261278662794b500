-- The first step goes by what was brought, and the others take nothing.
use Rattle.std.proofs.Common.{None, inl, inr, refl, sym, subst}
use Rattle.moka_init.specs.FlowPlan.{call_of, tested_in}
use Rattle.moka_kept.specs.Taking.{Brings}
use Rattle.moka_kept.specs.declared.brought.Brought.{Brought}
use Rattle.moka_kept.specs.Facts.{facts}
use Rattle.moka_kept.specs.Meets.{StopSo}
use Rattle.moka_kept.specs.Stops.{StopIs, kept_in, stop_after, task_in}
use Rattle.moka_kept.specs.declared.stop.Stop.{Stop}
use Rattle.moka_kept.proofs.Stopping.{came_here, came_to_on, came_to_weaker, left_going, meets_less, meets_on, stops_on, stops_weaker}
use Rattle.moka_kept.proofs.kept.Kept.make_steps.Goals as goal

pub loop-init : goal.loop-init
loop-init g c = record {
  came = came_here (facts g.K.PartialEq.eq g.P.Fact.holds) (Brings (tested_in (call_of c.args.flow.now).plan) c.args.brought) c.args.flow.now c.requires.rests;
  brings = λ t is. is;
  kept = λ fact holds. holds;
  goes = inl refl;
}

pub returns-then-not-goes_on-clause-stops : goal.returns-then-not-goes_on-clause-stops
returns-then-not-goes_on-clause-stops g c =
    let f = facts g.K.PartialEq.eq g.P.Fact.holds in
    let flow = c.args.flow.now in
    let mid = c.loop.flow in
    let new = c.one_step-made.new.flow in
    let made = c.one_step-made.result in
    let given = Brings (tested_in (call_of mid).plan) c.replace.result in
    let such = Brings (tested_in (call_of flow).plan) c.args.brought in
    let task = task_in c.stop_after.result in
    let kept = kept_in c.stop_after.result in
    subst (λ (s : Stop g.row.K.Denot g.row.V.Denot g.row.E.Denot). StopIs f such flow s new) (sym c.stop_after.ensures.stop)
    (stops_on f such flow mid (stop_after task kept new.call made) new c.loop.invariant.came
    (stops_weaker f given such
    (λ t is. c.loop.invariant.brings t (subst (λ (b : Brought g.row.V.Denot g.row.E.Denot). Brings (tested_in (call_of mid).plan) b t) c.replace.ensures.value is)) mid (stop_after task kept new.call made) new
    (c.one_step-made.ensures.stops task kept c.stop_after.ensures.finds)))

pub loop-preserved : goal.loop-preserved
loop-preserved g c =
    let f = facts g.K.PartialEq.eq g.P.Fact.holds in
    let flow = c.args.flow.now in
    let mid = c.loop.flow in
    let new = c.one_step-made.new.flow in
    let given = Brings (tested_in (call_of mid).plan) c.replace.result in
    let such = Brings (tested_in (call_of flow).plan) c.args.brought in
    let left = left_going f given mid c.one_step-made.result new c.if-not-goes_on.ensures (c.one_step-made.ensures.stops None None tt) in
    record {
      came = came_to_on f such flow mid new c.loop.invariant.came
          (came_to_weaker f given such
          (λ t is. c.loop.invariant.brings t (subst (λ (b : Brought g.row.V.Denot g.row.E.Denot). Brings (tested_in (call_of mid).plan) b t) c.replace.ensures.value is)) mid new left.0);
      brings = λ t none. absurd (subst (λ (b : Brought g.row.V.Denot g.row.E.Denot). Brings (tested_in (call_of new).plan) b t) c.replace.ensures.after none);
      kept = c.loop.invariant.kept;
      goes = inr left.1;
    }

-- what it stores on meets the fact still
pub one_step-made-requires-clause-so : goal.one_step-made-requires-clause-so
one_step-made-requires-clause-so g c =
    let f = facts g.K.PartialEq.eq g.P.Fact.holds in
    let flow = c.args.flow.now in
    let mid = c.loop.flow in
    let given = Brings (tested_in (call_of mid).plan) c.replace.result in
    let such = Brings (tested_in (call_of flow).plan) c.args.brought in
    meets_less f c.args.key.now given such (λ t is. c.loop.invariant.brings t (subst (λ (b : Brought g.row.V.Denot g.row.E.Denot). Brings (tested_in (call_of mid).plan) b t) c.replace.ensures.value is)) mid.call (call_of mid)
    (meets_on f c.args.key.now such flow mid c.loop.invariant.came c.requires.so)

pub returns-then-not-goes_on-clause-so : goal.returns-then-not-goes_on-clause-so
returns-then-not-goes_on-clause-so g c =
    let f = facts g.K.PartialEq.eq g.P.Fact.holds in
    subst (λ (s : Stop g.row.K.Denot g.row.V.Denot g.row.E.Denot). StopSo f s) (sym c.stop_after.ensures.stop) (c.one_step-made.ensures.so (task_in c.stop_after.result) (kept_in c.stop_after.result))
