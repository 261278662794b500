use Rattle.std.proofs.Common.{◌≡◌, ◌⊎◌}
use Rattle.futures.specs.Task.{Keeps}
use Rattle.moka_init.specs.FlowPlan.{call_of, tested_in}
use Rattle.moka_kept.specs.Facts.{facts}
use Rattle.moka_kept.specs.Stops.{CameTo, GoesOnWith}
use Rattle.moka_kept.specs.Taking.{Brings, Taken}
use Rattle.moka_kept.proofs.kept.Kept.make_steps.Given as goal

abbrev pub invariant-loop : goal.invariant-loop
invariant-loop g l = record {
  came : CameTo (facts g.K.PartialEq.eq g.P.Fact.holds) (Brings (tested_in (call_of l.fn.flow).plan) l.fn.brought) l.fn.flow l.flow;
  brings : (t : Taken g.row.V.Denot g.row.E.Denot) → Brings (tested_in (call_of l.flow).plan) l.next t → Brings (tested_in (call_of l.fn.flow).plan) l.fn.brought t;
  kept : Keeps l.fn.cx l.cx;
  goes : (l.counter ≡ 0) ⊎ GoesOnWith g.K.PartialEq.eq l.flow;
}
