use Rattle.std.specs.Fn.{ComputesKey}
use Rattle.moka_cht.specs.Nodes.{own_key}
use Rattle.moka_cht.specs.Probes.{Follows, IsOn, Stands}
use Rattle.moka_cht.proofs.Points.{IsBetween, loads_left}
use Rattle.moka_cht.proofs.look.look.Given as goal

abbrev pub invariant-loop-index : goal.invariant-loop-index
invariant-loop-index g l = record {
  callable : goal.F-IsAlwaysCallable g l.eq;
  on : IsOn l.probe;
  follows : Follows l.fn.probe l.probe;
  knows : (q : _) → ComputesKey g.F.FnMut (g.K.PartialEq.eq q) l.fn.eq
      → ComputesKey g.F.FnMut (g.K.PartialEq.eq q) l.eq × Stands (own_key g.K.PartialEq.eq l.nodes q) l.words l.probe × IsBetween l.words l.probe l.probe.point;
}

abbrev pub decreases-loop-index : goal.decreases-loop-index
decreases-loop-index g l = loads_left l.probe
