-- After each turn the flow has made so many steps, and is still going.
use Rattle.std.proofs.Common.{◌≡◌, ℕ, List, Some}
use Rattle.moka_hist.specs.Bound.{as_told}
use Rattle.moka_bound.specs.Ahead.{ahead}
use Rattle.moka_init.specs.FlowPlan.{call_of, IsLive}
use Rattle.moka_init.specs.Grounds.{IsOn, work_for}
use Rattle.moka_init.specs.Steps.{GoesThere}
use Rattle.moka_init.specs.Telling.{TellsSteps}
use Rattle.moka_init.proofs.goings.poll.Given as goal

abbrev pub invariant-loop-turn : goal.invariant-loop-turn
invariant-loop-turn g l =
    (k : ℕ) × record {
      live : IsLive l.flow;
      on : IsOn (g.G.Ground.account l.ground) l.flow;
      keeps : g.G.Ground.keeps l.fn.ground l.ground;
      number : l.flow.call ≡ l.fn.flow.call;
      so_many : l.steps ≡ as_told k;
      moved : GoesThere g.K.PartialEq.eq k (g.G.Ground.stands l.fn.ground) l.fn.flow l.flow (g.G.Ground.stands l.ground);
      told : (before : List _) → (g.G.Ground.account l.fn.ground).made ≡ Some before
          → TellsSteps k l.fn.flow.call (call_of l.fn.flow) (call_of l.flow) before (g.G.Ground.account l.ground).made;
    }

-- each lowers how many it may still make
abbrev pub decreases-loop-turn : goal.decreases-loop-turn
decreases-loop-turn g l = ahead (work_for (g.G.Ground.account l.ground) l.flow) (call_of l.flow)
