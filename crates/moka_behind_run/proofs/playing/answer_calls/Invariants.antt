use Rattle.std.proofs.Common.{take}
use Rattle.moka_behind.specs.Behind.{IsUsable}
use Rattle.moka_behind_run.specs.Playing.{SoFar}
use Rattle.moka_behind_run.proofs.playing.answer_calls.Given as goal

abbrev pub invariant-loop-call : goal.invariant-loop-call
invariant-loop-call g l =
    record {
      so_far :
          SoFar (record { told = g.Kp.Keeper.told l.fn.keeper; faults = g.Kp.Keeper.faults l.fn.keeper }) (take l.call-index l.calls) l.text.items
          (record { told = g.Kp.Keeper.told l.keeper; faults = g.Kp.Keeper.faults l.keeper }) l.behind;
      usable : IsUsable l.behind;
    }
