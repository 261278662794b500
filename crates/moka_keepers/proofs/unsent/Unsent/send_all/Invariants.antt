-- What is off the front was sent.
use Rattle.std.proofs.Common.{◌≡◌, List, ◌++◌, length, IsSome}
use Rattle.moka_keepers.specs.declared.write.Write.{Write}
use Rattle.moka_keepers.specs.Owing.{Owes, Truth, taken_off}
use Rattle.moka_keepers.proofs.unsent.Unsent.send_all.Given as goal

abbrev pub invariant-loop-write : goal.invariant-loop-write
invariant-loop-write g l = record {
  front : l.initial.self ≡ taken_off l.initial.self l.self ++ l.self;
  owes : (truth : Truth) (sent : List Write) → Owes l.initial.self (g.Kp.Keeper.told l.initial.keeper) truth sent →
      Owes l.self (g.Kp.Keeper.told l.keeper) truth (sent ++ taken_off l.initial.self l.self);
  tells : IsSome (g.Kp.Keeper.told l.keeper).pairs → IsSome (g.Kp.Keeper.told l.initial.keeper).pairs;
  faults : g.Kp.Keeper.faults l.keeper ≡ g.Kp.Keeper.faults l.initial.keeper;
}

abbrev pub decreases-loop-write : goal.decreases-loop-write
decreases-loop-write g l = length l.self
