-- The machine once an answer was told.
use Rattle.std.proofs.Common.{◌≡◌, ℕ, Bool, true}
use Rattle.std.specs.declared.cmp.PartialEq as PartialEq
use Rattle.std.specs.declared.hash.Hash as Hash
use Rattle.moka_hist.specs.State.{State}
use Rattle.moka_hist.specs.Run.{with_desk}
use Rattle.moka_hist.specs.Telling.{told}
use Rattle.moka_hist.specs.declared.events.Told.{Told}
use Rattle.moka_hist.specs.declared.events.Told.TheVariants as answer
use Rattle.moka_desk.specs.History.{keeps_history}
use Rattle.moka_desk.specs.StandsFor as desk
use Rattle.moka_hist.specs.declared.record_tests.Tests as Tests
use Rattle.moka_machine.specs.TheTable.{TheDesk}
use Rattle.moka_machine.specs.Machine.{MachineIs}
use Rattle.moka_machine.specs.declared.machine.Machine.{Machine}

module _ {K V E T : Type 0} {same : PartialEq.Ghosts K} {hash : Hash.Ghosts K} (eq : K → K → Bool) (q : Tests.Ghosts T K V) where
  -- whatever desk stands for the state's, the machine with it stands for the state with that
  pub told_stands : (m : Machine K V E T same hash) (d : TheDesk K V E same hash) (s : State K V E) (n : ℕ) (a : Told V E) → MachineIs eq q m s → desk.StandsFor eq d (told s.world.desk n a) → keeps_history d ≡ true
      → MachineIs eq q (record m { layers = record m.layers { desk = d } }) (with_desk s (told s.world.desk n a))
  told_stands m d s n (answer.Value value) h k whole =
      record { world = record { table = h.world.table; desk = k; handed = h.world.handed; stay = h.world.stay }; calls = h.calls; each = h.each; used = h.used; history = whole }
  told_stands m d s n answer.Nothing h k whole =
      record { world = record { table = h.world.table; desk = k; handed = h.world.handed; stay = h.world.stay }; calls = h.calls; each = h.each; used = h.used; history = whole }
  told_stands m d s n (answer.Err error) h k whole =
      record { world = record { table = h.world.table; desk = k; handed = h.world.handed; stay = h.world.stay }; calls = h.calls; each = h.each; used = h.used; history = whole }
  told_stands m d s n (answer.Op op) h k whole =
      record { world = record { table = h.world.table; desk = k; handed = h.world.handed; stay = h.world.stay }; calls = h.calls; each = h.each; used = h.used; history = whole }
  told_stands m d s n answer.Done h k whole =
      record { world = record { table = h.world.table; desk = k; handed = h.world.handed; stay = h.world.stay }; calls = h.calls; each = h.each; used = h.used; history = whole }
  told_stands m d s n answer.Off h k whole =
      record { world = record { table = h.world.table; desk = k; handed = h.world.handed; stay = h.world.stay }; calls = h.calls; each = h.each; used = h.used; history = whole }

  pub still_stands : (m : Machine K V E T same hash) (d : TheDesk K V E same hash) (s : State K V E) → MachineIs eq q m s → desk.StandsFor eq d s.world.desk → keeps_history d ≡ true
      → MachineIs eq q (record m { layers = record m.layers { desk = d } }) s
  still_stands m d s h k whole =
      record { world = record { table = h.world.table; desk = k; handed = h.world.handed; stay = h.world.stay }; calls = h.calls; each = h.each; used = h.used; history = whole }
