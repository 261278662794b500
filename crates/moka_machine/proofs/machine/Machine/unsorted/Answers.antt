-- The calls that hold a write are those of the state, and the lists are the desk's.
use Rattle.std.proofs.Common.{◌∙◌}
use Rattle.moka_machine.proofs.ListedPlaces.{places_joined}
use Rattle.moka_machine.proofs.machine.Machine.unsorted.Goals as goal

pub returns : goal.returns
returns g c = λ s h.
    let held = c.in_ok-held.ensures in
    let desk = h.world.desk in (
      held.calls,
      record { distinct = held.lists.distinct; same = λ q. held.lists.same q ∙ h.calls q },
      places_joined held.calls s _ _ _ _ _ _ _ _ _ c.new-places.ensures.items (c.in_ok-push_writes.ensures) (c.applied.ensures h.history s.world.desk desk)
          (c.in_ok-push_queue.ensures) (c.logged.ensures s.world.desk desk) (c.in_ok-push_owed.ensures) (c.owed.ensures s.world.desk desk)
          (c.in_ok-push_numbers.ensures) (c.deref.ensures.value ∙ held.are),
    )
