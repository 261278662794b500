-- What was pushed, with the notices of the visits that are left, are all.
use Rattle.std.proofs.Common.{◌≡◌, ◌++◌, length}
use Rattle.std.specs.List.{filter_map}
use Rattle.std.specs.Vec.Iter.{into_iter_items, into_iter_len}
use Rattle.moka_hist.specs.State.{DeskPart}
use Rattle.moka_desk.specs.StandsFor as desk
use Rattle.moka_machine.specs.Listed.{waiting}
use Rattle.moka_machine.proofs.notices.push_due.Given as goal

abbrev pub invariant-loop-visit : goal.invariant-loop-visit
invariant-loop-visit g l =
    ((w : DeskPart g.row.K.Denot g.row.V.Denot g.row.E.Denot) → desk.StandsFor g.K.PartialEq.eq l.desk w
    → l.notices.items ++ filter_map (waiting w) (into_iter_items l.visit-iterator)
    ≡ l.initial.notices.items ++ filter_map (waiting w) (into_iter_items l.initial.visit-iterator))
    × (into_iter_len l.visit-iterator ≡ length (into_iter_items l.visit-iterator))
