-- What was pushed, with the writes that are left, are all.
use Rattle.std.proofs.Common.{◌≡◌, ◌++◌, map, length, take}
use Rattle.moka_hist.specs.Visits.{number_of}
use Rattle.moka_machine.specs.Listed.{at_place}
use Rattle.moka_machine.proofs.lists.push_queue.Given as goal

abbrev pub invariant-loop-write : goal.invariant-loop-write
invariant-loop-write l = l.places.items ≡ l.initial.places.items ++ at_place l.place (map number_of (take (length l.yielded) l.writes.items))
