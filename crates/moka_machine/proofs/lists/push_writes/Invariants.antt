-- What was pushed are the numbers of the writes so far.
use Rattle.std.proofs.Common.{◌≡◌, ◌++◌, map, take}
use Rattle.moka_hist.specs.Visits.{number_of}
use Rattle.moka_machine.specs.Listed.{at_place}
use Rattle.moka_machine.proofs.lists.push_writes.Given as goal

abbrev pub invariant-loop-write : goal.invariant-loop-write
invariant-loop-write l = l.places.items ≡ l.initial.places.items ++ at_place l.place (map number_of (take l.write-index l.writes))
