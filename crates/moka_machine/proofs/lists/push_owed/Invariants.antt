-- What was pushed are the numbers of the owed writes so far.
use Rattle.std.proofs.Common.{◌≡◌, ◌++◌, map, length, take}
use Rattle.moka_hist.specs.Visits.{number_of}
use Rattle.moka_hist.specs.declared.writes.Place.TheVariants as place
use Rattle.moka_machine.specs.Listed.{at_place}
use Rattle.moka_machine.proofs.lists.push_owed.Given as goal

abbrev pub invariant-loop-write : goal.invariant-loop-write
invariant-loop-write l = l.places.items ≡ l.initial.places.items ++ at_place place.Owed (map (λ o. number_of o.write) (take (length l.yielded) l.owed.items))
