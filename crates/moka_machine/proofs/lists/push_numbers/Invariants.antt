-- What was pushed are the numbers so far.
use Rattle.std.proofs.Common.{◌≡◌, ◌++◌, take}
use Rattle.moka_machine.specs.Listed.{at_place}
use Rattle.moka_machine.proofs.lists.push_numbers.Given as goal

abbrev pub invariant-loop-number : goal.invariant-loop-number
invariant-loop-number l = l.places.items ≡ l.initial.places.items ++ at_place l.place (take l.number-index l.numbers)
