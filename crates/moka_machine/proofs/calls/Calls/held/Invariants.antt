-- The numbers so far, with those of the places that are left, are all.
use Rattle.std.proofs.Common.{◌≡◌, ◌++◌, option_to_list}
use Rattle.std.specs.List.{filter_map}
use Rattle.std.specs.Option.{option_and_then}
use Rattle.moka_machine.specs.Calls.{held_in, of_others}
use Rattle.moka_machine.proofs.calls.Calls.held.Given as goal

abbrev pub invariant-loop-call : goal.invariant-loop-call
invariant-loop-call g l =
    l.numbers.items ++ filter_map (of_others l.self.last held_in) l.call-iterator
    ≡ option_to_list (option_and_then held_in l.self.newest) ++ filter_map (of_others l.self.last held_in) l.self.places.entries
