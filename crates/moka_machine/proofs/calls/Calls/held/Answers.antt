-- After the loop no place is left, and the numbers are those of all places.
use Rattle.std.proofs.Common.{◌≡◌, ◌++◌, sym, ap, arith, option_to_list, ◌∙◌}
use Rattle.std.proofs.lemmas.Grind.{common_steps}
use Rattle.std.specs.List.{filter_map}
use Rattle.std.specs.Option.{option_and_then}
use Rattle.moka_machine.specs.Calls.{held_in, of_others}
use Rattle.moka_machine.proofs.Newest.{all_hold, one_more}
use Rattle.moka_machine.proofs.calls.Calls.held.Goals as goal

pub returns : goal.returns
returns g c =
    let s = c.args.self.now in
    let all : c.loop-call.numbers.items ≡ option_to_list (option_and_then held_in s.newest) ++ filter_map (of_others s.last held_in) s.places.entries = grind (arith, common_steps) in
    all_hold s.last s.newest s.places.entries c.iter-call-items.ensures.unique c.loop-call.numbers.items all

pub loop-call-preserved : goal.loop-call-preserved
loop-call-preserved g c =
    let s = c.args.self.now in
    let so_far = c.loop-call.numbers.items in
    let all = option_to_list (option_and_then held_in s.newest) ++ filter_map (of_others s.last held_in) s.places.entries in
    one_more (of_others s.last held_in) so_far (c.in-Some.call.now, c.in-Some.place.now) c.next.new.self c.push_some.new.items.items all
    (c.in_ok-push_some.ensures ∙ ap (λ o. so_far ++ option_to_list o) c.other_held.ensures)
    (sym (ap (λ es. so_far ++ filter_map (of_others s.last held_in) es) c.in-Some.ensures.steps) ∙ c.loop-call.invariant)
