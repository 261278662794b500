use Rattle.std.proofs.Common.{◌∷◌, ℕ, nat_eq, unwrap_or, ◌∙◌}
use Rattle.std.specs.HashMap.{get}
use Rattle.std.specs.List.Sorted.{IsPermutation}
use Rattle.moka_desk.proofs.Waiting.{counted_more, where_none}
use Rattle.moka_desk.proofs.loads.Loads.join.Goals as goal

pub invariant_of-self-clause-all_are_counted : goal.invariant_of-self-clause-all_are_counted
invariant_of-self-clause-all_are_counted g c = λ n.
    let s = c.args.self.now in
    let call = c.args.call in
    let owner = c.args.owner in
    let count : ℕ → ℕ = λ m. unwrap_or (get nat_eq s.readers m) 0 in
    let more : IsPermutation ((call, owner) ∷ s.joined.entries) c.put.new.map.entries =
    where_none (get nat_eq s.joined call) _ _ c.put.ensures.entries c.requires.apart in
    c.count_one.ensures n
    ∙ counted_more count s.joined.entries c.put.new.map.entries call owner n s.all_are_counted more
