-- The sorted places are the unsorted ones in another order.
use Rattle.std.proofs.Common.{ℕ, List, IsPermutation, sym, subst, rules}
use Rattle.std.specs.List.Sorted.{IsSortedByKey}
use Rattle.std.specs.Ordering.{nat_cmp}
use Rattle.std.proofs.lemmas.List.Sorted.{answers_always}
use Rattle.moka_hist.specs.declared.writes.Place.{Place}
use Rattle.moka_machine.specs.Listed.{all_places}
use Rattle.moka_machine.proofs.machine.Machine.places.Goals as goal

pub returns : goal.returns
returns g c = λ s h.
    let all = c.in_ok-places.ensures s h in
    let moved : IsPermutation (all_places all.0 s) c.sort_unstable_by_key.new.self.items =
    subst (λ (v : List (ℕ × Place)). IsPermutation v c.sort_unstable_by_key.new.self.items) all.2 c.sort_unstable_by_key.ensures.permutation in
    let rises : IsSortedByKey (λ (p : ℕ × Place). p.0) nat_cmp c.sort_unstable_by_key.new.self.items =
    c.sort_unstable_by_key.ensures.sorted (λ (p : ℕ × Place). p.0) (answers_always _ _ _ (λ f a r k q. search rules)) in
    record {
      calls = all.0;
      live = all.1;
      all = subst (λ (v : List (ℕ × Place)). IsPermutation (all_places all.0 s) v) (sym c.from_vec.ensures) moved;
      ascending = subst (λ (v : List (ℕ × Place)). IsSortedByKey (λ (p : ℕ × Place). p.0) nat_cmp v) (sym c.from_vec.ensures) rises;
    }
