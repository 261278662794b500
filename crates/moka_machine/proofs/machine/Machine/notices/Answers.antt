-- The sorted notices are the unsorted ones in another order.
use Rattle.std.proofs.Common.{List, IsPermutation, sym, subst, rules}
use Rattle.std.specs.List.Sorted.{IsSortedByKey}
use Rattle.std.specs.Ordering.{nat_cmp}
use Rattle.std.proofs.lemmas.List.Sorted.{answers_always}
use Rattle.moka_hist.specs.declared.notices.Notice.{Notice}
use Rattle.moka_machine.specs.Listed.{all_notices}
use Rattle.moka_machine.proofs.machine.Machine.notices.Goals as goal

pub returns : goal.returns
returns g c = λ s h.
    let all = c.in_ok-notices.ensures s h in
    let moved : IsPermutation (all_notices all.0 s) c.sort_unstable_by_key.new.self.items =
    subst (λ (v : List (Notice g.row.K.Denot g.row.V.Denot)). IsPermutation v c.sort_unstable_by_key.new.self.items) all.2 c.sort_unstable_by_key.ensures.permutation in
    let rises : IsSortedByKey (λ (x : Notice g.row.K.Denot g.row.V.Denot). x.number) nat_cmp c.sort_unstable_by_key.new.self.items =
    c.sort_unstable_by_key.ensures.sorted (λ (x : Notice g.row.K.Denot g.row.V.Denot). x.number) (answers_always _ _ _ (λ f a r k q. search rules)) in
    record {
      calls = all.0;
      live = all.1;
      all = subst (λ (v : List (Notice g.row.K.Denot g.row.V.Denot)). IsPermutation (all_notices all.0 s) v) (sym c.from_vec.ensures) moved;
      ascending = subst (λ (v : List (Notice g.row.K.Denot g.row.V.Denot)). IsSortedByKey (λ (x : Notice g.row.K.Denot g.row.V.Denot). x.number) nat_cmp v) (sym c.from_vec.ensures) rises;
    }
