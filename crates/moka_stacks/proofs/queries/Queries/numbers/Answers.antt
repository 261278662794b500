-- The numbers are sorted, and each is there once.
use Rattle.std.proofs.Common.{◌≡◌, ℕ, nat_eq, is_some, Option, Some, None, true, refl, sym, ◌∙◌, subst}
use Rattle.std.proofs.lemmas.Bool.{eqb-true}
use Rattle.std.proofs.lemmas.List.Filters.{dedup_is}
use Rattle.std.proofs.lemmas.List.Kept.{Contains-dedup_nat, Contains-from_dedup}
use Rattle.std.proofs.lemmas.List.Sorted.{Contains-permutation, IsPermutation-sym}
use Rattle.std.proofs.lemmas.Map.Keys.{IsStrictlyIncreasing-dedup}
use Rattle.std.proofs.lemmas.Map.Views.{Contains-from_any, hash_map_contains_key_iff, list_any-from_Contains}
use Rattle.std.specs.Cmp.{nat_eq_equiv}
use Rattle.std.specs.HashMap.{get}
use Rattle.std.specs.List.{Contains}
use Rattle.std.specs.Option.{option_map}
use Rattle.moka_stacks.specs.Queries.{stack_at, stack_of}
use Rattle.moka_stacks.specs.declared.queries.Query.{Query}
use Rattle.moka_stacks.proofs.Ordered.{numbers_are}
use Rattle.moka_stacks.proofs.queries.Queries.numbers.Goals as goal

-- a query that is kept has a stack
mapped : (x : Option Query) → is_some (option_map stack_of x) ≡ is_some x
mapped None = refl
mapped (Some query) = refl

exact : (x y : ℕ) → nat_eq x y ≡ true → x ≡ y
exact x y e = eqb-true x y e

pub returns : goal.returns
returns c = λ last range.
    let map = c.args.self.now.map in
    let is = dedup_is _ _ _ c.dedup.ensures.filtered in
    let moved = c.sort_unstable.ensures.permutation in
    let all = c.in_ok-numbers.ensures in
    numbers_are last (λ q. is_some (stack_at c.args.self.now q)) c.dedup.new.self.items
    (rw is (IsStrictlyIncreasing-dedup _ c.sort_unstable.ensures.sorted))
    range
    (λ q e. mapped (get nat_eq map q) ∙ (hash_map_contains_key_iff nat_eq_equiv exact map q).1
    (subst (λ xs. Contains xs q) all
    (Contains-permutation _ _ q (IsPermutation-sym _ _ moved)
    (Contains-from_dedup _ _ q (rw is at (Contains-from_any exact q c.dedup.new.self.items e))))))
    (λ q e. list_any-from_Contains nat_eq_equiv q c.dedup.new.self.items
    (rw is (Contains-dedup_nat _ q (Contains-permutation _ _ q moved
    (subst (λ xs. Contains xs q) (sym all)
    ((hash_map_contains_key_iff nat_eq_equiv exact map q).0 (sym (mapped (get nat_eq map q)) ∙ e)))))))
