-- An order by age, of references and of what they point to.
use Rattle.std.proofs.Common.{◌≡◌, ◌+◌, List, [], ◌∷◌, map, refl, sym, ap, ◌∙◌, cond, Bool, true, false}
use Rattle.std.specs.Borrow.{Bor}
use Rattle.std.specs.List.{filter}
use Rattle.std.specs.List.Sorted.{IsPermutation, IsSortedByKey, IsStableByKey, ties}
use Rattle.std.specs.Ordering.{is_lt}
use Rattle.std.proofs.Math.ListN.{get_or-map}
use Rattle.std.proofs.lemmas.List.{length-map}
use Rattle.std.proofs.lemmas.List.Sorted.{IsPermutation-map}
use Rattle.moka_engine.specs.declared.known.Known.{Known}
use Rattle.moka_engine.specs.Choice.{age_of, age_cmp, IsOldestFirst}

-- a filter of what references point to
filter-map : {X Y : Type 0} (p : Y → Bool) (f : X → Y) (xs : List X) → filter p (map f xs) ≡ map f (filter (λ x. p (f x)) xs)
filter-map p f [] = refl
filter-map p f (x ∷ xs) = by (p (f x)) (filter-map p f xs) where
  by : (b : Bool) → filter p (map f xs) ≡ map f (filter (λ y. p (f y)) xs) → cond b (f x ∷ filter p (map f xs)) (filter p (map f xs)) ≡ map f (cond b (x ∷ filter (λ y. p (f y)) xs) (filter (λ y. p (f y)) xs))
  by true e = ap (λ ys. f x ∷ ys) e
  by false e = e

module _ {K : Type 0} where
  -- references that stand by age point to records that stand by age
  pub IsOldestFirst-from_references : (before after : List (Bor (Known K))) → IsPermutation before after → IsSortedByKey (λ r. age_of r.now) age_cmp after → IsStableByKey (λ r. age_of r.now) age_cmp before after → IsOldestFirst (map (λ x. x.now) before) (map (λ x. x.now) after)
  IsOldestFirst-from_references before after same sorted stable =
      let to : Bor (Known K) → Known K = λ r. r.now in
      let from : Known K → Bor (Known K) = λ k. record { ref_ptr = (0, 0); now = k } in
      let older : Known K → Known K → Bool = λ x y. is_lt (age_cmp (age_of x) (age_of y)) in
      record {
        same = IsPermutation-map to before after same;
        sorted = λ k d low high.
            rw (get_or-map to after (k + 1) (from d), get_or-map to after k (from d))
            (sorted k (from d) low (rw (length-map after to) at high));
        stable = λ x.
            filter-map (ties older x) to after ∙ ap (map to) (stable (from x)) ∙ sym (filter-map (ties older x) to before);
      }
