-- Segments that are laid out anew are the same table.
use Rattle.std.proofs.Common.{◌≡◌, ℕ, ◌+◌, ◌≤◌, Bool, true, List, [], ◌∷◌, ◌++◌, take, length, length-append, Option, Some, None, suc, inl, inr, refl, sym, ap, subst, ◌∙◌, arith}
use Rattle.std.specs.Cmp.{IsEquivalence}
use Rattle.std.specs.List.{slice_get}
use Rattle.std.specs.Option.{option_map_or}
use Rattle.std.proofs.lemmas.Option.{slice_get_within, get_or_from_slice_get}
use Rattle.std.proofs.lemmas.List.{take_more}
use Rattle.moka_buckets.specs.declared.part.Part.{Part}
use Rattle.moka_buckets.specs.Compacting.{Compacts, AllCompact}
use Rattle.moka_buckets.specs.Parts.{keys_at, map_at, map_over, keys_of, segment_of, IsPart, AreParts}
use Rattle.moka_buckets.proofs.Placed.{get-back}
use Rattle.moka_buckets.proofs.Beginning.{some_at}
use Rattle.moka_buckets.proofs.Renewing.{part_compact, map_compact, keys_compact}

take_more_at : {X : Type 0} (xs : List X) (i : ℕ) (x : X) → slice_get xs i ≡ Some x → take (i + 1) xs ≡ take i xs ++ x ∷ []
take_more_at xs i x e = subst (λ y. take (i + 1) xs ≡ take i xs ++ y ∷ []) (get_or_from_slice_get xs i x x e) (take_more xs i x (slice_get_within xs i x e))

module _ {K V : Type 0} (eq : K → K → Bool) (laws : IsEquivalence eq) (hash : K → ℕ) (respects : (x y : K) → eq x y ≡ true → hash x ≡ hash y)
    (first most len : ℕ) (least : 128 ≤ first) (old new : List (Part K V)) (well : AreParts eq hash old first most len) (all : AllCompact old new) where
  -- the segment that stood where this one stands
  was : (i : ℕ) (q : Part K V) → slice_get new i ≡ Some q → (p : Part K V) × (slice_get old i ≡ Some p)
  was i q e = let within = slice_get_within new i q e in let many = all.many in some_at old i (omega (arith, within, many))

  each : (i : ℕ) (q : Part K V) → slice_get new i ≡ Some q → IsPart eq hash (length new) first most i q
  each i q e = let p = was i q e in subst (λ n. IsPart eq hash n first most i q) (sym all.many)
      (part_compact eq laws hash respects (length old) first most least i p.0 q (well.each i p.0 p.1) (all.each i p.0 q p.1 e))

  same_keys : (xs ys : List (Part K V)) → length ys ≡ length xs →
      ((i : ℕ) (p q : Part K V) → slice_get xs i ≡ Some p → slice_get ys i ≡ Some q → keys_at q ≡ keys_at p) → keys_of ys ≡ keys_of xs
  same_keys [] [] many same = refl
  same_keys [] (y ∷ ys) many same = absurd (omega (arith, many))
  same_keys (x ∷ xs) [] many same = absurd (omega (arith, many))
  same_keys (x ∷ xs) (y ∷ ys) many same =
      let one = same 0 x y refl refl in let rest = same_keys xs ys (omega (arith, many)) (λ i. same (suc i)) in omega (arith, one, rest)

  pub all_parts : AreParts eq hash new first most len
  all_parts = record {
    each = each;
    counted = well.counted ∙ sym (same_keys old new all.many (λ i p q d e.
        keys_compact eq laws hash respects (length old) first most least i p q (well.each i p d) (all.each i p q d e)));
    some = let some = well.some in let many = all.many in omega (arith, some, many);
  }

  pub all_map : (q : K) → map_over eq hash new q ≡ map_over eq hash old q
  all_map q = ap (λ n. option_map_or (λ p. map_at eq p q) (slice_get new (segment_of n (hash q))) None) all.many ∙ by (segment_of (length old) (hash q)) (slice_get new (segment_of (length old) (hash q))) refl
    where
      by : (i : ℕ) (o : Option (Part K V)) → slice_get new i ≡ o → option_map_or (λ p. map_at eq p q) o None ≡ option_map_or (λ p. map_at eq p q) (slice_get old i) None
      by i (Some x) e = let p = was i x e in
          map_compact eq laws hash respects (length old) first most least i p.0 x (well.each i p.0 p.1) (all.each i p.0 x p.1 e) q
          ∙ sym (ap (λ o. option_map_or (λ p. map_at eq p q) o None) p.1)
      by i None e = sym (ap (λ o. option_map_or (λ p. map_at eq p q) o None) (by_past i e))
        where
          by_past : (i : ℕ) → slice_get new i ≡ None → slice_get old i ≡ None
          by_past i e = at (slice_get old i) refl
            where
              at : (o : Option (Part K V)) → slice_get old i ≡ o → slice_get old i ≡ None
              at None d = d
              at (Some p) d =
                  let within = slice_get_within old i p d in let many = all.many in
                  let x = some_at new i (omega (arith, within, many)) in absurd (cc (sym e ∙ x.1))

-- one segment more
pub all_more : {K V : Type 0} (parts : List (Part K V)) (i : ℕ) (p q : Part K V) (new more : List (Part K V)) → slice_get parts i ≡ Some p → AllCompact (take i parts) new →
    Compacts p q → more ≡ new ++ q ∷ [] → AllCompact (take (i + 1) parts) more
all_more {K} {V} parts i p q new more there all one is =
    let within = slice_get_within parts i p there in
    let front : take (i + 1) parts ≡ take i parts ++ p ∷ [] = take_more_at parts i p there in
    subst (λ xs. AllCompact xs more) (sym front) (subst (λ ys. AllCompact (take i parts ++ p ∷ []) ys) (sym is) (record {
      many = let many = all.many in let a = length-append new (q ∷ []) in let b = length-append (take i parts) (p ∷ []) in omega (arith, many, a, b);
      each = λ j x y d e. elim (get-back (take i parts) p x j d) [
        | inl f ↦ old j x y f e
        | inr f ↦ end j x y f.0 f.1 e
      ];
    }))
  where
    old : (j : ℕ) (x y : Part K V) → slice_get (take i parts) j ≡ Some x → slice_get (new ++ q ∷ []) j ≡ Some y → Compacts x y
    old j x y f e = elim (get-back new q y j e) [
      | inl g ↦ all.each j x y f g
      | inr g ↦ let low = slice_get_within (take i parts) j x f in let many = all.many in let last = g.0 in absurd (omega (arith, low, many, last))
    ]

    end : (j : ℕ) (x y : Part K V) → j ≡ length (take i parts) → x ≡ p → slice_get (new ++ q ∷ []) j ≡ Some y → Compacts x y
    end j x y at is_p e = elim (get-back new q y j e) [
      | inl g ↦ let low = slice_get_within new j y g in let many = all.many in absurd (omega (arith, low, many, at))
      | inr g ↦ subst (λ z. Compacts z y) (sym is_p) (subst (λ z. Compacts p z) (sym g.1) one)
    ]

pub all_none : {K V : Type 0} (new : List (Part K V)) → new ≡ [] → AllCompact {K = K} {V = V} [] new
all_none new none = record {
  many = ap (λ xs. length xs) none;
  each = λ i p q d e. absurd (cc d);
}
