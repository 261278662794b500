-- What an iterator has still to give, while it lists segments and gives pairs.
use Rattle.std.proofs.Common.{◌≡◌, ℕ, ◌+◌, ◌-◌, ◌<◌, ◌≤◌, Bool, true, false, ◌||◌, List, [], ◌∷◌, ◌++◌, length, Option, Some, None, IsSome, is_some, Result, Ok, Err, ◌↔◌, inl, inr, zero, suc, refl, sym, ap, subst, ◌∙◌, arith}
use Rattle.std.proofs.lemmas.Bool.{false≢true}
use Rattle.std.specs.Cmp.{IsEquivalence}
use Rattle.std.specs.Hash.{HashWrites}
use Rattle.std.proofs.lemmas.Option.{slice_get_past}
use Rattle.std.specs.Option.{option_map, option_map_or}
use Rattle.std.specs.Set.{is_member}
use Rattle.std.specs.declared.alloc.AllocError.{AllocError}
use Rattle.std.specs.declared.hash.Hasher as hasher
use Rattle.std.specs.declared.hash.BuildHasher as builder
use Rattle.moka_buckets.specs.Asking.{ListsSegment}
use Rattle.moka_buckets.specs.Parts.{map_at, segment_of}
use Rattle.moka_buckets.specs.Views.{Buckets, map_in, segment_for}
use Rattle.moka_map.specs.Coming.{AreListed, Coming, GivesNext, IsOver, IsToCome}
use Rattle.moka_map.specs.Maps.{entries, entry_of}
use Rattle.moka_map.proofs.Answering.{some_entry}
use Rattle.moka_map.proofs.Keys.{alike, named, respects_hash}
use Rattle.moka_map.proofs.Members.{all_both, all_init, all_mapped, all_member, distinct_init, distinct_none, member_has, member_last, or_right}

module _ {K V S H : Type 0} (b : builder.Ghosts S H) (h : hasher.Ghosts H) (eq : K → K → Bool) (input : K → HashWrites) where
  -- at the beginning each pair is to come
  pub all_to_come : (t : Buckets K V S) (q : K) → IsToCome b h eq input (record { map = t; segment = 0; keys = [] }) q ↔ IsSome (entries b h eq input t q)
  all_to_come t q = (fore, λ some. inr (omega arith, some))
    where
      fore : IsToCome b h eq input (record { map = t; segment = 0; keys = [] }) q → IsSome (entries b h eq input t q)
      fore (inl m) = absurd (false≢true m)
      fore (inr x) = x.1

  pub none_listed : (t : Buckets K V S) (ks : List K) → ks ≡ [] → AreListed b h eq input (record { map = t; segment = 0; keys = ks })
  none_listed t ks none = subst (λ xs. AreListed b h eq input (record { map = t; segment = 0; keys = xs })) (sym none) (record {
    distinct = distinct_none eq;
    passed = tt;
  })

  -- past all segments there is no pair
  none_past : (t : Buckets K V S) (q : K) → length t.parts ≤ segment_for b h eq input t q → is_some (entries b h eq input t q) ≡ false
  none_past t q past = ap (λ o. is_some (entry_of (option_map_or (λ p. map_at eq p q) o None))) (slice_get_past t.parts (segment_for b h eq input t q) past)

  -- nothing is to come where no key is left and all segments were listed
  pub nothing_comes : (s : Coming K V S) → IsOver b h eq input s → (q : K) → IsToCome b h eq input s q → ⊥
  nothing_comes s over q (inl m) = false≢true (sym (ap (λ ks. is_member eq ks q) over.0) ∙ m)
  nothing_comes s over q (inr x) = let past = over.1 in let far = x.0 in false≢true (sym (none_past s.map q (omega (arith, past, far))) ∙ x.1)

  -- what is given of a state of which just as much is to come
  pub gives_after : (old mid : Coming K V S) (given : Option (Result (K × V) AllocError)) (new : Coming K V S) → mid.map ≡ old.map →
      ((q : K) → IsToCome b h eq input mid q ↔ IsToCome b h eq input old q) → GivesNext b h eq input mid given new → GivesNext b h eq input old given new
  gives_after old mid None new is same g = (g.0 ∙ is, λ q coming. g.1 q ((same q).1 coming), g.2)
  gives_after old mid (Some (Err e)) new is same g = g ∙ is
  gives_after old mid (Some (Ok p)) new is same g = (
    g.0 ∙ is,
    (same p.0).0 g.1,
    subst (λ t. entries b h eq input t p.0 ≡ Some p) is g.2,
    λ q. (λ c. let x = (g.3 q).0 c in ((same q).0 x.0, x.1), λ x. (g.3 q).1 ((same q).1 x.0, x.1)),
  )

  module _ (laws : IsEquivalence eq) (respects : (x y : K) → eq x y ≡ true → input x ≡ input y) (t : Buckets K V S) (i : ℕ) where
    abbrev place : K → ℕ
    place k = segment_for b h eq input t k

    place_same : (q k : K) → eq q k ≡ true → place q ≡ place k
    place_same q k e = ap (segment_of (length t.parts)) (respects_hash b h eq input t respects q k e)

    module _ (ks : List K) (l : ListsSegment eq (segment_for b h eq input t) (map_in b h eq input t) i ks) where
      here : (q : K) → place q ≡ i → is_member eq ks q ≡ is_some (entries b h eq input t q)
      here q at = l.listed q at ∙ some_entry (map_in b h eq input t q)

      -- once a segment is listed just as much is to come
      pub listed_same : (q : K) → IsToCome b h eq input (record { map = t; segment = i + 1; keys = ks }) q ↔ IsToCome b h eq input (record { map = t; segment = i; keys = [] }) q
      listed_same q = (fore, back)
        where
          fore : IsToCome b h eq input (record { map = t; segment = i + 1; keys = ks }) q → IsToCome b h eq input (record { map = t; segment = i; keys = [] }) q
          fore (inl m) =
              let at : place q ≡ i = member_has eq (λ k. place k ≡ i) (place q ≡ i) q (λ k e p. place_same q k e ∙ p) ks l.own m in
              inr (omega (arith, at), sym (here q at) ∙ m)
          fore (inr x) = let far = x.0 in inr (omega (arith, far), x.1)

          by : (d : ℕ) → place q ≡ i + d → IsSome (entries b h eq input t q) → IsToCome b h eq input (record { map = t; segment = i + 1; keys = ks }) q
          by zero e some = inl (here q (omega (arith, e)) ∙ some)
          by (suc d) e some = inr (omega (arith, e), some)

          back : IsToCome b h eq input (record { map = t; segment = i; keys = [] }) q → IsToCome b h eq input (record { map = t; segment = i + 1; keys = ks }) q
          back (inl m) = absurd (false≢true m)
          back (inr x) = let far = x.0 in by (place q - i) (omega (arith, far)) x.1

      pub listed_kept : AreListed b h eq input (record { map = t; segment = i + 1; keys = ks })
      listed_kept = record {
        distinct = l.distinct;
        passed = all_mapped (λ k. (place k ≡ i) × (is_member eq ks k ≡ true)) (λ k. (place k < i + 1) × IsSome (entries b h eq input t k))
            (λ k x. let at = x.0 in (omega (arith, at), sym (here k at) ∙ x.1)) ks (all_both (λ k. place k ≡ i) (λ k. is_member eq ks k ≡ true) ks l.own (all_member eq laws ks));
      }

    module _ (ks : List K) (k : K) (kept : AreListed b h eq input (record { map = t; segment = i; keys = ks ++ k ∷ [] })) where
      last : (place k < i) × IsSome (entries b h eq input t k)
      last = (all_init (λ x. (place x < i) × IsSome (entries b h eq input t x)) ks k kept.passed).1

      pub last_some : IsSome (entries b h eq input t k)
      last_some = last.1

      pub init_kept : AreListed b h eq input (record { map = t; segment = i; keys = ks })
      init_kept = record {
        distinct = (distinct_init eq ks k kept.distinct).0;
        passed = (all_init (λ x. (place x < i) × IsSome (entries b h eq input t x)) ks k kept.passed).0;
      }

      -- the pair of the last key is given, and all others are to come
      pub last_given : (p : K × V) → entries b h eq input t k ≡ Some p →
          GivesNext b h eq input (record { map = t; segment = i; keys = ks ++ k ∷ [] }) (Some (Ok p)) (record { map = t; segment = i; keys = ks })
      last_given p there = (
        refl,
        inl (member_last eq ks k p.0 ∙ either (is_member eq ks p.0) (laws.symm p.0 k ∙ equal)),
        alike b h eq input t laws (respects_hash b h eq input t respects) k p.0 equal ∙ there,
        λ q. (fore q, back q),
      )
        where
          equal : eq k p.0 ≡ true
          equal = named b h eq input t k p.0 (sym (ap (option_map {U = K} (λ x. x.0)) there))

          either : (u : Bool) → eq p.0 k ≡ true → (u || eq p.0 k) ≡ true
          either true e = refl
          either false e = e

          turned : (q : K) → eq p.0 q ≡ eq q k
          turned q = sym (laws.congr k p.0 q equal) ∙ laws.symm k q

          Old : K → Type 0
          Old q = IsToCome b h eq input (record { map = t; segment = i; keys = ks ++ k ∷ [] }) q

          New : K → Type 0
          New q = IsToCome b h eq input (record { map = t; segment = i; keys = ks }) q

          apart : (q : K) → i ≤ place q → (u : Bool) → eq p.0 q ≡ u → eq p.0 q ≡ false
          apart q far false e = e
          apart q far true e = let same : place k ≡ place q = place_same k q (laws.symm k q ∙ (sym (turned q) ∙ e)) in let near = last.0 in absurd (omega (arith, far, same, near))

          fore : (q : K) → New q → Old q × (eq p.0 q ≡ false)
          fore q (inl m) = (
            inl (member_last eq ks k q ∙ ap (λ u. u || eq q k) m),
            turned q ∙ member_has eq (λ x. eq x k ≡ false) (eq q k ≡ false) q (λ x e d. laws.congr q x k e ∙ d) ks (distinct_init eq ks k kept.distinct).1 m,
          )
          fore q (inr x) = (inr x, apart q x.0 (eq p.0 q) refl)

          by : (q : K) → (u : Bool) → is_member eq ks q ≡ u → is_member eq (ks ++ k ∷ []) q ≡ true → eq p.0 q ≡ false → New q
          by q true e m d = inl e
          by q false e m d = absurd (false≢true (sym d ∙ (turned q ∙ or_right (is_member eq ks q) (eq q k) e (sym (member_last eq ks k q) ∙ m))))

          back : (q : K) → Old q × (eq p.0 q ≡ false) → New q
          back q (inl m, d) = by q (is_member eq ks q) refl m d
          back q (inr x, d) = inr x
