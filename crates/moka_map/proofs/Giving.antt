-- What an iterator has given in a whole run.
use Rattle.std.proofs.Common.{◌≡◌, Bool, true, false, ◌||◌, List, [], ◌∷◌, Some, None, IsSome, ◌↔◌, refl, sym, ap, subst, ◌∙◌}
use Rattle.std.specs.Cmp.{IsEquivalence}
use Rattle.std.specs.Hash.{HashWrites}
use Rattle.std.specs.List.{AllByRecursion, IsDistinct}
use Rattle.std.specs.Map.{keys_of}
use Rattle.std.specs.Set.{is_member}
use Rattle.std.specs.declared.hash.Hasher as hasher
use Rattle.std.specs.declared.hash.BuildHasher as builder
use Rattle.moka_map.specs.Coming.{AreEachOnce, Coming, GivesNext, IsToCome, Runs}
use Rattle.moka_map.specs.Maps.{entries}
use Rattle.moka_map.proofs.Members.{all_mapped, distinct_more, distinct_none, or_true}

all_keys : {K V : Type 0} (P : K → Type 0) (ps : List (K × V)) → AllByRecursion (λ p. P p.0) ps → AllByRecursion P (keys_of ps)
all_keys P [] a = tt
all_keys P (p ∷ ps) a = (a.0, all_keys P ps a.1)

module _ {K V S H : Type 0} (b : builder.Ghosts S H) (h : hasher.Ghosts H) (eq : K → K → Bool) (input : K → HashWrites) (laws : IsEquivalence eq) where
  abbrev Given : Coming K V S → K × V → Type 0
  Given s p = (entries b h eq input s.map p.0 ≡ Some p) × IsToCome b h eq input s p.0

  -- each that was to come is given, once
  given_once : (ps : List (K × V)) (s mid last : Coming K V S) → Runs b h eq input s ps mid → GivesNext b h eq input mid None last →
      IsDistinct eq (keys_of ps) × AllByRecursion (Given s) ps × ((q : K) → IsToCome b h eq input s q → is_member eq (keys_of ps) q ≡ true)
  given_once [] s mid last run none = (distinct_none eq, tt, λ q c. absurd (none.1 q (subst (λ x. IsToCome b h eq input x q) (sym run) c)))
  given_once (p ∷ ps) s mid last (next, gives, rest) none =
      let later = given_once ps next mid last rest none in (
        distinct_more eq p.0 (keys_of ps) (all_keys (λ k. eq p.0 k ≡ false) ps (all_mapped (Given next) (λ r. eq p.0 r.0 ≡ false) (λ r x. ((gives.3 r.0).0 x.1).1) ps later.1)) later.0,
        (
          (gives.2, gives.1),
          all_mapped (Given next) (Given s) (λ r x. (subst (λ t. entries b h eq input t r.0 ≡ Some r) gives.0 x.0, ((gives.3 r.0).0 x.1).0)) ps later.1,
        ),
        λ q c. by q c (eq p.0 q) refl later.2,
      )
    where
      by : (q : K) → IsToCome b h eq input s q → (t : Bool) → eq p.0 q ≡ t → ((x : K) → IsToCome b h eq input next x → is_member eq (keys_of ps) x ≡ true) →
          (eq q p.0 || is_member eq (keys_of ps) q) ≡ true
      by q c true e later = ap (λ t. t || is_member eq (keys_of ps) q) (laws.symm q p.0 ∙ e)
      by q c false e later = or_true (eq q p.0) (is_member eq (keys_of ps) q) (later q ((gives.3 q).1 (c, e)))

  pub each_once : (s mid last : Coming K V S) (given : List (K × V)) → ((q : K) → IsToCome b h eq input s q ↔ IsSome (entries b h eq input s.map q)) →
      Runs b h eq input s given mid → GivesNext b h eq input mid None last → AreEachOnce eq (entries b h eq input s.map) given
  each_once s mid last given all run none =
      let x = given_once given s mid last run none in
      record {
        distinct = x.0;
        of_map = all_mapped (Given s) (λ p. entries b h eq input s.map p.0 ≡ Some p) (λ p y. y.0) given x.1;
        all = λ q some. x.2 q ((all q).1 some);
      }
