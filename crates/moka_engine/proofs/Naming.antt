-- Naming records one after another.
use Rattle.std.proofs.Common.{◌≡◌, ℕ, ◌+◌, ◌<◌, List, [], ◌∷◌, ◌++◌, length, get_or, take, map, Option, None, Some, refl, sym, ap, append-nil, cond, ◌-◌, suc, is_none, arith, length-append}
use Rattle.std.specs.Option.{option_map}
use Rattle.std.specs.List.{filter_map, cons_option}
use Rattle.std.specs.Borrow.{Bor}
use Rattle.std.proofs.lemmas.List.{take_more, take-map, length-take, length-map}
use Rattle.std.proofs.lemmas.List.Sorted.{length_permutation}
use Rattle.std.proofs.lemmas.List.Elements.{filter_map-append}
use Rattle.std.proofs.Math.Seq.{take-length}
use Rattle.moka_hist.specs.declared.rules.Rules.{Rules}
use Rattle.moka_hist.specs.declared.rules.Cause.{Cause}
use Rattle.moka_hist.specs.declared.rules.Cause.TheVariants.{Size}
use Rattle.moka_engine.specs.declared.known.Known.{Known}
use Rattle.moka_engine.specs.declared.known.Named.{Named}
use Rattle.moka_engine.specs.Choice.{cause_on_sight, named_for, named_on_sight, staying, surplus_of, IsChoice, KeepsCapacity}

-- what a filter_map gives of one more element, which it gives as y
filter_map-some : {X Y : Type 0} (h : X → Option Y) (xs : List X) (x : X) (y : Y) → h x ≡ Some y → filter_map h (xs ++ x ∷ []) ≡ filter_map h xs ++ y ∷ []
filter_map-some h xs x y e = rw (filter_map-append h xs (x ∷ []), e) refl

-- what it gives of one more element that it leaves out
filter_map-none : {X Y : Type 0} (h : X → Option Y) (xs : List X) (x : X) → h x ≡ None → filter_map h (xs ++ x ∷ []) ≡ filter_map h xs
filter_map-none h xs x e = rw (filter_map-append h xs (x ∷ []), e) (append-nil (filter_map h xs))

module _ {K : Type 0} (rules : Rules) (known : List (Known K)) (i : ℕ) (x : Known K) (there : i < length known) (is : x ≡ get_or known i x) where
  -- one more record is seen, and named
  pub named_one_more : (cause : Cause) (names : List (Named K)) → cause_on_sight rules x ≡ Some cause → names ≡ named_on_sight rules (take i known) → names ++ named_for cause x ∷ [] ≡ named_on_sight rules (take (i + 1) known)
  named_one_more cause names e so_far =
      let given : option_map (λ (d : Cause). named_for d x) (cause_on_sight rules x) ≡ Some (named_for cause x) = rw e refl in
      rw (so_far, take_more known i x there, ← is)
      (sym (filter_map-some (λ k. option_map (λ d. named_for d k) (cause_on_sight rules k)) (take i known) x (named_for cause x) given))

  -- one more record is seen, and stays
  pub named_no_more : (names : List (Named K)) → cause_on_sight rules x ≡ None → names ≡ named_on_sight rules (take i known) → names ≡ named_on_sight rules (take (i + 1) known)
  named_no_more names e so_far =
      let given : option_map (λ (d : Cause). named_for d x) (cause_on_sight rules x) ≡ None = rw e refl in
      rw (so_far, take_more known i x there, ← is)
      (sym (filter_map-none (λ k. option_map (λ d. named_for d k) (cause_on_sight rules k)) (take i known) x given))

-- one function after another
map-map : {X Y Z : Type 0} (f : X → Y) (h : Y → Z) (xs : List X) → map h (map f xs) ≡ map (λ x. h (f x)) xs
map-map f h [] = refl
map-map f h (x ∷ xs) = ap (λ ys. h (f x) ∷ ys) (map-map f h xs)

-- naming what the references of a front point to
pub named_front : {K : Type 0} (order part : List (Bor (Known K))) (n i : ℕ) → part ≡ take n order → i ≡ length part → map (λ x. named_for Size x.now) (take i part) ≡ map (named_for Size) (take n (map (λ x. x.now) order))
named_front {K} order part n i e whole =
    rw (whole, take-length part, e, take-map (λ x. x.now) n order) (sym (map-map (λ (x : Bor (Known K)). x.now) (named_for Size) (take n order)))

module _ {K : Type 0} (rules : Rules) where
  -- each record leaves on sight or stays
  leaving_or_staying : (known : List (Known K)) → length (named_on_sight rules known) + length (staying rules known) ≡ length known
  leaving_or_staying [] = refl
  leaving_or_staying (k ∷ ks) = by (cause_on_sight rules k) (leaving_or_staying ks) where
    by : (o : Option Cause) → length (named_on_sight rules ks) + length (staying rules ks) ≡ length ks → length (cons_option (option_map (λ cause. named_for cause k) o) (named_on_sight rules ks)) + length (cond (is_none o) (k ∷ staying rules ks) (staying rules ks)) ≡ suc (length ks)
    by None e = omega arith
    by (Some cause) e = omega arith

  -- what is chosen leaves no more than the capacity
  pub KeepsCapacity-from_choice : (known : List (Known K)) (names : List (Named K)) → IsChoice rules known names → KeepsCapacity rules.max_capacity (length known) (length names)
  KeepsCapacity-from_choice known names choice = by rules.max_capacity choice.chosen where
    by : (o : Option ℕ) → names ≡ named_on_sight rules known ++ map (named_for Size) (take (surplus_of o (length choice.order)) choice.order) → KeepsCapacity o (length known) (length names)
    by None e = tt
    by (Some most) e =
        let counted = leaving_or_staying known in
        let same = length_permutation _ _ choice.oldest_first.same in
        let front = length-take (length choice.order - most) choice.order in
        let long : length names ≡ length (named_on_sight rules known) + length (take (length choice.order - most) choice.order) =
        rw (e, length-append, length-map) refl in
        omega arith
