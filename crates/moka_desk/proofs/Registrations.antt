-- What the registration of a predicate finds and makes, by the number of the first free id among those to come.
use Rattle.std.proofs.Common.{◌≡◌, ◌+◌, ℕ, suc, Bool, true, false, ◌∷◌, [], ◌++◌, Option, Some, None, Ok, Err, arith, sym, ap, ◌∙◌}
use Rattle.std.specs.Option.{option_map, option_map_or}
use Rattle.moka_hist.specs.State.{DeskPart}
use Rattle.moka_hist.specs.Visits.{drawn_by, registered_by, registering_by}
use Rattle.moka_hist.specs.declared.predicates.PredicateError.TheVariants as refused
use Rattle.moka_desk.specs.Predicates.{Draws}

module _ {K V E : Type 0} (w : DeskPart K V E) (test : ℕ) (stream : ℕ → ℕ) where
  -- so many ids are drawn
  pub drawn_then : (closures : Bool) (free first : Option ℕ) → closures ≡ true → free ≡ option_map (λ n. w.drawn + n) first → drawn_by w closures free ≡ w.drawn + option_map_or suc first 1000
  drawn_then false free first on is = cc
  drawn_then true free None on is = ap (drawn_by w true) is
  drawn_then true free (Some n) on is = ap (drawn_by w true) is ∙ next where
    next : suc (w.drawn + n) ≡ w.drawn + suc n
    next = omega arith

  -- the ids that are left are those to come then
  pub draws_then : (left : ℕ → ℕ) (drawn first : ℕ) → Draws stream w → drawn ≡ w.drawn + first → ((n : ℕ) → left n ≡ stream (first + n)) → (n : ℕ) → left n ≡ w.ids (drawn + n)
  draws_then left drawn first draws is others n = others n ∙ draws (first + n) ∙ ap w.ids there where
    there : w.drawn + (first + n) ≡ drawn + n
    there = omega arith

  -- where each is registered, none is registered now
  pub none_is_free : (closures : Bool) (free first : Option ℕ) → closures ≡ true → free ≡ option_map (λ n. w.drawn + n) first → None ≡ option_map stream first →
      (Err refused.NoId ≡ registering_by w closures free) × (w.registered ≡ registered_by w test closures free)
  none_is_free false free first on is none = cc
  none_is_free true free None on is none = (ap (registering_by w true) (sym is), ap (registered_by w test true) (sym is))
  none_is_free true free (Some n) on is none = cc

  -- else one is registered under the first that is free
  pub one_is_free : (closures : Bool) (free first : Option ℕ) (id moment : ℕ) → closures ≡ true → free ≡ option_map (λ n. w.drawn + n) first → Draws stream w → moment ≡ w.clock → Some id ≡ option_map stream first →
      (Ok id ≡ registering_by w closures free) × (w.registered ++ record { id = id; test = test; moment = moment } ∷ [] ≡ registered_by w test closures free)
  one_is_free false free first id moment on is draws now some = cc
  one_is_free true free None id moment on is draws now some = cc
  one_is_free true free (Some n) id moment on is draws now some = (
    ap Ok same ∙ ap (registering_by w true) (sym is),
    ap (λ m. w.registered ++ record { id = id; test = test; moment = m } ∷ []) now
        ∙ ap (λ i. w.registered ++ record { id = i; test = test; moment = w.clock } ∷ []) same ∙ ap (registered_by w test true) (sym is),
  ) where
    same : id ≡ w.ids (w.drawn + n)
    same = ap (λ o. option_map_or (λ m. m) o id) some ∙ draws n
