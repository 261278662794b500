-- Calls of a test that was handed in.
use Rattle.std.proofs.Common.{◌≡◌, List, [], ◌∷◌, refl, subst}
use denote.Ref.{Bor}
use Rattle.std.specs.Fn.{Mut, Called, ComputesKey, ReturnsEach}

-- a test that answers what h gives does so after a call as well
pub computes_on : {F A R : Type 0} {g : Mut F (Bor A × Unit {0}) R} {f f' : F} (h : A → R) {x : Bor A} {r : R} → ComputesKey g h f → Called g f (x, tt) r f' →
    ComputesKey g h f' × (r ≡ h x.now)
computes_on h {x} {r} k e = (record { at = λ xs. (k.at ((x, tt) ∷ xs) r _ e).1 }, (k.at ((x, tt) ∷ []) r _ e).0)

-- a test that answers what h gives at its first call, and stays as it is, does so at each
pub computes : {F A R : Type 0} {g : Mut F (Bor A × Unit {0}) R} {f : F} (h : A → R) →
    ((a : Bor A × Unit {0}) (r : R) (f' : F) → Called g f a r f' → (r ≡ h a.0.now) × (f' ≡ f)) → ComputesKey g h f
computes {F} {A} {R} {g} {f} h told = record { at = each f refl }
  where
    each : (f' : F) → f' ≡ f → (xs : List (Bor A × Unit {0})) → ReturnsEach g (λ a r. r ≡ h a.0.now) f' xs
    each f' same [] = tt
    each f' same (a ∷ xs) = λ r next called. (
      (told a r next (subst (λ k. Called g k a r next) same called)).0,
      each next (told a r next (subst (λ k. Called g k a r next) same called)).1 xs,
    )
