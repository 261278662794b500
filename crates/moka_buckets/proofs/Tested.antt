-- Calls of a test that was handed in.
use Rattle.std.proofs.Common.{◌≡◌, [], ◌∷◌}
use denote.Ref.{Bor}
use Rattle.std.specs.Fn.{Mut, Called, ComputesKey}

-- a test that answers what h gives does so after a call as well
pub computes_on : {F A R : Type 0} {g : Mut F (Bor A × Unit {0}) R} {f f' : F} (h : A → R) {x : Bor A} {r : R} → ComputesKey g h f → Called g f (x, tt) r f' →
    ComputesKey g h f' × (r ≡ h x.now)
computes_on h {x} {r} k e = (record { at = λ xs. (k.at ((x, tt) ∷ xs) r _ e).1 }, (k.at ((x, tt) ∷ []) r _ e).0)
