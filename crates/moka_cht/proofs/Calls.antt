-- Calls of a closure that was handed in.
use Rattle.std.proofs.Common.{◌≡◌, [], ◌∷◌, refl}
use denote.Ref.{Bor}
use Rattle.std.specs.Fn.{Mut, Called, ComputesKey}
use Rattle.moka_cht.specs.Calls.{AnswersPair}

-- a closure that answers what h gives does so after a call as well
pub computes_on : {F A R : Type 0} {g : Mut F (Bor A × Unit {0}) R} {f f' : F} (h : A → R) {x : Bor A} {r : R} → ComputesKey g h f → Called g f (x, tt) r f' → ComputesKey g h f' × (r ≡ h x.now)
computes_on h {x} {r} k e = (record { at = λ xs. (k.at ((x, tt) ∷ xs) r _ e).1 }, (k.at ((x, tt) ∷ []) r _ e).0)

-- a call on a pair gives its answer
pub answers_pair : {F A B R : Type 0} {g : Mut F (Bor A × (Bor B × Unit {0})) R} {f f' : F} {x : Bor A} {y : Bor B} {r : R} → Called g f (x, (y, tt)) r f' → AnswersPair g f x.now y.now r
answers_pair {f'} {x} {y} e = (f', record { first = x; second = y; shows_first = refl; shows_second = refl; called = e })
