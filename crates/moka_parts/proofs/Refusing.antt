-- What is so of a call by what it answers.
use Rattle.std.proofs.Common.{◌≡◌, Option, None, sym, subst}
use Rattle.std.proofs.lemmas.Bool.{false≢true}
use Rattle.std.specs.Prelude.{Result, Ok, Err, IfOk, OnOk, OnErr, IsErr}

module _ {T E : Type 0} where
  -- of one that is refused nothing is said of its answer
  pub on_refused : (r : Result T E) (A : Type 0) → IsErr r → OnOk r A
  on_refused (Ok t) A e = absurd (false≢true e)
  on_refused (Err x) A e = tt

  -- what is so is so where it is refused
  pub on_err : (r : Result T E) (A : Type 0) → A → OnErr r A
  on_err (Ok t) A a = tt
  on_err (Err x) A a = a

-- a `put_if_absent` that answers None where its `put` is answered
pub none_answered : {T V E A : Type 0} (put : Result T E) (answer : Result (Option V) A) (P : Option V → Type 0) → OnOk put (answer ≡ Ok None) → OnErr put (IsErr answer)
    → OnOk put (P None) → IfOk answer P
none_answered {T} {V} {E} {A} (Ok t) answer P ok err p = subst (λ (r : Result (Option V) A). IfOk r P) (sym ok) p
none_answered (Err x) (Ok there) P ok err p = absurd (false≢true err)
none_answered (Err x) (Err y) P ok err p = tt

-- and is refused where its `put` is
pub refused_alike : {T V E A : Type 0} (put : Result T E) (answer : Result (Option V) A) (Q : Type 0) → OnOk put (answer ≡ Ok None) → OnErr put Q → OnErr answer Q
refused_alike {T} {V} {E} {A} (Ok t) answer Q ok q = subst (λ (r : Result (Option V) A). OnErr r Q) (sym ok) tt
refused_alike (Err x) answer Q ok q = on_err answer Q q
