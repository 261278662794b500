-- A value that was copied is the answer.
use Rattle.std.proofs.Common.{◌≡◌, Some, subst, sym}
use Rattle.std.specs.Prelude.{Err, IfOk, Ok, Result}
use Rattle.moka_shared.specs.declared.answers.TryGet.{TryGet}
use Rattle.moka_shared.specs.declared.answers.TryGet.TheVariants as get

pub found_is : {V E : Type 0} (v : V) (r : Result (TryGet V) E) → IfOk r (λ got. got ≡ get.Found (Some v)) → (A : TryGet V → Type 0) →
    A (get.Found (Some v)) → IfOk r A
found_is v (Ok got) is A a = subst A (sym is) a
found_is v (Err e) is A a = tt

-- what follows of the value of an answer
pub if_ok_to : {A E : Type 0} (P Q : A → Type 0) (r : Result A E) → ((x : A) → P x → Q x) → IfOk r P → IfOk r Q
if_ok_to P Q (Ok x) to p = to x p
if_ok_to P Q (Err e) to p = tt

pub if_ok_both : {A E : Type 0} (P R Q : A → Type 0) (r : Result A E) → ((x : A) → P x → R x → Q x) → IfOk r P → IfOk r R → IfOk r Q
if_ok_both P R Q (Ok x) to p o = to x p o
if_ok_both P R Q (Err e) to p o = tt
