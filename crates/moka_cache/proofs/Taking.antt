-- What is taken of who is asked.
use Rattle.std.proofs.Common.{◌≡◌, Bool, [], ◌∷◌, Option, Some, None, refl, sym, subst}
use Rattle.std.proofs.lemmas.Option.{none-some, same_Some}
use Rattle.moka_hist.specs.declared.events.Told.{Told}
use Rattle.moka_kept.specs.Taking.{Answered, Brings, Taken, Tested}
use Rattle.moka_kept.specs.declared.brought.Brought.{Brought}
use Rattle.moka_kept.specs.declared.brought.Brought.TheVariants as brought
use Rattle.moka_cache.specs.Asked.{Accords, IsAskedFor, MayAnswer}

module _ {V E : Type 0} (such other : Told V E → Type 0) (so also : V → Bool → Type 0) where
  -- who is asked may give less from then on
  pub accords_weaker : ((told : Told V E) → such told → other told) → ((value : V) (replaced : Bool) → so value replaced → also value replaced)
      → (taken : Taken V E) → Accords such so taken → Accords other also taken
  accords_weaker told tested (Answered t) h = told t h
  accords_weaker told tested (Tested value replaced) h = tested value replaced h

module _ {Q V : Type 0} (E : Type 0) (asks : Q → V → Bool → Q → Type 0) (old new : Q) where
  -- the test was asked on the value that was to be tested
  pub asked_for : (tested : Option V) (value : V) (replaced : Bool) → tested ≡ Some value → asks old value replaced new → IsAskedFor {E = E} asks tested old (brought.Tested replaced) new
  asked_for tested value replaced is once = subst (λ o. IsAskedFor {E = E} asks o old (brought.Tested replaced) new) (sym is) once

  -- nothing was to be tested
  pub unasked_for : (tested : Option V) → tested ≡ None → new ≡ old → IsAskedFor {E = E} asks tested old brought.Nothing new
  unasked_for tested is same = subst (λ o. IsAskedFor {E = E} asks o old brought.Nothing new) (sym is) same

module _ {Q V E : Type 0} (asks : Q → V → Bool → Q → Type 0) (old new : Q) where
  -- it is as it was then
  pub unasked_then : (tested : Option V) (b : Brought V E) → IsAskedFor asks tested old b new → tested ≡ None → new ≡ old
  unasked_then None brought.Nothing once is = once
  unasked_then None (brought.Tested replaced) once is = absurd once
  unasked_then None (brought.Told told) once is = absurd once
  unasked_then (Some value) b once is = absurd (none-some value (sym is))

module _ {V E : Type 0} (such : Told V E → Type 0) (so : V → Bool → Type 0) where
  -- what is told is such
  pub told_accords : (value : Option V) (answer : Told V E) → such answer → (taken : Taken V E) → Brings value (brought.Told answer) taken → Accords such so taken
  told_accords value answer given taken is = subst (Accords such so) (sym is) given

  -- what the test answered is so of the value that was tested, if one was
  pub tested_accords : (tested : Option V) (value : V) (replaced : Bool) → tested ≡ Some value → so value replaced
      → (taken : Taken V E) → Brings tested (brought.Tested replaced) taken → Accords such so taken
  tested_accords None value replaced there given taken is = absurd is
  tested_accords (Some v) value replaced there given taken is =
      subst (Accords such so) (sym is) (subst (λ x. so x replaced) (sym (same_Some v value there)) given)

module _ {F V : Type 0} (calls : F → V → Bool → F → Type 0) where
  -- what a call of a test answered it may answer
  pub may_now : (first : F) (value : V) (replaced : Bool) (next : F) → calls first value replaced next → MayAnswer calls first value replaced
  may_now first value replaced next called = record { made = []; before = first; came = refl; after = next; answers = called }

  -- what it may answer after a call it may answer after some
  pub may_since : (first : F) (v : V) (r : Bool) (next : F) → calls first v r next → (value : V) (replaced : Bool) → MayAnswer calls next value replaced → MayAnswer calls first value replaced
  may_since first v r next called value replaced may =
      record { made = (v, r) ∷ may.made; before = may.before; came = (next, called, may.came); after = may.after; answers = may.answers }
