-- How the listener's polls of a notice are told, from one layer to the next.
use Rattle.std.proofs.Common.{◌≡◌, ℕ, Option, Some, None, IfNone, IfSome, IsSome, IsSomeAnd, sym, ◌∙◌, subst}
use Rattle.std.proofs.lemmas.Option.{none-some, same_Some}
use Rattle.futures.specs.Poll.{IfReady}
use Rattle.futures.specs.declared.task.Poll.{Poll}
use Rattle.futures.specs.declared.task.Poll.TheVariants.{Ready, Pending}
use Rattle.moka_kept.specs.declared.heard.Heard.{Heard}
use Rattle.moka_kept.specs.declared.heard.ListenerEnd.{ListenerEnd}
use Rattle.moka_cache.specs.Hearing.{Awaits, Ends, IsHeard, Unheard, WasPolled}

-- what holds of all holds of what there is
pub whichever : {A : Type 0} (o : Option A) (P : A → Type 0) → ((a : A) → P a) → IfSome o P
whichever None P all = tt
whichever (Some a) P all = all a

-- less is said of what was heard
pub ended_so : {A : Type 0} (o : Option (Poll A)) (P Q : A → Type 0) → ((heard : A) → P heard → Q heard) → IfSome o (λ polled. IfReady polled P) → IfSome o (λ polled. IfReady polled Q)
ended_so None P Q weaker h = tt
ended_so (Some Pending) P Q weaker h = tt
ended_so (Some (Ready heard)) P Q weaker h = weaker heard h

pub ready_ended : {A : Type 0} (poll : Poll A) (P Q : A → Type 0) → ((heard : A) → P heard → Q heard) → IfReady poll P → IfReady poll Q
ready_ended Pending P Q weaker h = tt
ready_ended (Ready heard) P Q weaker h = weaker heard h

pub none_so : {A : Type 0} (o : Option A) (P Q : Type 0) → (P → Q) → IfNone o P → IfNone o Q
none_so None P Q f p = f p
none_so (Some a) P Q f p = tt

-- what the turn hands on is what the poll gave
pub ready_so : {A : Type 0} (o : Option A) (poll : Poll A) (P : A → Type 0) → IfSome o (λ heard. poll ≡ Ready heard) → IfReady poll P → IfSome o P
ready_so None poll P is ready = tt
ready_so (Some heard) poll P is ready = subst (λ p. IfReady p P) is ready

module _ {L : Type 0} (at : Option ℕ) where
  -- the listener is the one that there is
  pub heard_so : (ends : L → ℕ → ListenerEnd → Type 0) (listener : Option L) (l : L) → listener ≡ Some l → (heard : Heard) → IsHeard (ends l) at heard → IsHeard (Ends ends listener) at heard
  heard_so ends listener l is heard h = (h.0, subst (λ o. IsSomeAnd o (λ it. ends it heard.notice heard.end)) (sym is) h.1)

  module _ (pends : L → ℕ → Type 0) (listener : Option L) where
    -- it was polled for the one notice that is awaited
    pub awaited_polled : Awaits (Unheard pends listener) at → WasPolled pends listener at
    awaited_polled by there n is = subst (λ m. Unheard pends listener m) (same_Some by.0 n (sym by.1 ∙ is)) by.2

    -- none is awaited
    pub unawaited : (IsSome listener → at ≡ None) → WasPolled pends listener at
    unawaited none there n is = absurd (none-some n (sym (none there) ∙ is))
