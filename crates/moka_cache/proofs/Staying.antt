-- Who is asked, and the context, stay so over one step after another.
use Rattle.std.proofs.Common.{◌≡◌, Bool, Option, Some, None, refl}
use Rattle.futures.specs.Task.{Keeps}
use Rattle.futures.specs.declared.task.Poll.{Poll}
use Rattle.futures.specs.declared.task.context.Context.{Context}
use Rattle.moka_hist.specs.declared.events.Told.{Told}
use Rattle.moka_cache.specs.Asked.{FoundSo, entry_of}
use Rattle.moka_cache.specs.Stays.{AskedStays, ContextStays}

-- a pair that is so was found as an entry that is
pub found_so : {K V : Type 0} (holds : K → V → Type 0) (found : Option (K × V)) → ((pair : K × V) → found ≡ Some pair → holds pair.0 pair.1) → FoundSo holds (entry_of found)
found_so holds None so = tt
found_so holds (Some pair) so = so pair refl

module _ {Q V E : Type 0} (can_poll : Q → Type 0) (gives : Q → Told V E → Type 0) (tests : Q → V → Bool → Type 0) where
  -- it wasn't asked
  pub asked_still : (asked : Q) → can_poll asked → AskedStays can_poll gives tests asked asked
  asked_still asked can = record { asks = can; same = λ told gives. gives; tested = λ value replaced tests. tests }

  -- it was asked once more
  pub asked_since : (first mid last : Q) → AskedStays can_poll gives tests first mid → AskedStays can_poll gives tests mid last → AskedStays can_poll gives tests first last
  asked_since first mid last one two = record {
    asks = two.asks;
    same = λ told gives. one.same told (two.same told gives);
    tested = λ value replaced tests. one.tested value replaced (two.tested value replaced tests);
  }

-- the context was kept before, too
pub context_since : {A : Type 0} (first mid last : Context) (over : Option (Poll A)) → Keeps first mid → ContextStays mid last over → ContextStays first last over
context_since first mid last over before stays = record { kept = λ fact holds. stays.kept fact (before fact holds); armed = stays.armed }
