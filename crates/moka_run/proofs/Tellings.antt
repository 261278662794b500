-- What an event tells, and what the events after it do.
use Rattle.std.proofs.Common.{◌≡◌, ◌≢◌, ◌<◌, ℕ, ◌+◌, List, [], ◌∷◌, ◌++◌, drop, get_or, length, Some, None, sym, ap, ◌∙◌, append_assoc, append-nil}
use Rattle.std.proofs.lemmas.List.{at_drop_more}
use Rattle.moka_laws.proofs.Counting.{some_same}
use Rattle.moka_hist.specs.State.{State}
use Rattle.moka_hist.specs.declared.events.Event.{Event}
use Rattle.moka_hist.specs.declared.events.Event.TheVariants as event
use Rattle.moka_hist.specs.declared.events.Told.{Told}
use Rattle.moka_machine.specs.WantOfMemory.{MayStopIn, MayStopServing}
use Rattle.moka_run.specs.Running.{asked_in, told_by, told_in}

module _ {A : Type 0} where
  same_head : {x y : A} {xs ys : List A} → x ∷ xs ≡ y ∷ ys → x ≡ y
  same_head e = cc

  same_rest : {x y : A} {xs ys : List A} → x ∷ xs ≡ y ∷ ys → xs ≡ ys
  same_rest e = cc

  some_not_none : {x : A} {xs : List A} → x ∷ xs ≡ [] → ⊥
  some_not_none e = cc

module _ {K V E : Type 0} where
  -- what events tell of which one comes after the others
  pub told_one_more : (es : List (Event K V E)) (e : Event K V E) → told_in (es ++ e ∷ []) ≡ told_in es ++ told_by e
  told_one_more [] e = append-nil (told_by e)
  told_one_more (x ∷ es) e = ap (λ (l : List (Told V E)). told_by x ++ l) (told_one_more es e) ∙ sym (append_assoc (told_by x) (told_in es) (told_by e))

  same_tell : (n call : ℕ) (a answer : Told V E) → n ≡ call → a ≡ answer →
      ◌≡◌ {A = Event K V E} (event.Tell n a) (event.Tell call answer)
  same_tell n call a answer e h = cc

  -- an event that tells, tells the front of the copies
  pub tells_front : (e : Event K V E) (call : ℕ) (answer : Told V E) (told after rest : List (Told V E)) →
      asked_in e ≡ Some call → told ≡ told_by e ++ rest → told ≡ answer ∷ after →
      (e ≡ event.Tell call answer) × (after ≡ rest)
  tells_front (event.Tell n a) call answer told after rest asks front popped =
      (same_tell n call a answer (some_same asks) (same_head (sym front ∙ popped)), sym (same_rest (sym front ∙ popped)))
  tells_front (event.At moment) call answer told after rest asks front popped = cc
  tells_front (event.Start start) call answer told after rest asks front popped = cc
  tells_front (event.Step n) call answer told after rest asks front popped = cc
  tells_front (event.Poll n) call answer told after rest asks front popped = cc
  tells_front (event.Drop n) call answer told after rest asks front popped = cc

  -- there is one
  pub has_front : (e : Event K V E) (call : ℕ) (told rest : List (Told V E)) →
      asked_in e ≡ Some call → told ≡ told_by e ++ rest → told ≢ []
  has_front (event.Tell n a) call told rest asks front empty = some_not_none (sym front ∙ empty)
  has_front (event.At moment) call told rest asks front empty = cc
  has_front (event.Start start) call told rest asks front empty = cc
  has_front (event.Step n) call told rest asks front empty = cc
  has_front (event.Poll n) call told rest asks front empty = cc
  has_front (event.Drop n) call told rest asks front empty = cc

  -- what the events from this one on tell
  pub next_told : (es : List (Event K V E)) (i : ℕ) (e : Event K V E) (told : List (Told V E)) → i < length es →
      e ≡ get_or es i e → told ≡ told_in (drop i es) → told ≡ told_by e ++ told_in (drop (i + 1) es)
  next_told es i e told lt is left =
      left ∙ at_drop_more (λ (rest : List (Event K V E)). told_in rest) es i e lt
      ∙ ap (λ (x : Event K V E). told_by x ++ told_in (drop (i + 1) es)) (sym is)

  -- an event that tells nothing takes nothing off the copies
  pub tells_none : (e : Event K V E) (told rest : List (Told V E)) →
      asked_in e ≡ None → told ≡ told_by e ++ rest → told ≡ rest
  tells_none (event.Tell n a) told rest asks front = cc
  tells_none (event.At moment) told rest asks front = front
  tells_none (event.Start start) told rest asks front = front
  tells_none (event.Step n) told rest asks front = front
  tells_none (event.Poll n) told rest asks front = front
  tells_none (event.Drop n) told rest asks front = front

  -- and memory is wanting in it for itself
  pub stops_untold : (s : State K V E) (e : Event K V E) → asked_in e ≡ None → MayStopServing s e → MayStopIn s e
  stops_untold s (event.Tell n a) asks needs = cc
  stops_untold s (event.At moment) asks needs = needs
  stops_untold s (event.Start start) asks needs = needs
  stops_untold s (event.Step n) asks needs = needs
  stops_untold s (event.Poll n) asks needs = needs
  stops_untold s (event.Drop n) asks needs = needs
