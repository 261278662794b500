-- What happens that is no step leaves the predicates.
use Rattle.std.proofs.Common.{◌≡◌, ℕ, Bool, true, false, Option, Some, None, MatchBool, MatchOption, nat_lt, ◌==◌, refl, ap, ◌∙◌}
use Rattle.moka_hist.specs.Dropping.{dropped}
use Rattle.moka_hist.specs.Run.{Becomes, Drops, Refuses, at_moment, last_call, started, with_desk}
use Rattle.moka_hist.specs.State.{Call, State}
use Rattle.moka_hist.specs.Telling.{is_asked}
use Rattle.moka_hist.specs.Telling.{told as tells}
use Rattle.moka_hist.specs.declared.events.Event.TheVariants as event
use Rattle.moka_hist.specs.declared.events.Told.{Told}
use Rattle.moka_hist.specs.declared.events.Told.TheVariants as told
use Rattle.moka_hist.specs.declared.records.Mode.{Mode}
use Rattle.moka_hist.specs.declared.records.Mode.TheVariants as mode
use Rattle.moka_hist.specs.declared.replies.Refusal.{Refusal}
use Rattle.moka_hist.specs.declared.replies.Reply.{Reply}
use Rattle.moka_laws.specs.Predicates.{OthersLeavePredicates}

module _ {K V E : Type 0} (eq : K → K → Bool) where
  -- the same predicates are registered in both
  abbrev Same : State K V E → State K V E → Type 0
  Same s t = t.world.desk.registered ≡ s.world.desk.registered

  refused : (s t : State K V E) (why : Refusal) (r : Reply K V E) → Refuses s why r t → Same s t
  refused s t why r h = ap (λ v. v.world.desk.registered) h.same

  becomes : (s next t : State K V E) (answer r : Reply K V E) → Same s next → Becomes next answer r t → Same s t
  becomes s next t answer r same h = ap (λ v. v.world.desk.registered) h.after ∙ same

  either : (s t : State K V E) (b : Bool) (X Y : Type 0) → (X → Same s t) → (Y → Same s t) → MatchBool b X Y → Same s t
  either s t true X Y on_true on_false h = on_true h
  either s t false X Y on_true on_false h = on_false h

  looked : (s t : State K V E) (o : Option (Call K V E)) (X : Type 0) (Y : Call K V E → Type 0) → (X → Same s t) → ((c : Call K V E) → Y c → Same s t) →
      MatchOption o X Y → Same s t
  looked s t None X Y none some h = none h
  looked s t (Some c) X Y none some h = some c h

  tells_none : (s : State K V E) (n : ℕ) (given : Told V E) → Same s (with_desk s (tells s.world.desk n given))
  tells_none s n told.Done = refl
  tells_none s n told.Off = refl
  tells_none s n (told.Value value) = refl
  tells_none s n told.Nothing = refl
  tells_none s n (told.Err error) = refl
  tells_none s n (told.Op op) = refl

  drops : (s t : State K V E) (n : ℕ) (c : Call K V E) (m : Mode) (r : Reply K V E) → Drops s n c m r t → Same s t
  drops s t n c mode.Mid r h = refused s t _ r h
  drops s t n c _ r h = becomes s (dropped s n c) t _ r refl h

  pub others_leave : OthersLeavePredicates K V E eq
  others_leave s t (event.Step n) r quiet h = absurd quiet
  others_leave s t (event.Poll n) r quiet h = absurd quiet
  others_leave s t (event.At moment) r quiet h =
      either s t (nat_lt moment s.world.desk.clock) _ _ (λ b. refused s t _ r b) (λ b. becomes s (at_moment s moment) t _ r refl b) h
  others_leave s t (event.Start start) r quiet h =
      either s t (s.world.desk.last == last_call) _ _ (λ b. refused s t _ r b) (λ b. becomes s (started s start) t _ r refl b) h
  others_leave s t (event.Tell n given) r quiet h =
      either s t (is_asked s.world.desk n given) _ _
      (λ b. becomes s (with_desk s (tells s.world.desk n given)) t _ r (tells_none s n given) b) (λ b. refused s t _ r b) h
  others_leave s t (event.Drop n) r quiet h =
      looked s t (s.calls n) _ (λ c. Drops s n c c.mode r t) (λ b. refused s t _ r b) (λ c d. drops s t n c c.mode r d) h
