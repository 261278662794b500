-- Runs through states of which something holds, and through others of which as much does.
use Rattle.std.proofs.Common.{ℕ, zero, suc, Bool, List, [], ◌∷◌, Option, Some, None, MatchOption}
use Rattle.moka_hist.specs.State.{State}
use Rattle.moka_hist.specs.Run.{Goings, Polls, Happens, Run, IsReached, Any}
use Rattle.moka_hist.specs.declared.events.Event.{Event}
use Rattle.moka_hist.specs.declared.events.Event.TheVariants as event
use Rattle.moka_hist.specs.declared.replies.Reply.{Reply}
use Rattle.moka_laws.proofs.Reached.{steps_reached, event_reached, step_reached}

matched : {A : Type 0} (o : Option A) (X Y Z : Type 0) → (Y → Z) → MatchOption o X (λ _. Y) → MatchOption o X (λ _. Z)
matched None X Y Z f h = h
matched (Some a) X Y Z f h = f h

module _ {K V E : Type 0} (eq : K → K → Bool) (P Q : State K V E → Type 0) (more : (v : State K V E) → IsReached eq v → P v → Q v) where
  pub steps_more : (k : ℕ) (s t : State K V E) (n : ℕ) → IsReached eq s → Goings eq P k s n t → Goings eq Q k s n t
  unfolding Goings
  steps_more zero s t n h going = going
  steps_more (suc k) s t n h going =
      let mid = steps_reached eq P k s going.0 n h going.1 in
      (going.0, steps_more k s going.0 n h going.1, going.2, more t (step_reached eq going.0 t n _ mid going.2) going.3)

  polls_more : (s t : State K V E) (n : ℕ) (r : Reply K V E) → IsReached eq s → Polls eq P s n r t → Polls eq Q s n r t
  polls_more s t n r h p = record { going = p.going; mid = p.mid; goes = steps_more p.going s p.mid n h p.goes; last = p.last; ends = p.ends }

  pub event_more : (s t : State K V E) (e : Event K V E) (r : Reply K V E) → IsReached eq s → Happens eq P s e r t → Happens eq Q s e r t
  event_more s t (event.Poll n) r h e = matched (s.calls n) _ _ _ (polls_more s t n r h) e
  event_more s t _ r h e = e

module _ {K V E : Type 0} (eq : K → K → Bool) (P Q : State K V E → Type 0) (more : (v : State K V E) → IsReached eq v → P v → Q v) where
  pub run_more : (s t : State K V E) (es : List (Event K V E)) (rs : List (Reply K V E)) → IsReached eq s → Run eq P s es rs t → Run eq Q s es rs t
  run_more s t [] [] h run = run
  run_more s t (e ∷ es) (r ∷ rs) h run =
      let mid = event_reached eq s run.0 e r h (event_more eq P Any (λ v i p. tt) s run.0 e r h run.1) in
      (run.0, event_more eq P Q more s run.0 e r h run.1, more run.0 mid run.2, run_more run.0 t es rs mid run.3)
  run_more s t [] (r ∷ rs) h run = absurd run
  run_more s t (e ∷ es) [] h run = absurd run
