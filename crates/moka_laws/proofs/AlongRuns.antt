-- What happens after a call was started is a way of its steps and of what leaves it alone.
use Rattle.std.proofs.Common.{◌≡◌, ℕ, zero, suc, ◌+◌, ◌==◌, Bool, true, false, List, [], ◌∷◌, Option, Some, None, MatchOption, refl, sym, subst}
use Rattle.std.proofs.lemmas.Bool.{eqb-true}
use Rattle.moka_hist.specs.State.{State, Call}
use Rattle.moka_hist.specs.Run.{Goings, Steps, Polls, Happens, Run, Any, Refuses}
use Rattle.moka_hist.specs.declared.accesses.Turn.TheVariants as turn
use Rattle.moka_hist.specs.declared.events.Event.{Event}
use Rattle.moka_hist.specs.declared.events.Event.TheVariants as event
use Rattle.moka_hist.specs.declared.replies.Refusal.{Refusal}
use Rattle.moka_hist.specs.declared.replies.Reply.{Reply}
use Rattle.moka_laws.specs.Reaching.{RunsAreWays}
use Rattle.moka_laws.specs.Starting.{Way}
use Rattle.moka_laws.specs.Starting as way
use Rattle.moka_laws.proofs.Counting.{differ_not}

module _ {K V E : Type 0} (eq : K → K → Bool) (n : ℕ) (often : State K V E → Call K V E → ℕ) (s : State K V E) where
  -- some way leads to the state
  abbrev Reaches : State K V E → Type 0
  Reaches t = (k : ℕ) × Way eq n often k s t

  refused_reaches : (u v : State K V E) (why : Refusal) (r : Reply K V E) → Reaches u → Refuses u why r v → Reaches v
  refused_reaches u v why r w h = subst Reaches (sym h.same) w

  goings_reach : (k : ℕ) (u v : State K V E) → Reaches u → Goings eq Any k u n v → Reaches v
  unfolding Goings
  goings_reach zero u v w going = subst Reaches (sym going) w
  goings_reach (suc k) u v w going =
      let mid = goings_reach k u going.0 w going.1 in (
        mid.0 + often going.0 going.2.call,
        way.Steps mid.0 s going.0 v going.2.call turn.Going mid.1 going.2.live going.2,
      )

  step_reaches : (u v : State K V E) (r : Reply K V E) → Reaches u → Steps eq u n r v → Reaches v
  step_reaches u v r w steps = (
    w.0 + often u steps.step.call,
    way.Steps w.0 s u v steps.step.call steps.turn w.1 steps.step.live steps.step,
  )

  looked_reaches : (u v : State K V E) (o : Option (Call K V E)) (P : Type 0) (Q : Call K V E → Type 0) →
      (P → Reaches v) → ((c : Call K V E) → Q c → Reaches v) → MatchOption o P Q → Reaches v
  looked_reaches u v None P Q none some h = none h
  looked_reaches u v (Some c) P Q none some h = some c h

  event_reaches : (u v : State K V E) (e : Event K V E) (r : Reply K V E) → Reaches u → Happens eq Any u e r v →
      Reaches v
  event_reaches u v (event.Step m) r w h = by (m == n) refl
    where
      by : (b : Bool) → (m == n) ≡ b → Reaches v
      by false e = (w.0, way.Others w.0 s u v (event.Step m) r w.1 (differ_not m n e) h)
      by true e =
          let own : Happens eq Any u (event.Step n) r v =
          subst (λ x. Happens eq Any u (event.Step x) r v) (eqb-true m n e) h in
          looked_reaches u v (u.calls n) _ (λ _. Steps eq u n r v) (refused_reaches u v _ r w)
          (λ c steps. step_reaches u v r w steps) own
  event_reaches u v (event.Poll m) r w h = by (m == n) refl
    where
      by : (b : Bool) → (m == n) ≡ b → Reaches v
      by false e = (w.0, way.Others w.0 s u v (event.Poll m) r w.1 (differ_not m n e) h)
      by true e =
          let own : Happens eq Any u (event.Poll n) r v =
          subst (λ x. Happens eq Any u (event.Poll x) r v) (eqb-true m n e) h in
          looked_reaches u v (u.calls n) _ (λ _. Polls eq Any u n r v) (refused_reaches u v _ r w)
          (λ c polls. step_reaches polls.mid v r (goings_reach polls.going u polls.mid w polls.goes)
          polls.last) own
  event_reaches u v one r w h = (w.0, way.Others w.0 s u v one r w.1 tt h)

  run_reaches : (u t : State K V E) (es : List (Event K V E)) (rs : List (Reply K V E)) → Reaches u →
      Run eq Any u es rs t → Reaches t
  run_reaches u t [] [] w run = subst Reaches (sym run) w
  run_reaches u t (e ∷ es) (r ∷ rs) w run =
      run_reaches run.0 t es rs (event_reaches u run.0 e r w run.1) run.3
  run_reaches u t [] (r ∷ rs) w run = absurd run
  run_reaches u t (e ∷ es) [] w run = absurd run

module _ {K V E : Type 0} (eq : K → K → Bool) where
  pub runs_ways : RunsAreWays K V E eq
  runs_ways s t n often led =
      run_reaches eq n often s s t led.events led.replies (0, way.Begins s) led.run
