-- A call that owns a load owns it until it settles.
use Rattle.std.proofs.Common.{◌≡◌, ◌⊎◌, inl, inr, ℕ, ◌+◌, ◌==◌, Bool, true, false, cond, List, [], ◌∷◌, is_some, refl, sym, ap, ◌∙◌, subst, arith}
use Rattle.std.proofs.lemmas.Bool.{eqb-true}
use Rattle.std.specs.Cmp.{IsEquivalence}
use Rattle.moka_hist.specs.State.{Call, World}
use Rattle.moka_hist.specs.Plan.{Item}
use Rattle.moka_hist.specs.Plan as plan
use Rattle.moka_hist.specs.Next.{Next}
use Rattle.moka_hist.specs.Run.{IsReached}
use Rattle.moka_hist.specs.declared.events.Event.TheVariants as event
use Rattle.moka_hist.specs.declared.replies.Reply.TheVariants as reply
use Rattle.moka_laws.specs.Computes.{IsSettling, OneComputeActs, OwnedUntilSettled, OwnsComputes}
use Rattle.moka_laws.proofs.Computed.{acting_own, others_own}
use Rattle.moka_laws.proofs.Outcomes.{Outcomes, outcomes, passes_by}
use Rattle.moka_laws.proofs.Owning.{plan_left}
use Rattle.moka_laws.proofs.OwnersOwn.{computes_one}
use Rattle.moka_laws.proofs.Reached.{run_reached, event_reached}
use Rattle.moka_laws.proofs.Roles.{Fits, owners}
use Rattle.moka_laws.proofs.Served.{IsServed, in_served}
use Rattle.moka_laws.proofs.StepCases.{OnStep, step_cases}
use Rattle.moka_laws.proofs.Weights.{weigh}

module _ {K V E : Type 0} (eq : K → K → Bool) (w : World K V E) (n : ℕ) (c : Call K V E) where
  -- the call owns as it did, or the plan settles
  abbrev Owned : List (Item K V E) → World K V E → Next K V E → Type 0
  Owned p new next = (new.desk.owning n ≡ w.desk.owning n) ⊎ IsSettling p

  -- who owns a load has an item of an owner
  cannot_own : (rest : List (Item K V E)) → is_some (w.desk.owning n) ≡ true → rest ≡ [] →
      0 + weigh owners rest ≡ cond (is_some (w.desk.owning n)) 1 0 → ⊥
  cannot_own rest own last weighs =
      let one = ap (λ b. cond {A = ℕ} b 1 0) own in
      omega (arith, weighs, one, ap (weigh owners) last)

  on_item : (item : Item K V E) (rest : List (Item K V E)) → is_some (w.desk.owning n) ≡ true →
      Fits (w.desk.owning n) (w.desk.joined n) (item ∷ rest) →
      Outcomes eq (Owned (item ∷ rest)) w n c item rest
  on_item (plan.Own sought) rest own f = absurd (cannot_own rest own f.last f.owning)
  on_item (plan.Own_key compute) rest own f = absurd (cannot_own rest own f.last f.owning)
  on_item (plan.Own_alone key) rest own f = absurd (cannot_own rest own f.last f.owning)
  on_item (plan.Settle with) rest own f = inr tt
  on_item plan.Drain rest own f = (λ e. inl refl, λ x xs e. inl refl, λ x number xs e. inl refl)
  on_item plan.Apply rest own f = (λ e. inl refl, λ x xs e. inl refl)
  on_item (plan.Get aim key) rest own f = (λ e. inl refl, λ e. inl refl, λ k stored e. inl refl)
  on_item (plan.Read sought) rest own f = (λ e. inl refl, λ with e. inl refl)
  on_item (plan.Read_key compute) rest own f = (λ e. inl refl, λ with e. inl refl)
  on_item (plan.Ask load) rest own f = inl refl
  on_item (plan.Ask_op compute pair) rest own f = inl refl
  on_item (plan.Told load) rest own f = (λ e. inl refl, λ given e. inl refl)
  on_item (plan.Told_op compute pair) rest own f = (λ e. inl refl, λ given e. inl refl)
  on_item (plan.Moment (plan.To_store key value)) rest own f = inl refl
  on_item (plan.Moment (plan.To_take_out removal key)) rest own f = inl refl
  on_item (plan.Write key value moment) rest own f =
      (λ e. inl refl, λ off old. inl refl, λ on. inl refl, λ k old on some. inl refl)
  on_item (plan.Out removal key) rest own f = (
    λ e. inl refl,
    λ off none. inl refl,
    λ on none. inl refl,
    λ k old off some. inl refl,
    λ k old on some. inl refl,
  )
  on_item (plan.List_keys part) rest own f = (λ e. inl refl, λ listed keys is gives. inl refl)
  on_item (plan.Find key) rest own f = (λ e. inl refl, λ e. inl refl, λ k stored e none. inl refl, λ k stored ids e is. inl refl)
  on_item (plan.Scan there stored) rest own f = (λ e. inl refl, λ e. inl refl)
  on_item (plan.Register test) rest own f = inl refl
  on_item (plan.Candidates parts) rest own f = (λ e. inl refl, λ id more e. inl refl)
  on_item (plan.Strike there stored) rest own f = inl refl
  on_item plan.Retire rest own f = inl refl
  on_item (plan.Reply answer) rest own f = inl refl
  on_item (plan.Notice key old cause upsert) rest own f = (λ e. inl refl, λ e. inl refl)
  on_item (plan.Post write) rest own f = (λ e. inl refl, λ e. inl refl)
  on_item (plan.Judge aim key stored) rest own f = (λ e. inl refl, λ e. inl refl)
  on_item (plan.Holds key stamp cause there stored) rest own f = (λ e. inl refl, λ e. inl refl)
  on_item item rest own f = passes_by eq (Owned (item ∷ rest)) w n c item rest tt
      (λ d a. inl (ap (λ o. o n) a.owning)) (inl refl)

  owned_step : (p : List (Item K V E)) → is_some (w.desk.owning n) ≡ true →
      Fits (w.desk.owning n) (w.desk.joined n) p → OnStep eq (Owned p) w n c p
  owned_step [] own f = inl refl
  owned_step (item ∷ rest) own f =
      outcomes eq (Owned (item ∷ rest)) w n c item rest (on_item item rest own f)

module _ {K V E : Type 0} (eq : K → K → Bool) where
  pub owned_until : OwnedUntilSettled K V E eq
  owned_until s t key n m r h own step = by (m == n) refl
    where
      i : IsServed eq s
      i = in_served eq s h

      kept : m ≡ n → (t.world.desk.owning m ≡ s.world.desk.owning m) ⊎ IsSettling step.call.plan →
          OwnsComputes t n key ⊎ ((m ≡ n) × IsSettling step.call.plan)
      kept here (inl same) = inl (ap t.world.desk.owning (sym here) ∙ same ∙
          ap s.world.desk.owning here ∙ own)
      kept here (inr settles) = inr (here, settles)

      by : (b : Bool) → (m == n) ≡ b →
          OwnsComputes t n key ⊎ ((m ≡ n) × IsSettling step.call.plan)
      by false e = inl (others_own eq s t m n r i e step ∙ own)
      by true e =
          let here : m ≡ n = eqb-true m n e in
          kept here (step_cases eq (Owned eq s.world m step.call step.call.plan)
          (λ v _. (v.world.desk.owning m ≡ s.world.desk.owning m) ⊎ IsSettling step.call.plan)
          s t m r step
          (owned_step eq s.world m step.call step.call.plan
          (ap is_some (ap s.world.desk.owning here ∙ own))
          (subst (λ v. Fits (s.world.desk.owning m) (s.world.desk.joined m) (plan_left v)) step.live
          (i.fits m)))
          (λ w next x. x))

  pub one_acts : IsEquivalence eq → OneComputeActs K V E eq
  one_acts laws s t begin a b n m r own w of e step acts =
      let reached : IsReached eq s = run_reached eq w.begun s w.led.events w.led.replies
      (event_reached eq w.before w.begun (event.Start begin) (reply.Call m) w.reached w.begins)
      w.led.run in
      sym (computes_one eq laws s n m a b reached own
      (acting_own eq s t begin b m r w of step acts) e)
