-- What stands under a key is what stood there, or what a step on the way left.
use Rattle.std.proofs.Common.{◌≡◌, inl, inr, ℕ, Bool, true, false, cond, List, ◌∷◌, Some, None, refl, ap, ◌∙◌}
use Rattle.moka_hist.specs.State.{State, Call}
use Rattle.moka_hist.specs.Plan.{Item}
use Rattle.moka_hist.specs.Plan as plan
use Rattle.moka_hist.specs.Step.{Step}
use Rattle.moka_hist.specs.declared.accesses.Turn.{Turn}
use Rattle.moka_hist.specs.declared.records.Stored.{Stored}
use Rattle.moka_laws.specs.Starting.{Leads}
use Rattle.moka_laws.proofs.Following.{IsFollowed, follow, leads_more, no_leads}
use Rattle.moka_callers.specs.Contents.{As_before, As_put, As_taken, MadeSince, PutsIn, RecordsStand, StandsSince, TakesOut}
use Rattle.moka_callers.specs.Changing.{ChangesBy}
use Rattle.moka_callers.proofs.Changed.{by_writes}

module _ {K V E : Type 0} (eq : K → K → Bool) (first : State K V E) where
  since_on : (s v : State K V E) (What : State K V E → Call K V E → Turn K V E → State K V E → Type 0) →
      Leads eq s v → MadeSince eq first s What → MadeSince eq first v What
  since_on s v What led m = record {
    number = m.number;
    before = m.before;
    since = m.since;
    call = m.call;
    live = m.live;
    turn = m.turn;
    after = m.after;
    step = m.step;
    what = m.what;
    led = leads_more eq m.after s v m.led led;
  }

  -- some events lead from the first state, and each key has what it had, or what a step left there
  record Stands (q : K) (s : State K V E) : Type 0 where
    led : Leads eq first s
    stands : StandsSince eq q first s

  module _ (q : K) where
    stands_on : (s v : State K V E) → Leads eq s v →
        v.world.table.stored q ≡ s.world.table.stored q → StandsSince eq q first s →
        StandsSince eq q first v
    stands_on s v led same (As_before is) = As_before (same ∙ is)
    stands_on s v led same (As_put key stored alike is made) =
        As_put key stored alike (same ∙ is) (since_on s v (PutsIn eq key stored) led made)
    stands_on s v led same (As_taken key alike is made) =
        As_taken key alike (same ∙ is) (since_on s v
        (λ u c turn w. (pair : K × Stored V) × TakesOut eq key pair u c turn w) led made)

    on : (s v : State K V E) → Leads eq s v → v.world.table.stored q ≡ s.world.table.stored q →
        Stands q s → Stands q v
    on s v led same i = record {
      led = leads_more eq first s v i.led led;
      stands = stands_on s v led same i.stands;
    }

    stands_step : (s t : State K V E) (n : ℕ) (turn : Turn K V E) → Leads eq s t → Stands q s →
        Step eq s n turn t → Stands q t
    stands_step s t n turn led i step =
        by step.call.plan refl (by_writes eq s t n step.call turn step.live step)
      where
        made : (What : State K V E → Call K V E → Turn K V E → State K V E → Type 0) →
            What s step.call turn t → MadeSince eq first t What
        made What what = record {
          number = n;
          before = s;
          since = i.led;
          call = step.call;
          live = step.live;
          turn = turn;
          after = t;
          step = step;
          what = what;
          led = no_leads eq t;
        }

        left : StandsSince eq q first t → Stands q t
        left stands = record { led = leads_more eq first s t i.led led; stands = stands }

        by : (now : List (Item K V E)) → step.call.plan ≡ now →
            ChangesBy eq n now s.world.table.stored t.world.table.stored → Stands q t
        by (plan.Write key value moment ∷ rest) is (inl same) = on s t led (ap (λ f. f q) same) i
        by (plan.Write key value moment ∷ rest) is (inr put) =
            here (eq key q) refl (ap (λ f. f q) put)
          where
            new : Stored V
            new = record { value = value; stamp = n; modified = moment }

            here : (b : Bool) → eq key q ≡ b → t.world.table.stored q ≡
                cond b (Some (key, new)) (s.world.table.stored q) → Stands q t
            here true alike now = left (As_put key new alike now
                (made (PutsIn eq key new) (record { rest = rest; writing = is; put = put })))
            here false other now = on s t led now i
        by (plan.Out removal key ∷ rest) is (inl same) = on s t led (ap (λ f. f q) same) i
        by (plan.Out removal key ∷ rest) is (inr h) =
            here (eq key q) refl (ap (λ f. f q) h.2)
          where
            what : TakesOut eq key h.0 s step.call turn t
            what = record { removal = removal; rest = rest; taking = is; stood = h.1; out = h.2 }

            here : (b : Bool) → eq key q ≡ b → t.world.table.stored q ≡
                cond b None (s.world.table.stored q) → Stands q t
            here true alike now = left (As_taken key alike now
                (made (λ u c r v. (pair : K × Stored V) × TakesOut eq key pair u c r v)
                (h.0, what)))
            here false other now = on s t led now i
        by _ is same = on s t led (ap (λ f. f q) same) i

    followed : IsFollowed eq (Stands q)
    followed = record {
      at = λ s moment fits led i. on s _ led refl i;
      start = λ s start fits led i. on s _ led refl i;
      step = stands_step;
      tell = λ s n given asked led i. on s _ led refl i;
      hear = λ s n off running led i. on s _ led refl i;
      drop = λ s n c live between led i. on s _ led refl i;
    }

module _ {K V E : Type 0} (eq : K → K → Bool) where
  pub stand : RecordsStand K V E eq
  stand s t q es rs run =
      let now : Stands eq s q t = follow eq (Stands eq s q) (followed eq s q) s t es rs
      (record { led = no_leads eq s; stands = As_before refl }) run in
      now.stands
