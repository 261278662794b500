-- A call owns the computes of a key until it settles or is dropped.
use Rattle.std.proofs.Common.{◌≡◌, ◌≢◌, ◌⊎◌, inl, inr, ℕ, ◌==◌, Bool, true, false, Some, None, refl, ◌∙◌, subst}
use Rattle.std.proofs.lemmas.Bool.{eqb-true}
use Rattle.moka_hist.specs.Dropping.{dropped}
use Rattle.moka_hist.specs.State.{State, Call}
use Rattle.moka_hist.specs.Run.{Any, Drops, Happens, IsReached}
use Rattle.moka_hist.specs.Step.{Step}
use Rattle.moka_hist.specs.declared.accesses.Turn.{Turn}
use Rattle.moka_hist.specs.declared.events.Event.TheVariants as event
use Rattle.moka_hist.specs.declared.records.Mode.{Mode}
use Rattle.moka_hist.specs.declared.records.Mode.TheVariants as mode
use Rattle.moka_hist.specs.declared.replies.Reply.TheVariants as reply
use Rattle.moka_laws.specs.Computes.{IsSettling, OwnsComputes}
use Rattle.moka_laws.specs.Starting.{Leads}
use Rattle.moka_laws.proofs.Counting.{put_there}
use Rattle.moka_laws.proofs.Following.{IsFollowed, follow, leads_more, no_leads}
use Rattle.moka_laws.proofs.OwnedUntil.{owned_until}
use Rattle.moka_laws.proofs.Reached.{run_reached}
use Rattle.moka_callers.specs.Computing.{DroppedSince, OwnedUntilOver, SettledSince}

module _ {K V E : Type 0} (eq : K → K → Bool) where
  -- a call is dropped that is not between two steps
  drops_now : (s : State K V E) (m : ℕ) (c : Call K V E) → s.calls m ≡ Some c →
      c.mode ≢ mode.Mid → Happens eq Any s (event.Drop m) reply.Dropped (dropped s m c)
  drops_now s m c live between = rw live (by c.mode refl)
    where
      by : (x : Mode) → c.mode ≡ x → Drops s m c x reply.Dropped (dropped s m c)
      by mode.Mid e = absurd (between e)
      by mode.Fresh e = record { reply = refl; after = refl }
      by mode.Parked e = record { reply = refl; after = refl }

  module _ (first : State K V E) (n : ℕ) (key : K) where
    abbrev Over : State K V E → Type 0
    Over s = SettledSince eq n first s ⊎ DroppedSince eq n first s

    over_on : (s v : State K V E) → Leads eq s v → Over s → Over v
    over_on s v led (inl (made, here)) = inl (
      record {
        number = made.number;
        before = made.before;
        since = made.since;
        call = made.call;
        live = made.live;
        turn = made.turn;
        after = made.after;
        step = made.step;
        what = made.what;
        led = leads_more eq made.after s v made.led led;
      },
      here,
    )
    over_on s v led (inr gone) = inr (record {
      before = gone.before;
      since = gone.since;
      after = gone.after;
      drops = gone.drops;
      led = leads_more eq gone.after s v gone.led led;
    })

    -- the call owns them still, or that is over
    record Lasts (s : State K V E) : Type 0 where
      reached : IsReached eq s
      led : Leads eq first s
      so : OwnsComputes s n key ⊎ Over s

    reaches : (s t : State K V E) → Leads eq s t → IsReached eq s → IsReached eq t
    reaches s t led h = run_reached eq s t led.events led.replies h led.run

    with_so : (s v : State K V E) → Leads eq s v → Lasts s → OwnsComputes v n key ⊎ Over v → Lasts v
    with_so s v led i so = record {
      reached = reaches s v led i.reached;
      led = leads_more eq first s v i.led led;
      so = so;
    }

    on : (s v : State K V E) → Leads eq s v →
        v.world.desk.owning n ≡ s.world.desk.owning n → Lasts s → Lasts v
    on s v led same i = with_so s v led i (by i.so)
      where
        by : OwnsComputes s n key ⊎ Over s → OwnsComputes v n key ⊎ Over v
        by (inl owns) = inl (same ∙ owns)
        by (inr over) = inr (over_on s v led over)

    lasts_step : (s t : State K V E) (m : ℕ) (turn : Turn K V E) → Leads eq s t → Lasts s →
        Step eq s m turn t → Lasts t
    lasts_step s t m turn led i step = with_so s t led i (by i.so)
      where
        now : OwnsComputes t n key ⊎ ((m ≡ n) × IsSettling step.call.plan) →
            OwnsComputes t n key ⊎ Over t
        now (inl owns) = inl owns
        now (inr (here, settles)) = inr (inl (
          record {
            number = m;
            before = s;
            since = i.led;
            call = step.call;
            live = step.live;
            turn = turn;
            after = t;
            step = step;
            what = settles;
            led = no_leads eq t;
          },
          here,
        ))

        by : OwnsComputes s n key ⊎ Over s → OwnsComputes t n key ⊎ Over t
        by (inl owns) = now (owned_until eq s t key n m turn i.reached owns step)
        by (inr over) = inr (over_on s t led over)

    lasts_drop : (s : State K V E) (m : ℕ) (c : Call K V E) → s.calls m ≡ Some c →
        c.mode ≢ mode.Mid → Leads eq s (dropped s m c) → Lasts s → Lasts (dropped s m c)
    lasts_drop s m c live between led i = by (m == n) refl
      where
        by : (b : Bool) → (m == n) ≡ b → Lasts (dropped s m c)
        by true e = with_so s (dropped s m c) led i (inr (inr (record {
          before = s;
          since = i.led;
          after = dropped s m c;
          drops = subst (λ k. Happens eq Any s (event.Drop k) reply.Dropped (dropped s m c))
              (eqb-true m n e) (drops_now s m c live between);
          led = no_leads eq (dropped s m c);
        })))
        by false e = on s (dropped s m c) led (put_there s.world.desk.owning m None n e) i

    followed : IsFollowed eq Lasts
    followed = record {
      at = λ s moment fits led i. on s _ led refl i;
      start = λ s start fits led i. on s _ led refl i;
      step = lasts_step;
      tell = λ s m given asked led i. on s _ led refl i;
      hear = λ s m off running led i. on s _ led refl i;
      drop = lasts_drop;
    }

  pub until_over : OwnedUntilOver K V E eq
  until_over s t n key h owns led =
      (follow eq (Lasts s n key) (followed s n key) s t led.events led.replies
      (record { reached = h; led = no_leads eq s; so = inl owns }) led.run).so
