-- An open ask is that of a live call, and a notice that runs is heard.
use Rattle.std.proofs.Common.{◌≡◌, ◌⊎◌, inl, inr, ℕ, zero, suc, ◌<◌, ◌==◌, Bool, true, false, cond, List, [], ◌∷◌, map, Option, Some, None, is_some, IsSome, Contains, refl, sym, ap, ◌∙◌, arith}
use Rattle.std.proofs.lemmas.Bool.{eqb-true}
use Rattle.moka_hist.specs.State.{State, Call}
use Rattle.moka_hist.specs.Plan.{Item, hearing}
use Rattle.moka_hist.specs.Places.{AsksFor, Initializes}
use Rattle.moka_hist.specs.declared.loads.Kind.TheVariants as kind
use Rattle.moka_hist.specs.declared.loads.Load.{Load}
use Rattle.moka_hist.specs.declared.writes.Owed.{Owed}
use Rattle.moka_laws.specs.Listening.{AsksAreLive, HasHearer, IsOwedWith, RunningAreHeard}
use Rattle.moka_laws.proofs.Asking.{IsAsking, in_asking, takes_told}
use Rattle.moka_laws.proofs.Noticing.{guards, guards_owed, in_noticing}
use Rattle.moka_laws.proofs.Owning.{plan_left}
use Rattle.moka_laws.proofs.Plans.{IsTail, Answering, Settling, IsDrained, Putting, IsPosted, Draining, Ended, Locking, IsPlan, Posted, Drained, Posting, Hearing, Noticing, Listening, Unlocking, Turning, Applying, Ending, Telling, Writing, Freeing, Idling, Telling_op, Walking}
use Rattle.moka_laws.proofs.Sums.{sum_has}
use Rattle.moka_laws.proofs.Weights.{weigh, weigh_call}
use Rattle.moka_laws.proofs.Walks.{weigh_walk}

-- ---- asks of calls

module _ {K V E : Type 0} where
  -- only a plan that waits for an answer takes one
  tail_takes : (p : List (Item K V E)) → IsTail p → weigh takes_told p ≡ 0
  tail_takes p (Answering a) = refl
  tail_takes p (Settling with a) = refl

  drained_takes : (p : List (Item K V E)) → IsDrained p → weigh takes_told p ≡ 0
  drained_takes p (Putting key value rest t) = omega (arith, tail_takes rest t)
  drained_takes p (Locking key value rest t) = omega (arith, tail_takes rest t)
  drained_takes p _ = refl

  posted_takes : (p : List (Item K V E)) → IsPosted p → weigh takes_told p ≡ 0
  posted_takes p (Draining rest d) = omega (arith, drained_takes rest d)
  posted_takes p (Ended rest t) = tail_takes rest t

  abbrev Waits : List (Item K V E) → Type 0
  Waits p = (load : Load K) × AsksFor p load

  none : (p : List (Item K V E)) → weigh takes_told p ≡ 0 → 0 < weigh takes_told p → Waits p
  none p e h = absurd (omega (arith, e))

  waits : (p : List (Item K V E)) → IsPlan p → 0 < weigh takes_told p → Waits p
  waits p (Telling load) h = (load, refl)
  waits p (Telling_op compute pair) h =
      (record { key = compute.key; kind = kind.Compute }, refl)
  waits p (Posted rest d) h = none p (posted_takes rest d) h
  waits p (Drained rest d) h = none p (drained_takes rest d) h
  waits p (Posting x rest d) h = absurd (omega (arith, h, posted_takes rest d))
  waits p (Hearing number x rest d) h = absurd (omega (arith, h, posted_takes rest d))
  waits p (Noticing key old cause upsert x rest t) h =
      absurd (omega (arith, h, tail_takes rest t))
  waits p (Listening x rest t) h = absurd (omega (arith, h, tail_takes rest t))
  waits p (Unlocking x rest t) h = absurd (omega (arith, h, tail_takes rest t))
  waits p (Turning x rest d) h = absurd (omega (arith, h, posted_takes rest d))
  waits p (Applying x rest d) h = absurd (omega (arith, h, posted_takes rest d))
  waits p (Ending x rest d) h = absurd (omega (arith, h, posted_takes rest d))
  waits p (Writing key value moment rest t) h = absurd (omega (arith, h, tail_takes rest t))
  waits p (Freeing rest t) h = absurd (omega (arith, h, tail_takes rest t))
  waits p (Idling rest t) h = absurd (omega (arith, h, tail_takes rest t))
  waits p (Walking rest walk) h = none p (weigh_walk takes_told (record { list = λ part. refl; find = λ key. refl; scan = λ there stored. refl; end = refl; choose = λ parts. refl; strike = λ there stored. refl; retire = refl }) p walk) h
  waits p _ h = absurd (omega (arith, h))

module _ {K V E : Type 0} (s : State K V E) (i : IsAsking s) (n : ℕ)
    (opens : IsSome (s.world.desk.asks n)) where
  initializes : (o : Option (Call K V E)) → s.calls n ≡ o → 0 < weigh_call takes_told o →
      (load : Load K) × Initializes s n load
  initializes None live h = absurd (omega arith)
  initializes (Some c) live h =
      let asked = waits c.plan (i.known n c live).plan h in
      (asked.0, record { call = c; live = live; asked = asked.1; opened = opens })

-- ---- notices that run

-- an owed write that has the notice stands in the list
owed_has : (x : ℕ) (os : List Owed) → 0 < guards_owed x os →
    Contains (map (λ o. o.notice) os) (Some x)
owed_has x [] h = absurd (omega arith)
owed_has x (o ∷ os) h = by o.notice refl (owed_has x os)
  where
    there : Contains (map (λ v. v.notice) os) (Some x) →
        Contains (map (λ v. v.notice) (o ∷ os)) (Some x)
    there k = (suc k.0, omega (arith, k.1), k.2)

    by : (y : Option ℕ) → o.notice ≡ y →
        (0 < guards_owed x os → Contains (map (λ v. v.notice) os) (Some x)) →
        Contains (map (λ v. v.notice) (o ∷ os)) (Some x)
    by None e more = there (more (omega (arith, h, ap (guards x) e)))
    by (Some y) e more = same (x == y) refl
      where
        same : (b : Bool) → (x == y) ≡ b → Contains (map (λ v. v.notice) (o ∷ os)) (Some x)
        same true is = (0, omega arith, e ∙ ap (λ v. Some v) (sym (eqb-true x y is)))
        same false is = there (more (omega (
          arith,
          h,
          ap (guards x) e,
          ap (λ b. cond {A = ℕ} b 1 0) is,
        )))

module _ {K V E : Type 0} (s : State K V E) (x : ℕ) where
  hears : (m : ℕ) (o : Option (Call K V E)) → s.calls m ≡ o →
      0 < guards x (hearing m (plan_left o)) → HasHearer s x
  hears m None live h = absurd (omega arith)
  hears m (Some c) live h = by (hearing m c.plan) refl
    where
      by : (y : Option ℕ) → hearing m c.plan ≡ y → HasHearer s x
      by None e = absurd (omega (arith, h, ap (guards x) e))
      by (Some y) e = same (x == y) refl
        where
          same : (b : Bool) → (x == y) ≡ b → HasHearer s x
          same true is = record {
            hearer = m;
            call = c;
            live = live;
            hears = e ∙ ap (λ v. Some v) (sym (eqb-true x y is));
          }
          same false is = absurd (omega (
            arith,
            h,
            ap (guards x) e,
            ap (λ b. cond {A = ℕ} b 1 0) is,
          ))

module _ {K V E : Type 0} (eq : K → K → Bool) where
  pub asks_are_live : AsksAreLive K V E eq
  asks_are_live s n h some =
      let i = in_asking eq s h in
      let one : cond {A = ℕ} (is_some (s.world.desk.asks n)) 1 0 ≡ 1 =
      ap (λ b. cond {A = ℕ} b 1 0) some in
      initializes s i n some (s.calls n) refl (omega (arith, i.asked n))

  pub running_are_heard : RunningAreHeard K V E eq
  running_are_heard s x h run = by (guards_owed x s.world.desk.owed) refl
    where
      by : (k : ℕ) → guards_owed x s.world.desk.owed ≡ k → HasHearer s x ⊎ IsOwedWith s x
      by (suc k) e = inr (owed_has x s.world.desk.owed (omega arith))
      by zero e =
          let at = sum_has s.world.desk.last
          (λ m. guards x (hearing m (plan_left (s.calls m))))
          (omega (arith, (in_noticing eq s h).heard x run)) in
          inl (hears s x at.0 (s.calls at.0) refl at.1)
