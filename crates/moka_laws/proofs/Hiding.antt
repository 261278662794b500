-- What an invalidation of all hides stays hidden.
use Rattle.std.proofs.Common.{◌≡◌, ℕ, ◌≤◌, ◌<◌, max, nat_lt, not, Bool, true, false, ◌&&◌, ◌||◌, List, [], ◌∷◌, Some, None, unwrap_or, refl, sym, ap, ◌∙◌, subst, arith, Option}
use Rattle.std.proofs.lemmas.Bool.Decides.{nat_tests}
use Rattle.moka_hist.specs.State.{State, Call, DeskPart}
use Rattle.moka_hist.specs.Plan.{Item}
use Rattle.moka_hist.specs.Plan as plan
use Rattle.moka_hist.specs.Step.{Access, On_desk, On_table, Step, access_of}
use Rattle.moka_hist.specs.Visible.{is_expired, is_invalid}
use Rattle.moka_hist.specs.Visits.{accessed_at, is_hit, is_replaced_by, is_seen, times_at}
use Rattle.moka_hist.specs.Run.{IsReached}
use Rattle.moka_hist.specs.declared.accesses.Turn.{Turn}
use Rattle.moka_hist.specs.declared.events.Start.TheVariants as start
use Rattle.moka_hist.specs.declared.records.Mode.{Mode}
use Rattle.moka_hist.specs.declared.replies.Answer.TheVariants as answer
use Rattle.moka_hist.specs.declared.rules.Rules.{Rules}
use Rattle.moka_hist.specs.declared.visits.Visit.TheVariants as visit
use Rattle.moka_laws.specs.Moments.{InvalidatedStayUnseen, InvalidationHides}
use Rattle.moka_laws.specs.Starting.{WasStarted}
use Rattle.moka_laws.proofs.Alongside.{HoldsIf, holds_since}
use Rattle.moka_laws.proofs.Counting.{put_here}
use Rattle.moka_laws.proofs.Following.{IsFollowed, follow}
use Rattle.moka_laws.proofs.Outcomes.{outcomes}
use Rattle.moka_laws.proofs.StepCases.{OnStep, step_cases}
use Rattle.moka_laws.proofs.Steady.{step_base, valid_from}

-- what was written before the moment from which records are valid is not seen
unseen : (replaced expired accessed hit : Bool) →
    (not replaced && not (expired || (true || accessed) || hit)) ≡ false
unseen true expired accessed hit = refl
unseen false true accessed hit = refl
unseen false false accessed hit = refl

-- a moment is earlier where the later of it and another is
either_earlier : (modified kept valid : ℕ) →
    (nat_lt modified valid || nat_lt (max modified kept) valid) ≡ nat_lt modified valid
either_earlier modified kept valid = by (nat_lt modified valid) (nat_lt (max modified kept) valid) refl refl
  where
    by : (a b : Bool) → nat_lt modified valid ≡ a → nat_lt (max modified kept) valid ≡ b → (a || b) ≡ a
    by true b e f = refl
    by false false e f = refl
    by false true e f = absurd (grind (arith, nat_tests, e, f))

less_so : (a b : ℕ) → a < b → nat_lt a b ≡ true
less_so a b h = grind (arith, nat_tests, h)

module _ {K V E : Type 0} (eq : K → K → Bool) (n : ℕ) where
  -- the call is to hide all, and then to answer that
  abbrev IsHiding : State K V E → Call K V E → Type 0
  IsHiding s c = c.plan ≡ plan.Invalidate_all ∷ plan.Reply answer.Done ∷ []

  hides_step : (s t : State K V E) (r : Turn K V E) → IsReached eq s →
      HoldsIf IsHiding s (s.calls n) → Step eq s n r t → HoldsIf IsHiding t (t.calls n)
  hides_step s t r h i step = subst (HoldsIf IsHiding t) (sym gone) tt
    where
      is : step.call.plan ≡ plan.Invalidate_all ∷ plan.Reply answer.Done ∷ []
      is = subst (HoldsIf IsHiding s) step.live i

      gone : t.calls n ≡ None
      gone = step_cases eq (λ new next. next.left ≡ None) (λ v u. v.calls n ≡ None) s t n r step
          (subst (λ q. OnStep eq (λ new next. next.left ≡ None) s.world n step.call q) (sym is)
          (outcomes eq (λ new next. next.left ≡ None) s.world n step.call plan.Invalidate_all
          (plan.Reply answer.Done ∷ []) refl))
          (λ w next g. put_here s.calls n next.left ∙ g)

  -- its step makes records valid from the clock on
  hides : (s t : State K V E) (r : Turn K V E) → WasStarted eq start.InvalidateAll n s →
      Step eq s n r t →
      (t.world.desk.valid_after ≡ Some s.world.desk.clock) ×
      (t.world.desk.clock ≡ s.world.desk.clock)
  hides s t r w step =
      let i = holds_since eq start.InvalidateAll n IsHiding (λ s v c led rules h. h) hides_step s w
      (λ v. refl) in
      let is : step.call.plan ≡ plan.Invalidate_all ∷ plan.Reply answer.Done ∷ [] =
      subst (HoldsIf IsHiding s) step.live i.1 in
      let base = step_base eq s t n r step in (
        base.valid ∙ by step.call.rules step.call.mode step.call.plan step.call.aborts step.call.carried is,
        base.clock,
      )
    where
      by : (rules : Rules) (mode : Mode) (p : List (Item K V E)) (aborts : ℕ) (ids : Option (List (ℕ × ℕ))) →
          p ≡ plan.Invalidate_all ∷ plan.Reply answer.Done ∷ [] →
          valid_from s.world (access_of n (record
          { rules = rules; mode = mode; plan = p; aborts = aborts; carried = ids })) ≡ Some s.world.desk.clock
      by rules mode p aborts ids e = subst (λ q. valid_from s.world (access_of n (record
          { rules = rules; mode = mode; plan = q; aborts = aborts; carried = ids })) ≡ Some s.world.desk.clock)
          (sym e) refl

module _ {K V E : Type 0} (eq : K → K → Bool) (k : ℕ) where
  -- records are valid from some moment on that is not before this one
  record IsFrom (s : State K V E) : Type 0 where
    valid : ℕ
    from : s.world.desk.valid_after ≡ Some valid
    later : k ≤ valid
    clock : k ≤ s.world.desk.clock

  from_access : (s : State K V E) (i : IsFrom s) (a : Access K V E) →
      (m : ℕ) × (valid_from s.world a ≡ Some m) × (k ≤ m)
  from_access s i (On_table operation) = (i.valid, i.from, i.later)
  from_access s i (On_desk visit.InvalidateAll) = (s.world.desk.clock, refl, i.clock)
  from_access s i (On_desk _) = (i.valid, i.from, i.later)

  from_step : (s t : State K V E) (n : ℕ) (turn : Turn K V E) → IsFrom s → Step eq s n turn t →
      IsFrom t
  from_step s t n turn i step =
      let base = step_base eq s t n turn step in
      let now = from_access s i (access_of n step.call) in
      record {
        valid = now.0;
        from = base.valid ∙ now.1;
        later = now.2;
        clock = subst (λ v. k ≤ v) (sym base.clock) i.clock;
      }

  from_followed : IsFollowed eq IsFrom
  from_followed = record {
    at = λ s moment on led i. record {
      valid = i.valid;
      from = i.from;
      later = i.later;
      clock = grind (arith, nat_tests, on, i.clock);
    };
    start = λ s begin fits led i.
        record { valid = i.valid; from = i.from; later = i.later; clock = i.clock };
    step = λ s t n turn led i step. from_step s t n turn i step;
    tell = λ s n given asked led i.
        record { valid = i.valid; from = i.from; later = i.later; clock = i.clock };
    hear = λ s n off running led i.
        record { valid = i.valid; from = i.from; later = i.later; clock = i.clock };
    drop = λ s n c live between led i.
        record { valid = i.valid; from = i.from; later = i.later; clock = i.clock };
  }

module _ {K V E : Type 0} (eq : K → K → Bool) where
  pub invalidation_hides : InvalidationHides K V E eq
  invalidation_hides s t n reply stored w step =
      ap (λ o. is_invalid stored.modified o ||
      is_invalid (accessed_at t.world.desk stored.stamp stored.modified) o)
      (hides eq n s t reply w step).0 ∙
      either_earlier stored.modified
      (unwrap_or (t.world.desk.accessed stored.stamp) stored.modified) s.world.desk.clock

  pub invalidated_unseen : InvalidatedStayUnseen K V E eq
  invalidated_unseen s t u n reply replace key stored w step led before =
      let h = hides eq n s t reply w step in
      let i : IsFrom eq s.world.desk.clock u = follow eq (IsFrom eq s.world.desk.clock)
      (from_followed eq s.world.desk.clock) t u led.events led.replies (record {
        valid = s.world.desk.clock;
        from = h.0;
        later = omega arith;
        clock = omega (arith, h.1);
      }) led.run in
      hidden u.world.desk i.valid i.from (omega (arith, before, i.later))
    where
      hidden : (d : DeskPart K V E) (valid : ℕ) → d.valid_after ≡ Some valid →
          stored.modified < valid → is_seen d replace key stored ≡ false
      hidden d valid from less =
          ap (λ o. not (is_replaced_by d replace key stored.value) && not
          (is_expired d.rules (times_at d stored.stamp stored.modified) ||
          (is_invalid stored.modified o ||
          is_invalid (accessed_at d stored.stamp stored.modified) o) || is_hit d key stored)) from ∙
          ap (λ b. not (is_replaced_by d replace key stored.value) && not
          (is_expired d.rules (times_at d stored.stamp stored.modified) || (b ||
          nat_lt (accessed_at d stored.stamp stored.modified) valid) || is_hit d key stored))
          (less_so stored.modified valid less) ∙
          unseen (is_replaced_by d replace key stored.value)
          (is_expired d.rules (times_at d stored.stamp stored.modified))
          (nat_lt (accessed_at d stored.stamp stored.modified) valid) (is_hit d key stored)
