-- What a predicate hits isn't shown, and maintenance takes nothing out.
use Rattle.std.proofs.Common.{◌≡◌, ℕ, Bool, true, false, not, ◌&&◌, ◌||◌, List, [], ◌∷◌, Option, Some, None, ◌⊎◌, inl, inr, refl, sym, ap, ◌∙◌, subst}
use Rattle.std.proofs.lemmas.Bool.{false≢true}
use Rattle.moka_hist.specs.Next.{Next}
use Rattle.moka_hist.specs.Plan.{Item, is_disabled, pending_plan}
use Rattle.moka_hist.specs.Plan as plan
use Rattle.moka_hist.specs.Run.{IsReached, fresh_call, started}
use Rattle.moka_hist.specs.State.{Call, Division, State, World}
use Rattle.moka_hist.specs.Step.{Step, state_after}
use Rattle.moka_hist.specs.Visible.{is_expired, is_hidden, is_visible}
use Rattle.moka_hist.specs.Visits.{is_hit, is_replaced_by, times_at}
use Rattle.moka_hist.specs.declared.accesses.Turn.{Turn}
use Rattle.moka_hist.specs.declared.accesses.Turn.TheVariants as turn
use Rattle.moka_hist.specs.declared.events.Start.TheVariants as start
use Rattle.moka_hist.specs.declared.records.Stored.{Stored}
use Rattle.moka_hist.specs.declared.replies.Answer.TheVariants as answer
use Rattle.moka_laws.specs.Looks.{is_visible_in}
use Rattle.moka_laws.specs.Walks.{IsToJudge}
use Rattle.moka_laws.specs.Predicates.{HitAreUnseen, ItemsAreNotHit, MaintenanceTakesNothing}
use Rattle.moka_laws.proofs.Alongside.{HoldsIf, holds_since}
use Rattle.moka_laws.proofs.Counting.{put_here, some_same}
use Rattle.moka_laws.proofs.Laden.{Carrying, Choosing, Coming, Finding, IsRetiring, Listing, Retiring, Striking, Tended, TendedIf, tended_on}
use Rattle.moka_laws.proofs.Outcomes.{outcomes}
use Rattle.moka_laws.proofs.StepCases.{OnStep, step_cases}
use Rattle.moka_laws.proofs.Walks.{Gathers, on_coming}
use Rattle.moka_laws.proofs.WalksGive.{items_walk, scans_show}

hidden : (replaced expired hid : Bool) → (not replaced && not (expired || hid || true)) ≡ false
hidden true expired hid = refl
hidden false true hid = refl
hidden false false true = refl
hidden false false false = refl

-- what is visible isn't hit
not_hit : (expired hid hit : Bool) → not (expired || hid || hit) ≡ true → hit ≡ false
not_hit true hid hit h = absurd (false≢true h)
not_hit false true hit h = absurd (false≢true h)
not_hit false false true h = absurd (false≢true h)
not_hit false false false h = refl

module _ {K V E : Type 0} (eq : K → K → Bool) where
  pub hit_unseen : HitAreUnseen K V E eq
  hit_unseen s replace key stored hit =
      let times = times_at s.world.desk stored.stamp stored.modified in
      subst (λ b. (not (is_replaced_by s.world.desk replace key stored.value) && is_visible s.world.desk.rules times b) ≡ false) (sym hit)
      (hidden (is_replaced_by s.world.desk replace key stored.value) (is_expired s.world.desk.rules times) (is_hidden times))

  pub items_not_hit : ItemsAreNotHit K V E eq
  items_not_hit s t n c key value live step =
      let item = items_walk eq n step.call s.world step.world step.given key value step.gets (sym step.turns) in
      let stored : Stored V = item.1.0 in
      let judge : IsToJudge c key stored = subst (λ v. IsToJudge v key stored) (some_same (sym step.live ∙ live)) item.1.1 in
      let seen : is_visible_in s key stored ≡ true =
      (scans_show eq s t n c key stored (turn.Item key value) live judge step).0 (ap (λ v. turn.Item key v) (sym item.1.2)) in
      let times = times_at s.world.desk stored.stamp stored.modified in
      (stored, judge, item.1.2, not_hit (is_expired s.world.desk.rules times) (is_hidden times) (is_hit s.world.desk key stored) seen)

  -- ---- maintenance takes nothing out

  module _ (d : Division K) (w : World K V E) (n : ℕ) (c : Call K V E) where
    abbrev Keeps : World K V E → Next K V E → Type 0
    Keeps new next = new.table.stored ≡ w.table.stored

    retiring_keeps : (p : List (Item K V E)) → IsRetiring p → OnStep eq Keeps w n c p
    retiring_keeps p Retiring = outcomes eq Keeps w n c plan.Retire [] refl
    retiring_keeps p (Listing part rest r) =
        outcomes eq Keeps w n c (plan.List_keys part) rest (λ more. refl, λ listed keys begun gives. refl)
    retiring_keeps p (Finding key rest r) = outcomes eq Keeps w n c (plan.Find key) rest (
      λ more. refl,
      λ none. refl,
      λ there stored some none. refl,
      λ there stored ids some is. refl,
    )
    retiring_keeps p (Striking there found rest r) = outcomes eq Keeps w n c (plan.Strike there found) rest refl

    tended_keeps : Tended d c → OnStep eq Keeps w n c c.plan
    tended_keeps (Coming parts coming same none) = on_coming eq Keeps w n c parts c.plan coming (λ e spares next comes. refl)
    tended_keeps (Choosing parts is same none) =
        subst (OnStep eq Keeps w n c) (sym is) (outcomes eq Keeps w n c (plan.Candidates parts) [] (λ over. refl, λ id more some. refl))
    tended_keeps (Carrying ids is r) = retiring_keeps c.plan r

  -- the call maintains the cache, or does nothing, since that is disabled
  abbrev Maintains : Division K → Call K V E → Type 0
  Maintains d c = (c.plan ≡ plan.Reply answer.Done ∷ []) ⊎ Tended d c

  abbrev IsMaintaining : State K V E → Call K V E → Type 0
  IsMaintaining s c = (d : Division K) × Maintains d c

  maintains_if : (s : State K V E) (d : Division K) (left : Option (Call K V E)) → TendedIf d left → HoldsIf IsMaintaining s left
  maintains_if s d None h = tt
  maintains_if s d (Some c) h = (d, inr h)

  module _ (n : ℕ) where
    maintains_step : (s t : State K V E) (reply : Turn K V E) → IsReached eq s → HoldsIf IsMaintaining s (s.calls n) →
        Step eq s n reply t → HoldsIf IsMaintaining t (t.calls n)
    maintains_step s t reply h i step =
        let m : IsMaintaining s step.call = subst (HoldsIf IsMaintaining s) step.live i in by m.0 m.1
      where
        by : (d : Division K) → Maintains d step.call → HoldsIf IsMaintaining t (t.calls n)
        by d (inl rests) =
            subst (HoldsIf IsMaintaining t) (sym (step_cases eq (λ new next. next.left ≡ None) (λ v _. v.calls n ≡ None) s t n reply step
            (subst (OnStep eq (λ (new : World K V E) (next : Next K V E). next.left ≡ None) s.world n step.call) (sym rests)
            (outcomes eq (λ new next. next.left ≡ None) s.world n step.call (plan.Reply answer.Done) [] refl))
            (λ w next k. put_here s.calls n next.left ∙ k))) tt
        by d (inr tended) = step_cases eq (λ new next. TendedIf d next.left) (λ v _. HoldsIf IsMaintaining v (v.calls n)) s t n reply step
            (tended_on eq d s.world n step.call tended)
            (λ w next k. subst (HoldsIf IsMaintaining (state_after s n w next)) (sym (put_here s.calls n next.left))
            (maintains_if (state_after s n w next) d next.left k))

  maintains_first : (v : State K V E) →
      IsMaintaining (started v start.Pending) (fresh_call v.world.table.division.parts v.world.desk.rules start.Pending)
  maintains_first v = (v.world.table.division, by (is_disabled v.world.desk.rules))
    where
      by : (b : Bool) → Maintains v.world.table.division
          (record (fresh_call v.world.table.division.parts v.world.desk.rules start.Pending) { plan = pending_plan b v.world.table.division.parts })
      by true = inl refl
      by false = inr (Coming v.world.table.division.parts Gathers refl refl)

  pub takes_nothing : MaintenanceTakesNothing K V E eq
  takes_nothing s t n reply w step =
      let m : IsMaintaining s step.call = subst (HoldsIf IsMaintaining s) step.live
      (holds_since eq start.Pending n IsMaintaining (λ u v c led rules h. h) (maintains_step n) s w maintains_first).1 in
      by m.0 m.1
    where
      by : (d : Division K) → Maintains d step.call → t.world.table.stored ≡ s.world.table.stored
      by d (inl rests) =
          step_cases eq (λ new next. new.table.stored ≡ s.world.table.stored) (λ v _. v.world.table.stored ≡ s.world.table.stored) s t n reply step
          (subst (OnStep eq (λ (new : World K V E) (next : Next K V E). new.table.stored ≡ s.world.table.stored) s.world n step.call) (sym rests)
          (outcomes eq (λ new next. new.table.stored ≡ s.world.table.stored) s.world n step.call (plan.Reply answer.Done) [] refl))
          (λ w next k. k)
      by d (inr tended) =
          step_cases eq (λ new next. new.table.stored ≡ s.world.table.stored) (λ v _. v.world.table.stored ≡ s.world.table.stored) s t n reply step
          (tended_keeps d s.world n step.call tended) (λ w next k. k)
