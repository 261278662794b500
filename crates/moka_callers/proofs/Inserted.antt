-- An insert that is done has put its pair in.
use Rattle.std.proofs.Common.{◌≡◌, ◌⊎◌, inl, inr, ℕ, Bool, true, false, cond, List, [], ◌∷◌, Option, Some, None, is_some, refl, sym, ap, ◌∙◌, subst}
use Rattle.moka_hist.specs.Finite.{put_key}
use Rattle.moka_hist.specs.State.{State, World, Call}
use Rattle.moka_hist.specs.Plan.{Item, insert_plan, is_disabled}
use Rattle.moka_hist.specs.Plan as plan
use Rattle.moka_hist.specs.Next.{Next, goes}
use Rattle.moka_hist.specs.Step.{Step}
use Rattle.moka_hist.specs.Run.{IsReached, fresh_call, started}
use Rattle.moka_hist.specs.declared.accesses.Turn.{Turn}
use Rattle.moka_hist.specs.declared.accesses.Turn.TheVariants as turn
use Rattle.moka_hist.specs.declared.events.Start.TheVariants as start
use Rattle.moka_hist.specs.declared.records.Stored.{Stored}
use Rattle.moka_hist.specs.declared.replies.Answer.{Answer}
use Rattle.moka_hist.specs.declared.replies.Answer.TheVariants as answer
use Rattle.moka_laws.specs.Starting.{HasMade, Leads, WasStarted}
use Rattle.moka_laws.proofs.Alongside.{HoldsIf, holds_since}
use Rattle.moka_laws.proofs.Counting.{put_here}
use Rattle.moka_laws.proofs.Following.{leads_more, made_on, no_leads, step_leads}
use Rattle.moka_laws.proofs.Outcomes.{Outcomes, outcomes}
use Rattle.moka_laws.proofs.Rules.{put_plans}
use Rattle.moka_laws.proofs.Steady.{step_rules}
use Rattle.moka_laws.proofs.StepCases.{OnStep, step_cases}
use Rattle.moka_callers.specs.Inserting.{InsertsPutIn, InsertsStand, PutsValue, record_of}
use Rattle.moka_callers.proofs.Standing.{stand}
use Rattle.moka_callers.proofs.Turning.{live_still}

module _ {K V E : Type 0} (key : K) (value : V) where
  -- an item that an insert of the pair may have
  abbrev IsInserting : Item K V E → Type 0
  IsInserting plan.Drain = Unit {0}
  IsInserting (plan.Ended number) = Unit {0}
  IsInserting (plan.Post write) = Unit {0}
  IsInserting plan.Turn = Unit {0}
  IsInserting plan.Apply = Unit {0}
  IsInserting plan.End = Unit {0}
  IsInserting (plan.Lock at) = Unit {0}
  IsInserting (plan.Unlock wrote) = Unit {0}
  IsInserting (plan.Notice at old cause upsert) = Unit {0}
  IsInserting plan.Heard = Unit {0}
  IsInserting (plan.Moment (plan.To_store at new)) = (at ≡ key) × (new ≡ value)
  IsInserting (plan.Write at new moment) = (at ≡ key) × (new ≡ value)
  IsInserting _ = ⊥

  abbrev pub AreInserting : List (Item K V E) → Type 0
  AreInserting [] = Unit {0}
  AreInserting (plan.Reply a ∷ rest) = rest ≡ []
  AreInserting (item ∷ rest) = IsInserting item × AreInserting rest

  -- a write is still to come
  abbrev pub puts_ahead : List (Item K V E) → Bool
  puts_ahead [] = false
  puts_ahead (plan.Moment change ∷ rest) = true
  puts_ahead (plan.Write at new moment ∷ rest) = true
  puts_ahead (item ∷ rest) = puts_ahead rest

  module _ (eq : K → K → Bool) (n : ℕ) (w : World K V E) (c : Call K V E) (Made : Type 0) where
    -- this step has put the pair in
    abbrev pub PutNow : (K → Option (K × Stored V)) → Type 0
    PutNow new =
        (moment : ℕ) × (rest : List (Item K V E)) ×
        (c.plan ≡ plan.Write key value moment ∷ rest) ×
        (new ≡ put_key eq w.table.stored key (Some (key, record_of n value moment)))

    -- how the insert goes on: a write is still to come, or the pair was put in; and so it was where
    -- the insert answers
    abbrev pub LeftSo : (K → Option (K × Stored V)) → Option (Call K V E) → Type 0
    LeftSo new None = Made
    LeftSo new (Some d) =
        AreInserting d.plan × ((puts_ahead d.plan ≡ true) ⊎ (Made ⊎ PutNow new))

    abbrev pub After : World K V E → Next K V E → Type 0
    After new next = LeftSo new.table.stored next.left

    -- it goes on with the rest
    goes_so : (new : K → Option (K × Stored V)) (rest : List (Item K V E)) →
        AreInserting rest → (puts_ahead rest ≡ true) ⊎ Made → LeftSo new (goes c rest).left
    goes_so new (plan.Reply a ∷ []) are (inl ahead) = absurd (off ahead)
      where
        off : false ≡ true → ⊥
        off e = cc
    goes_so new (plan.Reply a ∷ []) are (inr made) = made
    goes_so new [] are (inl ahead) = (are, inl ahead)
    goes_so new [] are (inr made) = (are, inr (inl made))
    goes_so new (plan.Reply a ∷ x ∷ rest) are (inl ahead) = (are, inl ahead)
    goes_so new (plan.Reply a ∷ x ∷ rest) are (inr made) = (are, inr (inl made))
    goes_so new (item ∷ rest) are (inl ahead) = (are, inl ahead)
    goes_so new (item ∷ rest) are (inr made) = (are, inr (inl made))

    module _ (are : AreInserting c.plan) (ahead : (puts_ahead c.plan ≡ true) ⊎ Made) where
      -- the call stays where it is
      stays_so : (new : K → Option (K × Stored V)) → AreInserting c.plan ×
          ((puts_ahead c.plan ≡ true) ⊎ (Made ⊎ PutNow new))
      stays_so new = (are, by ahead)
        where
          by : (puts_ahead c.plan ≡ true) ⊎ Made → (puts_ahead c.plan ≡ true) ⊎ (Made ⊎ PutNow new)
          by (inl is) = inl is
          by (inr made) = inr (inl made)

      on_item : (item : Item K V E) (rest : List (Item K V E)) → c.plan ≡ item ∷ rest →
          AreInserting (item ∷ rest) → (puts_ahead (item ∷ rest) ≡ true) ⊎ Made →
          Outcomes eq After w n c item rest
      on_item plan.Drain rest is f so = (
        λ none. goes_so _ rest f.1 so,
        λ x xs some. goes_so _ (plan.Post x ∷ plan.Drain ∷ rest) (tt, f) so,
        λ x number xs some.
            goes_so _ (plan.Ended number ∷ plan.Post x ∷ plan.Drain ∷ rest) (tt, (tt, f)) so,
      )
      on_item (plan.Ended number) rest is f so =
          (λ off. goes_so _ rest f.1 so, λ on. stays_so _)
      on_item (plan.Post write) rest is f so = (
        λ room. goes_so _ rest f.1 so,
        λ full. goes_so _ (plan.Turn ∷ plan.Apply ∷ plan.End ∷ plan.Post write ∷ rest)
            (tt, (tt, (tt, f))) so,
      )
      on_item plan.Turn rest is f so = (λ free. goes_so _ rest f.1 so, λ taken. stays_so _)
      on_item plan.Apply rest is f so =
          (λ none. goes_so _ rest f.1 so, λ y ys some. goes_so _ (plan.Apply ∷ rest) f so)
      on_item plan.End rest is f so = goes_so _ rest f.1 so
      on_item (plan.Lock at) rest is f so = (λ free. goes_so _ rest f.1 so, λ held. stays_so _)
      on_item (plan.Unlock wrote) rest is f so = goes_so _ rest f.1 so
      on_item (plan.Notice at old cause upsert) rest is f so = (
        λ off. goes_so _ rest f.1 so,
        λ on. heard _ so,
      )
        where
          heard : (new : K → Option (K × Stored V)) → (puts_ahead rest ≡ true) ⊎ Made →
              AreInserting (plan.Heard ∷ rest) ×
              ((puts_ahead (plan.Heard ∷ rest) ≡ true) ⊎ (Made ⊎ PutNow new))
          heard new (inl still) = ((tt, f.1), inl still)
          heard new (inr made) = ((tt, f.1), inr (inl made))
      on_item plan.Heard rest is f so = (λ off. goes_so _ rest f.1 so, λ on. stays_so _)
      on_item (plan.Moment (plan.To_store at new)) rest is f so =
          ((f.0, f.1), inl refl)
      on_item (plan.Write at new moment) rest is f so = (
        λ more. stays_so _,
        λ off old. ((tt, f.1), inr (inr put)),
        λ on. ((tt, (tt, f.1)), inr (inr put)),
        λ k old on some. ((tt, (tt, (tt, f.1))), inr (inr put)),
      )
        where
          put : (m : ℕ) × (r : List (Item K V E)) × (c.plan ≡ plan.Write key value m ∷ r) ×
              (put_key eq w.table.stored at
              (Some (at, record { value = new; stamp = n; modified = moment })) ≡
              put_key eq w.table.stored key (Some (key, record_of n value m)))
          put = (
            moment,
            rest,
            is ∙ ap (λ k. plan.Write k new moment ∷ rest) f.0.0 ∙
                ap (λ v. plan.Write key v moment ∷ rest) f.0.1,
            ap (λ k. put_key eq w.table.stored k (Some (k, record_of n new moment))) f.0.0 ∙
                ap (λ v. put_key eq w.table.stored key (Some (key, record_of n v moment))) f.0.1,
          )
      on_item (plan.Reply a) rest is f so = by so
        where
          by : (puts_ahead rest ≡ true) ⊎ Made → Made
          by (inl still) = absurd (off (sym (ap puts_ahead f) ∙ still))
            where
              off : false ≡ true → ⊥
              off e = cc
          by (inr made) = made
      on_item _ rest is f so = absurd f.0

      pub on_plan : (p : List (Item K V E)) → c.plan ≡ p → OnStep eq After w n c p
      on_plan [] is = stays_so _
      on_plan (item ∷ rest) is = outcomes eq After w n c item rest
          (on_item item rest is (subst AreInserting is are) (subst Ahead is ahead))
        where
          Ahead : List (Item K V E) → Type 0
          Ahead p = (puts_ahead p ≡ true) ⊎ Made

module _ {K V E : Type 0} (eq : K → K → Bool) (key : K) (value : V) (n : ℕ) where
  -- the insert has made its write
  abbrev HasPut : State K V E → Type 0
  HasPut s = HasMade eq s n (PutsValue eq n key value)

  -- where the insert stands, unless the cache is disabled
  abbrev IsAt : State K V E → Call K V E → Type 0
  IsAt s c =
      is_disabled s.world.desk.rules ≡ false →
      AreInserting key value c.plan × ((puts_ahead key value c.plan ≡ true) ⊎ HasPut s)

  put_on : (s v : State K V E) → Leads eq s v → HasPut s → HasPut v
  put_on s v led made = made_on eq s v n (PutsValue eq n key value) led made

  at_on : (s v : State K V E) (c : Call K V E) → Leads eq s v →
      v.world.desk.rules ≡ s.world.desk.rules → IsAt s c → IsAt v c
  at_on s v c led rules h able = by (h (ap is_disabled (sym rules) ∙ able))
    where
      by : AreInserting key value c.plan × ((puts_ahead key value c.plan ≡ true) ⊎ HasPut s) →
          AreInserting key value c.plan × ((puts_ahead key value c.plan ≡ true) ⊎ HasPut v)
      by (are, inl ahead) = (are, inl ahead)
      by (are, inr made) = (are, inr (put_on s v led made))

  -- where the insert is left by its step
  left_so : (s t : State K V E) (turn : Turn K V E) → is_disabled s.world.desk.rules ≡ false →
      HoldsIf IsAt s (s.calls n) → (step : Step eq s n turn t) →
      LeftSo key value eq n s.world step.call (HasPut t) t.world.table.stored (t.calls n)
  left_so s t turn able h step =
      let c : Call K V E = step.call in
      let so = (subst (HoldsIf IsAt s) step.live h) able in
      step_cases eq (After key value eq n s.world c (HasPut t))
      (λ v r. LeftSo key value eq n s.world c (HasPut t) v.world.table.stored (v.calls n)) s t n turn step
      (on_plan key value eq n s.world c (HasPut t) so.0 (more so.1) c.plan refl)
      (λ w next left. subst (LeftSo key value eq n s.world c (HasPut t) w.table.stored)
      (sym (put_here s.calls n next.left)) left)
    where
      more : (puts_ahead key value step.call.plan ≡ true) ⊎ HasPut s →
          (puts_ahead key value step.call.plan ≡ true) ⊎ HasPut t
      more (inl ahead) = inl ahead
      more (inr made) = inr (put_on s t (step_leads eq s t n turn step) made)

  at_step : (s t : State K V E) (turn : Turn K V E) → IsReached eq s →
      HoldsIf IsAt s (s.calls n) → Step eq s n turn t → HoldsIf IsAt t (t.calls n)
  at_step s t turn reached h step = by (is_disabled s.world.desk.rules) refl (t.calls n) refl
    where
      same : is_disabled t.world.desk.rules ≡ is_disabled s.world.desk.rules
      same = ap is_disabled (step_rules eq s t n turn step)

      off : (b : Bool) → b ≡ true → b ≡ false → ⊥
      off b e f = cc

      put : PutNow key value eq n s.world step.call (HasPut t) t.world.table.stored → HasPut t
      put now = record {
        before = s;
        reached = reached;
        call = step.call;
        live = step.live;
        turn = turn;
        after = t;
        step = step;
        what = (now.0, record { rest = now.1; writing = now.2; put = now.3 });
        led = no_leads eq t;
      }

      is_at : (d : Call K V E) →
          LeftSo key value eq n s.world step.call (HasPut t) t.world.table.stored (Some d) → IsAt t d
      is_at d (are, inl ahead) able = (are, inl ahead)
      is_at d (are, inr (inl made)) able = (are, inr made)
      is_at d (are, inr (inr now)) able = (are, inr (put now))

      by : (b : Bool) → is_disabled s.world.desk.rules ≡ b → (o : Option (Call K V E)) →
          t.calls n ≡ o → HoldsIf IsAt t o
      by b e None is = tt
      by true e (Some d) is = λ able. absurd (off (is_disabled t.world.desk.rules) (same ∙ e) able)
      by false e (Some d) is = is_at d
          (subst (LeftSo key value eq n s.world step.call (HasPut t) t.world.table.stored) is
          (left_so s t turn e h step))

  begins : (v : State K V E) → IsAt (started v (start.Insert key value))
      (fresh_call v.world.table.division.parts v.world.desk.rules (start.Insert key value))
  begins v able = subst Begins (sym able) on
    where
      Plan : List (Item K V E) → Type 0
      Plan p = AreInserting key value p ×
          ((puts_ahead key value p ≡ true) ⊎ HasPut (started v (start.Insert key value)))

      Begins : Bool → Type 0
      Begins b = Plan (insert_plan b v.world.desk.rules key value)

      on : Begins false
      on = put_plans Plan v.world.desk.rules key value (plan.Reply answer.Done ∷ [])
          ((tt, ((refl, refl), refl)), inl refl) ((tt, (tt, ((refl, refl), refl))), inl refl)

  pub put_in : (s t : State K V E) (a : Answer K V E) → WasStarted eq (start.Insert key value) n s →
      is_disabled s.world.desk.rules ≡ false → Step eq s n (turn.Answer a) t → HasPut t
  put_in s t a was able step = by (t.calls n) refl
      (left_so s t (turn.Answer a) able
      (holds_since eq (start.Insert key value) n IsAt at_on at_step s was begins).1 step)
    where
      by : (o : Option (Call K V E)) → t.calls n ≡ o →
          LeftSo key value eq n s.world step.call (HasPut t) t.world.table.stored o → HasPut t
      by None is made = made
      by (Some d) is left = absurd (off (sym (ap is_some is) ∙ live_still eq s t n (turn.Answer a) step))
        where
          off : true ≡ false → ⊥
          off e = cc

module _ {K V E : Type 0} (eq : K → K → Bool) where
  pub inserts_put : InsertsPutIn K V E eq
  inserts_put s t n key value a was able step = put_in eq key value n s t a was able step

  pub inserts_stand : InsertsStand K V E eq
  inserts_stand s t u n key q value a es rs was able step alike run =
      let made : HasMade eq t n (PutsValue eq n key value) =
      put_in eq key value n s t a was able step in
      let led : Leads eq made.after u = leads_more eq made.after t u made.led
      (record { events = es; replies = rs; run = run }) in
      record {
        written = made.after;
        moment = made.what.0;
        stood = ap (λ f. f q) made.what.1.put ∙
            ap (λ b. cond b (Some (key, record_of n value made.what.0))
            (made.before.world.table.stored q)) alike;
        since = stand eq made.after u q led.events led.replies led.run;
      }
