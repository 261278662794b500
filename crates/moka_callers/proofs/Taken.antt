-- A load that answers a value as fresh took it as the answer to its own ask.
use Rattle.std.proofs.Common.{◌≡◌, ℕ, Bool, true, false, List, [], ◌∷◌, Option, Some, None, IsSome, refl, sym, ap, ◌∙◌, subst}
use Rattle.std.proofs.lemmas.Bool.{false≢true}
use Rattle.moka_hist.specs.State.{State, World, Call}
use Rattle.moka_hist.specs.Plan.{Item, is_disabled, load_plan, plan_of, seek}
use Rattle.moka_hist.specs.Plan as plan
use Rattle.moka_hist.specs.Next.{Next, goes}
use Rattle.moka_hist.specs.Loading.{after_read, after_told}
use Rattle.moka_hist.specs.Run.{IsReached, started}
use Rattle.moka_hist.specs.Step.{Step}
use Rattle.moka_hist.specs.declared.accesses.Turn.{Turn}
use Rattle.moka_hist.specs.declared.accesses.Turn.TheVariants as turn
use Rattle.moka_hist.specs.declared.events.Start.{Start}
use Rattle.moka_hist.specs.declared.events.Start.TheVariants as start
use Rattle.moka_hist.specs.declared.events.Told.{Told}
use Rattle.moka_hist.specs.declared.events.Told.TheVariants as told
use Rattle.moka_hist.specs.declared.loads.Kind.TheVariants as kind
use Rattle.moka_hist.specs.declared.loads.Load.{Load}
use Rattle.moka_hist.specs.declared.loads.Sought.{Sought}
use Rattle.moka_hist.specs.declared.replies.Answer.{Answer}
use Rattle.moka_hist.specs.declared.replies.Answer.TheVariants as answer
use Rattle.moka_hist.specs.declared.rules.Rules.{Rules}
use Rattle.moka_hist.specs.declared.visits.Found.TheVariants as found
use Rattle.moka_hist.specs.declared.visits.Settled.{Settled}
use Rattle.moka_hist.specs.declared.visits.Settled.TheVariants as settled
use Rattle.moka_laws.specs.Starting.{HasMade, Leads}
use Rattle.moka_laws.specs.Starts.{kind_loaded}
use Rattle.moka_laws.proofs.Alongside.{HoldsIf, holds_since}
use Rattle.moka_laws.proofs.Counting.{put_here}
use Rattle.moka_laws.proofs.Following.{made_on, no_leads, step_leads}
use Rattle.moka_laws.proofs.Outcomes.{Outcomes, outcomes}
use Rattle.moka_laws.proofs.Rules.{abort_next, loaded_plans}
use Rattle.moka_laws.proofs.StepCases.{OnStep, step_cases}
use Rattle.moka_callers.specs.Loading.{FreshWasTold, TakesLoaded}

module _ {K V E : Type 0} (Taken : V → Type 0) where
  -- what is answered as fresh was taken
  abbrev IsTaken : Answer K V E → Type 0
  IsTaken (answer.Loaded value true) = Taken value
  IsTaken _ = Unit {0}

  -- an item of a load
  abbrev IsLoading : Item K V E → Type 0
  IsLoading plan.Drain = Unit {0}
  IsLoading (plan.Ended number) = Unit {0}
  IsLoading (plan.Post write) = Unit {0}
  IsLoading plan.Turn = Unit {0}
  IsLoading plan.Apply = Unit {0}
  IsLoading plan.End = Unit {0}
  IsLoading (plan.Lock key) = Unit {0}
  IsLoading (plan.Unlock wrote) = Unit {0}
  IsLoading (plan.Notice key old cause upsert) = Unit {0}
  IsLoading plan.Heard = Unit {0}
  IsLoading (plan.Moment (plan.To_store key value)) = Unit {0}
  IsLoading (plan.Write key value moment) = Unit {0}
  IsLoading (plan.Get (plan.To_load sought) key) = Unit {0}
  IsLoading (plan.Get (plan.To_own sought) key) = Unit {0}
  IsLoading (plan.Judge (plan.To_load sought) key stored) = Unit {0}
  IsLoading (plan.Judge (plan.To_own sought) key stored) = Unit {0}
  IsLoading (plan.Own sought) = Unit {0}
  IsLoading (plan.Read sought) = Unit {0}
  IsLoading (plan.Settle with) = Unit {0}
  IsLoading (plan.Ask load) = Unit {0}
  IsLoading (plan.Reply a) = IsTaken a
  IsLoading _ = ⊥

  abbrev AreLoading : List (Item K V E) → Type 0
  AreLoading [] = Unit {0}
  AreLoading (plan.Told load ∷ rest) = rest ≡ []
  AreLoading (item ∷ rest) = IsLoading item × AreLoading rest

  -- where the load is left, and what it answers
  abbrev Left : Option (Call K V E) → Type 0
  Left None = Unit {0}
  Left (Some d) = AreLoading d.plan

  abbrev Says : Turn K V E → Type 0
  Says (turn.Answer a) = IsTaken a
  Says _ = Unit {0}

  abbrev NextSo : Next K V E → Type 0
  NextSo next = Left next.left × Says next.turn

  goes_so : (c : Call K V E) (rest : List (Item K V E)) → AreLoading rest → NextSo (goes c rest)
  goes_so c (plan.Reply a ∷ []) h = (tt, h.0)
  goes_so c rest h = (h, tt)

  module _ (eq : K → K → Bool) (w : World K V E) (n : ℕ) (c : Call K V E) (are : AreLoading c.plan)
      (gave : (load : Load K) → c.plan ≡ plan.Told load ∷ [] → (value : V) →
      w.desk.told n ≡ Some (told.Value value) → Taken value) where
    abbrev After : World K V E → Next K V E → Type 0
    After new next = NextSo next

    read_so : (sought : Sought K) (with : Settled V E) →
        NextSo (after_read c sought (found.ReadSettled with))
    read_so sought settled.NotYet = (are, tt)
    read_so sought (settled.Ready value) = (tt, tt)
    read_so sought (settled.Err error) = (tt, tt)
    read_so sought settled.Nothing = (tt, tt)
    read_so sought settled.Aborted = abort_next NextSo c sought (tt, tt) ((tt, tt), tt)

    told_so : (load : Load K) → c.plan ≡ plan.Told load ∷ [] → (given : Told V E) →
        w.desk.told n ≡ Some given → NextSo (after_told c load (found.TakeTold (Some given)))
    told_so load is (told.Value value) some =
        let taken : Taken value = gave load is value some in
        loaded_plans (λ p. NextSo (goes c p)) c.rules load value ((tt, (taken, tt)), tt)
        ((tt, (tt, (tt, (taken, tt)))), tt) ((tt, (tt, (tt, (tt, (taken, tt))))), tt)
    told_so load is told.Nothing some = ((tt, (tt, tt)), tt)
    told_so load is (told.Err error) some = ((tt, (tt, tt)), tt)
    told_so load is _ some = (are, tt)

    on_item : (item : Item K V E) (rest : List (Item K V E)) → c.plan ≡ item ∷ rest →
        AreLoading (item ∷ rest) → Outcomes eq After w n c item rest
    on_item plan.Drain rest is f = (
      λ none. goes_so c rest f.1,
      λ x xs some. ((tt, f), tt),
      λ x number xs some. ((tt, (tt, f)), tt),
    )
    on_item (plan.Ended number) rest is f = (λ off. goes_so c rest f.1, λ on. (are, tt))
    on_item (plan.Post write) rest is f =
        (λ room. goes_so c rest f.1, λ full. ((tt, (tt, (tt, f))), tt))
    on_item plan.Turn rest is f = (λ free. goes_so c rest f.1, λ taken. (are, tt))
    on_item plan.Apply rest is f = (λ none. goes_so c rest f.1, λ y ys some. (f, tt))
    on_item plan.End rest is f = goes_so c rest f.1
    on_item (plan.Lock key) rest is f = (λ free. goes_so c rest f.1, λ held. (are, tt))
    on_item (plan.Unlock wrote) rest is f = goes_so c rest f.1
    on_item (plan.Notice key old cause upsert) rest is f =
        (λ off. goes_so c rest f.1, λ on. ((tt, f.1), tt))
    on_item plan.Heard rest is f = (λ off. goes_so c rest f.1, λ on. (are, tt))
    on_item (plan.Moment (plan.To_store key value)) rest is f = ((tt, f.1), tt)
    on_item (plan.Write key value moment) rest is f = (
      λ more. (are, tt),
      λ off old. ((tt, f.1), tt),
      λ on. ((tt, (tt, f.1)), tt),
      λ k old on some. ((tt, (tt, (tt, f.1))), tt),
    )
    on_item (plan.Get (plan.To_load sought) key) rest is f =
        (λ more. (are, tt), λ none. ((tt, tt), tt), λ k stored some. ((tt, tt), tt))
    on_item (plan.Get (plan.To_own sought) key) rest is f =
        (λ more. (are, tt), λ none. ((tt, tt), tt), λ k stored some. ((tt, tt), tt))
    on_item (plan.Judge (plan.To_load sought) key stored) rest is f =
        (λ seen. (tt, tt), λ unseen. ((tt, tt), tt))
    on_item (plan.Judge (plan.To_own sought) key stored) rest is f =
        (λ seen. ((tt, (tt, tt)), tt), λ unseen. ((tt, tt), tt))
    on_item (plan.Own sought) rest is f = (
      λ able none. ((tt, tt), tt),
      λ disabled none. ((tt, tt), tt),
      λ owner some. ((tt, tt), tt),
    )
    on_item (plan.Read sought) rest is f =
        (λ none. (are, tt), λ with some. read_so sought with)
    on_item (plan.Settle with) rest is f = goes_so c rest f.1
    on_item (plan.Ask load) rest is f = (refl, tt)
    on_item (plan.Told load) rest is f = (
      λ none. (are, tt),
      λ given some. told_so load (is ∙ ap (λ p. plan.Told load ∷ p) f) given some,
    )
    on_item (plan.Reply a) rest is f = (tt, f.0)
    on_item _ rest is f = absurd f.0

    on_plan : (p : List (Item K V E)) → c.plan ≡ p → AreLoading p → OnStep eq After w n c p
    on_plan [] is f = (are, tt)
    on_plan (item ∷ rest) is f = outcomes eq After w n c item rest (on_item item rest is f)

-- as it is started
begins_loading : {K V : Type 0} (E : Type 0) (Taken : V → Type 0) (begin : Start K V) →
    IsSome (kind_loaded begin) → (parts : ℕ) (rules : Rules) →
    AreLoading {K = K} {V = V} {E = E} Taken (plan_of parts rules begin)
begins_loading {K} {V} E Taken begin is parts rules = by begin is
  where
    either : (b : Bool) (sought : Sought K) →
        AreLoading {K = K} {V = V} {E = E} Taken (load_plan b sought)
    either true sought = (tt, (tt, tt))
    either false sought = (tt, (tt, tt))

    by : (begin : Start K V) → IsSome (kind_loaded begin) →
        AreLoading {K = K} {V = V} {E = E} Taken (plan_of parts rules begin)
    by (start.GetWith key replace) is = either (is_disabled rules) (seek kind.GetWith key replace)
    by (start.Optional key) is = either (is_disabled rules) (seek kind.Optional key None)
    by (start.Try key) is = either (is_disabled rules) (seek kind.Try key None)
    by _ is = absurd (false≢true is)

module _ {K V E : Type 0} (eq : K → K → Bool) (n : ℕ) where
  -- the call has taken the value
  abbrev HasTaken : State K V E → V → Type 0
  HasTaken s value = HasMade eq s n (TakesLoaded n value)

  abbrev IsAt : State K V E → Call K V E → Type 0
  IsAt s c = AreLoading (HasTaken s) c.plan

  taken_on : (s v : State K V E) → Leads eq s v → (a : Answer K V E) → IsTaken (HasTaken s) a →
      IsTaken (HasTaken v) a
  taken_on s v led (answer.Loaded value true) h = made_on eq s v n (TakesLoaded n value) led h
  taken_on s v led _ h = tt

  item_on : (s v : State K V E) → Leads eq s v → (item : Item K V E) →
      IsLoading (HasTaken s) item → IsLoading (HasTaken v) item
  item_on s v led (plan.Reply a) h = taken_on s v led a h
  item_on s v led (plan.Get (plan.To_load sought) key) h = h
  item_on s v led (plan.Get (plan.To_own sought) key) h = h
  item_on s v led (plan.Judge (plan.To_load sought) key stored) h = h
  item_on s v led (plan.Judge (plan.To_own sought) key stored) h = h
  item_on s v led (plan.Moment (plan.To_store key value)) h = h
  item_on s v led _ h = h

  loading_on : (s v : State K V E) → Leads eq s v → (p : List (Item K V E)) →
      AreLoading (HasTaken s) p → AreLoading (HasTaken v) p
  loading_on s v led [] h = tt
  loading_on s v led (plan.Told load ∷ rest) h = h
  loading_on s v led (item ∷ rest) h =
      (item_on s v led item h.0, loading_on s v led rest h.1)

  at_on : (s v : State K V E) (c : Call K V E) → Leads eq s v →
      v.world.desk.rules ≡ s.world.desk.rules → IsAt s c → IsAt v c
  at_on s v c led rules h = loading_on s v led c.plan h

  step_so : (s t : State K V E) (r : Turn K V E) → IsReached eq s → HoldsIf IsAt s (s.calls n) →
      Step eq s n r t → Left (HasTaken t) (t.calls n) × Says (HasTaken t) r
  step_so s t r reached h step =
      let c : Call K V E = step.call in
      let are : AreLoading (HasTaken t) c.plan = loading_on s t (step_leads eq s t n r step) c.plan
      (subst (HoldsIf IsAt s) step.live h) in
      step_cases eq (After (HasTaken t) eq s.world n c are gave)
      (λ v q. Left (HasTaken t) (v.calls n) × Says (HasTaken t) q) s t n r step
      (on_plan (HasTaken t) eq s.world n c are gave c.plan refl are)
      (λ w next so. (subst (Left (HasTaken t)) (sym (put_here s.calls n next.left)) so.0, so.1))
    where
      gave : (load : Load K) → step.call.plan ≡ plan.Told load ∷ [] → (value : V) →
          s.world.desk.told n ≡ Some (told.Value value) → HasTaken t value
      gave load is value some = record {
        before = s;
        reached = reached;
        call = step.call;
        live = step.live;
        turn = r;
        after = t;
        step = step;
        what = record { load = load; telling = is; told = some };
        led = no_leads eq t;
      }

  at_step : (s t : State K V E) (r : Turn K V E) → IsReached eq s → HoldsIf IsAt s (s.calls n) →
      Step eq s n r t → HoldsIf IsAt t (t.calls n)
  at_step s t r reached h step = by (t.calls n) (step_so s t r reached h step).0
    where
      by : (o : Option (Call K V E)) → Left (HasTaken t) o → HoldsIf IsAt t o
      by None so = tt
      by (Some d) so = so

module _ {K V E : Type 0} (eq : K → K → Bool) where
  pub fresh_told : FreshWasTold K V E eq
  fresh_told s t begin n value was is step =
      let so = holds_since eq begin n (IsAt eq n) (at_on eq n) (at_step eq n) s was
      (λ v. begins_loading E (HasTaken eq n (started v begin)) begin is
      v.world.table.division.parts v.world.desk.rules) in
      (step_so eq n s t (turn.Answer (answer.Loaded value true)) so.0 so.1 step).1
