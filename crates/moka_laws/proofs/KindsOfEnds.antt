-- How an owner ended fits the kind of the load of those that wait for it.
use Rattle.std.proofs.Common.{◌≡◌, ℕ, ◌+◌, ◌≤◌, ◌==◌, nat_lt, Bool, true, false, cond, ◌&&◌, List, [], ◌∷◌, Option, Some, None, is_some, ◌⊎◌, inl, inr, refl, sym, ap, ◌∙◌, subst, arith}
use Rattle.std.proofs.lemmas.Bool.{eqb-true, false≢true}
use Rattle.std.specs.Option.{option_and_then}
use Rattle.moka_hist.specs.Conditions.{may_end}
use Rattle.moka_hist.specs.Dropping.{dropped}
use Rattle.moka_hist.specs.Finite.{put_at, load_eq}
use Rattle.moka_hist.specs.State.{State, World, Call, DeskPart}
use Rattle.moka_hist.specs.Plan.{Item, Aim}
use Rattle.moka_hist.specs.Plan as plan
use Rattle.moka_hist.specs.Next.{Next, goes}
use Rattle.moka_hist.specs.Step.{Step, state_after}
use Rattle.moka_hist.specs.Run.{started}
use Rattle.moka_hist.specs.Visits.{settled_with, settled_without}
use Rattle.moka_hist.specs.declared.accesses.Turn.{Turn}
use Rattle.moka_hist.specs.declared.accesses.Turn.TheVariants as turn
use Rattle.moka_hist.specs.declared.events.Start.{Start}
use Rattle.moka_hist.specs.declared.loads.Kind.{Kind}
use Rattle.moka_hist.specs.declared.loads.Kind.TheVariants as kind
use Rattle.moka_hist.specs.declared.loads.Load.{Load}
use Rattle.moka_hist.specs.declared.replies.Answer.{Answer}
use Rattle.moka_hist.specs.declared.visits.Settled.{Settled}
use Rattle.moka_hist.specs.declared.visits.Settled.TheVariants as settled
use Rattle.moka_laws.specs.Loads.{SettlementsFit}
use Rattle.moka_laws.proofs.Counting.{none_some, some_same, put_here, put_there, differ}
use Rattle.moka_laws.proofs.Kept.{IsInvariant, in_reached}
use Rattle.moka_laws.proofs.Answering.{EndsWell}
use Rattle.moka_laws.proofs.Fitting.{AllFit, MayEndSo}
use Rattle.moka_laws.proofs.Hearing.{settles_form, reads_form}
use Rattle.moka_laws.proofs.Owning.{plan_left, kind_one, and_right}
use Rattle.moka_laws.proofs.Plans.{IsPlan}
use Rattle.moka_laws.proofs.Reading.{OwnerOf, Answered}
use Rattle.moka_laws.proofs.Roles.{Fits, awaited, awaits_first}
use Rattle.moka_laws.proofs.Safe.{IsWell, well_kept}
use Rattle.moka_laws.proofs.Served.{joined_numbered}
use Rattle.moka_laws.proofs.Serving.{no_load}
use Rattle.moka_laws.proofs.StepCases.{OnStep, step_cases}
use Rattle.moka_laws.proofs.Outcomes.{Outcomes, outcomes, computes_of, passes_by}

-- an owner of any kind may be dropped
aborted_ends : (V E : Type 0) (k : Kind) → may_end {V = V} {E = E} k settled.Aborted ≡ true
aborted_ends V E kind.GetWith = refl
aborted_ends V E kind.Optional = refl
aborted_ends V E kind.Try = refl
aborted_ends V E kind.Compute = refl

some_awaited : {A : Type 0} (o : Option A) → is_some o ≡ true → (a : A) × (o ≡ Some a)
some_awaited None e = absurd (false≢true e)
some_awaited (Some a) e = (a, refl)

-- what is chosen is the one, or else the other
chosen_or : {A : Type 0} (b : Bool) (x y z : A) → cond b x y ≡ z → ((b ≡ true) × (x ≡ z)) ⊎ (y ≡ z)
chosen_or true x y z e = inl (refl, e)
chosen_or false x y z e = inr e

three : (x y z : Bool) → (x && y && z) ≡ true → (x ≡ true) × (z ≡ true)
three true true z e = (refl, e)
three true false z e = absurd (false≢true e)
three false y z e = absurd (false≢true e)

module _ {K V E : Type 0} where
  -- an owner of an equal load that may end so ends as the kind allows
  ends_alike : (eq : K → K → Bool) (owned : Option (Load K)) (l load : Load K) (with : Settled V E) →
      MayEndSo owned with → owned ≡ Some l → load_eq eq l load ≡ true → may_end load.kind with ≡ true
  ends_alike eq owned l load with may is alike =
      let same : l.kind ≡ load.kind = kind_one l.kind load.kind (and_right _ _ alike) in
      subst (λ k. may_end k with ≡ true) same (subst (λ v. MayEndSo v with) is may)

  -- an owner that has just ended so
  abbrev EndedNow : DeskPart K V E → ℕ → ℕ → Settled V E → Option (Call K V E) → Type 0
  EndedNow d n o with left =
      (n ≡ o) × MayEndSo (d.owning n) with × (is_some (d.owning n) ≡ true) × (left ≡ None)

  -- what a step of the call, or its end, has to show
  record Leaves (d : DeskPart K V E) (n : ℕ) (new : World K V E) (next : Next K V E) : Type 0 where
    last : new.desk.last ≡ d.last
    joined : (m : ℕ) → (n == m) ≡ false → new.desk.joined m ≡ d.joined m
    own : (o : ℕ) (load : Load K) (with : Settled V E) → new.desk.joined n ≡ Some o →
        awaited (plan_left next.left) ≡ Some load → new.desk.settled o ≡ Some with →
        may_end load.kind with ≡ true
    ended : (o : ℕ) (with : Settled V E) → new.desk.settled o ≡ Some with →
        (d.settled o ≡ Some with) ⊎ EndedNow d n o with next.left

  -- what is left of a settlement was there
  without_was : (d : DeskPart K V E) (n o : ℕ) (with : Settled V E) → settled_without d n o ≡ Some with →
      d.settled o ≡ Some with
  without_was d n o with e = by (chosen_or _ None (d.settled o) (Some with) e)
    where
      by : {A : Type 0} → (A × (None ≡ Some with)) ⊎ (d.settled o ≡ Some with) → d.settled o ≡ Some with
      by (inl h) = absurd (none_some h.1)
      by (inr h) = h

  -- a settlement is the new one of this call, or was kept
  with_was : (d : DeskPart K V E) (n o : ℕ) (with other : Settled V E) (kept : ℕ → Option (Settled V E)) →
      settled_with d n with kept o ≡ Some other →
      ((n ≡ o) × (is_some (d.owning n) ≡ true) × (with ≡ other)) ⊎ (kept o ≡ Some other)
  with_was d n o with other kept e = by (chosen_or _ (Some with) (kept o) (Some other) e)
    where
      by : ((is_some (d.owning n) && nat_lt 0 (d.readers n) && n == o) ≡ true × (Some with ≡ Some other)) ⊎
          (kept o ≡ Some other) →
          ((n ≡ o) × (is_some (d.owning n) ≡ true) × (with ≡ other)) ⊎ (kept o ≡ Some other)
      by (inl h) =
          let t = three (is_some (d.owning n)) (nat_lt 0 (d.readers n)) (n == o) h.0 in
          inl (eqb-true n o t.1, t.0, some_same h.1)
      by (inr h) = inr h

  module _ (eq : K → K → Bool) (w : World K V E) (n : ℕ) (c : Call K V E)
      (owner : (load : Load K) (o : ℕ) → w.desk.owners load ≡ Some o → OwnerOf eq w.desk.owning o load)
      (gone : (o : ℕ) (with : Settled V E) → w.desk.settled o ≡ Some with → w.desk.owning o ≡ None)
      (was : (o : ℕ) (load : Load K) (with : Settled V E) → w.desk.joined n ≡ Some o →
      awaited c.plan ≡ Some load → w.desk.settled o ≡ Some with → may_end load.kind with ≡ true) where
    abbrev After : World K V E → Next K V E → Type 0
    After new next = Leaves w.desk n new next

    -- nothing of this has changed, and the call waits for nobody
    same : {new : World K V E} {next : Next K V E} → new.desk.joined ≡ w.desk.joined →
        new.desk.settled ≡ w.desk.settled → new.desk.last ≡ w.desk.last → w.desk.joined n ≡ None →
        After new next
    same j s l idle = record {
      last = l;
      joined = λ m h. ap (λ f. f m) j;
      own = λ o load with e a f. absurd (none_some (sym idle ∙ sym (ap (λ g. g n) j) ∙ e));
      ended = λ o with e. inl (sym (ap (λ f. f o) s) ∙ e);
    }

    module _ (idle_by : (item : Item K V E) (rest : List (Item K V E)) → c.plan ≡ item ∷ rest →
        awaited (item ∷ []) ≡ None → w.desk.joined n ≡ None)
        (form : (with : Settled V E) (rest : List (Item K V E)) → c.plan ≡ plan.Settle with ∷ rest →
        (a : Answer K V E) × (rest ≡ plan.Reply a ∷ []))
        (may : (with : Settled V E) (rest : List (Item K V E)) → c.plan ≡ plan.Settle with ∷ rest →
        MayEndSo (w.desk.owning n) with) where
      -- the call ends its load
      ends : (with : Settled V E) (rest : List (Item K V E)) → c.plan ≡ plan.Settle with ∷ rest →
          w.desk.joined n ≡ None → (next : Next K V E) → next.left ≡ None → {new : World K V E} →
          new.desk.joined ≡ w.desk.joined →
          ((o : ℕ) → new.desk.settled o ≡ settled_with w.desk n with w.desk.settled o) →
          new.desk.last ≡ w.desk.last → Leaves w.desk n new next
      ends with rest e idle next none j s l = record {
        last = l;
        joined = λ m h. ap (λ f. f m) j;
        own = λ o load other f a g. absurd (none_some (sym idle ∙ sym (ap (λ k. k n) j) ∙ f));
        ended = λ o other f. by o other (with_was w.desk n o with other w.desk.settled (sym (s o) ∙ f));
      }
        where
          by : (o : ℕ) (other : Settled V E) →
              ((n ≡ o) × (is_some (w.desk.owning n) ≡ true) × (with ≡ other)) ⊎ (w.desk.settled o ≡ Some other) →
              (w.desk.settled o ≡ Some other) ⊎ EndedNow w.desk n o other next.left
          by o other (inl h) =
              inr (h.0, subst (MayEndSo (w.desk.owning n)) h.2 (may with rest e), h.1, none)
          by o other (inr h) = inl h

      on_item : (item : Item K V E) (rest : List (Item K V E)) → c.plan ≡ item ∷ rest → Outcomes eq After w n c item rest
      on_item plan.Drain rest e =
          let idle = idle_by plan.Drain rest e refl in (
            λ f. same refl refl refl idle,
            λ x xs f. same refl refl refl idle,
            λ x number xs f. same refl refl refl idle,
          )
      on_item plan.Apply rest e =
          let idle = idle_by plan.Apply rest e refl in
          (λ f. same refl refl refl idle, λ x xs f. same refl refl refl idle)
      on_item (plan.Get aim key) rest e =
          let idle = idle_by (plan.Get aim key) rest e refl in (
            λ more. same refl refl refl idle,
            λ none. same refl refl refl idle,
            λ k stored some. same refl refl refl idle,
          )
      on_item (plan.Judge aim key stored) rest e =
          let idle = idle_by (plan.Judge aim key stored) rest e refl in
          (λ seen. same refl refl refl idle, λ unseen. same refl refl refl idle)
      on_item (plan.Own sought) rest e =
          let idle = idle_by (plan.Own sought) rest e refl in (
            λ able none. same refl refl refl idle,
            λ disabled none. same refl refl refl idle,
            λ who some. record {
              last = refl;
              joined = λ m h. put_there w.desk.joined n (Some who) m h;
              own = λ o load with j a f.
                  let is : who ≡ o = some_same (sym (put_here w.desk.joined n (Some who)) ∙ j) in
                  let own = owner sought.load who some in
                  absurd (none_some (sym (gone o with f) ∙ ap w.desk.owning (sym is) ∙ own.1));
              ended = λ o with f. inl f;
            },
          )
      on_item (plan.Own_key compute) rest e =
          let idle = idle_by (plan.Own_key compute) rest e refl in (
            ((λ able none. same refl refl refl idle), λ disabled none. same refl refl refl idle),
            λ who some. record {
              last = refl;
              joined = λ m h. put_there w.desk.joined n (Some who) m h;
              own = λ o load with j a f.
                  let is : who ≡ o = some_same (sym (put_here w.desk.joined n (Some who)) ∙ j) in
                  let own = owner (computes_of compute.key) who some in
                  absurd (none_some (sym (gone o with f) ∙ ap w.desk.owning (sym is) ∙ own.1));
              ended = λ o with f. inl f;
            },
          )
      on_item (plan.Own_alone key) rest e =
          let idle = idle_by (plan.Own_alone key) rest e refl in (
            (λ able none. same refl refl refl idle, λ not none. same refl refl refl idle),
            λ who some. (λ able. same refl refl refl idle, λ not. same refl refl refl idle),
          )
      on_item (plan.Read sought) rest e = (
        λ none. record {
          last = refl;
          joined = λ m h. refl;
          own = was;
          ended = λ o with f. inl f;
        },
        λ with some. record {
          last = refl;
          joined = λ m h. put_there w.desk.joined n None m h;
          own = λ o load other j a f. absurd (none_some (sym (put_here w.desk.joined n None) ∙ j));
          ended = λ o other f. inl (without_was w.desk n o other f);
        },
      )
      on_item (plan.Read_key compute) rest e = (
        λ none. record {
          last = refl;
          joined = λ m h. refl;
          own = was;
          ended = λ o with f. inl f;
        },
        λ with some. record {
          last = refl;
          joined = λ m h. put_there w.desk.joined n None m h;
          own = λ o load other j a f. absurd (none_some (sym (put_here w.desk.joined n None) ∙ j));
          ended = λ o other f. inl (without_was w.desk n o other f);
        },
      )
      on_item (plan.Settle with) rest e =
          let f = form with rest e in
          ends with rest e (idle_by (plan.Settle with) rest e refl) (goes c rest)
          (ap (λ r. (goes c r).left) f.1) refl (λ o. refl) refl
      on_item (plan.Ask load) rest e =
          same refl refl refl (idle_by (plan.Ask load) rest e refl)
      on_item (plan.Ask_op compute pair) rest e =
          same refl refl refl (idle_by (plan.Ask_op compute pair) rest e refl)
      on_item (plan.Told load) rest e =
          let idle = idle_by (plan.Told load) rest e refl in
          (λ none. same refl refl refl idle, λ given some. same refl refl refl idle)
      on_item (plan.Told_op compute pair) rest e =
          let idle = idle_by (plan.Told_op compute pair) rest e refl in
          (λ none. same refl refl refl idle, λ given some. same refl refl refl idle)
      on_item (plan.Moment (plan.To_store key value)) rest e =
          same refl refl refl (idle_by (plan.Moment (plan.To_store key value)) rest e refl)
      on_item (plan.Moment (plan.To_take_out removal key)) rest e =
          same refl refl refl
          (idle_by (plan.Moment (plan.To_take_out removal key)) rest e refl)
      on_item (plan.Write key value moment) rest e =
          let idle = idle_by (plan.Write key value moment) rest e refl in (
            (λ more. same refl refl refl idle),
            (λ off old. same refl refl refl idle),
            (λ on. same refl refl refl idle),
            λ k old on some. same refl refl refl idle,
          )
      on_item (plan.Out removal key) rest e =
          let idle = idle_by (plan.Out removal key) rest e refl in (
            (λ more. same refl refl refl idle),
            (λ off none. same refl refl refl idle),
            (λ on none. same refl refl refl idle),
            (λ k old off some. same refl refl refl idle),
            λ k old on some. same refl refl refl idle,
          )
      on_item (plan.List_keys part) rest e =
          let idle = idle_by (plan.List_keys part) rest e refl in
          (λ more. same refl refl refl idle, λ listed keys is gives. same refl refl refl idle)
      on_item (plan.Find key) rest e =
          let idle = idle_by (plan.Find key) rest e refl in (
            λ more. same refl refl refl idle,
            λ none. same refl refl refl idle,
            λ k stored some none. same refl refl refl idle,
            λ k stored ids some is. same refl refl refl idle,
          )
      on_item (plan.Scan there stored) rest e =
          let idle = idle_by (plan.Scan there stored) rest e refl in
          (λ seen. same refl refl refl idle, λ unseen. same refl refl refl idle)
      on_item (plan.Register test) rest e =
          same refl refl refl (idle_by (plan.Register test) rest e refl)
      on_item (plan.Candidates parts) rest e =
          let idle = idle_by (plan.Candidates parts) rest e refl in
          (λ none. same refl refl refl idle, λ id more some. same refl refl refl idle)
      on_item (plan.Strike there stored) rest e = same refl refl refl (idle_by (plan.Strike there stored) rest e refl)
      on_item plan.Retire rest e = same refl refl refl (idle_by plan.Retire rest e refl)
      on_item (plan.Reply a) rest e =
          same refl refl refl (idle_by (plan.Reply a) rest e refl)
      on_item (plan.Notice key old cause upsert) rest e =
          let idle = idle_by (plan.Notice key old cause upsert) rest e refl in
          (λ f. same refl refl refl idle, λ f. same refl refl refl idle)
      on_item (plan.Post write) rest e =
          let idle = idle_by (plan.Post write) rest e refl in
          (λ f. same refl refl refl idle, λ f. same refl refl refl idle)
      on_item (plan.Holds key stamp cause there stored) rest e =
          let idle = idle_by (plan.Holds key stamp cause there stored) rest e refl in
          (λ f. same refl refl refl idle, λ f. same refl refl refl idle)
      on_item item rest e =
          let idle = idle_by item rest e refl in
          passes_by eq After w n c item rest tt
          (λ d a. same a.joined a.settled a.last idle) (same refl refl refl idle)

      on_plan : (p : List (Item K V E)) → c.plan ≡ p → (p ≡ [] → ⊥) → OnStep eq After w n c p
      on_plan [] e full = absurd (full refl)
      on_plan (item ∷ rest) e full = outcomes eq After w n c item rest (on_item item rest e)

-- ---- of a state

module _ {K V E : Type 0} (eq : K → K → Bool) where
  -- How an owner ended is kept only once it is gone, and fits the kind of who waits for it.
  record EndsFit (s : State K V E) : Type 0 where
    well : IsWell eq s
    ended : (o : ℕ) (with : Settled V E) → s.world.desk.settled o ≡ Some with →
        (s.calls o ≡ None) × (o ≤ s.world.desk.last)
    reads : (m o : ℕ) (load : Load K) (with : Settled V E) → s.world.desk.joined m ≡ Some o →
        awaited (plan_left (s.calls m)) ≡ Some load → s.world.desk.settled o ≡ Some with →
        may_end load.kind with ≡ true

  module _ (s : State K V E) (i : EndsFit s) (n : ℕ) (c : Call K V E) (live : s.calls n ≡ Some c) where
    -- the number of a live call is none of an owner that has ended
    apart : (o : ℕ) (with : Settled V E) → s.world.desk.settled o ≡ Some with → (n == o) ≡ false
    apart o with e =
        differ n o (λ is. none_some (sym (i.ended o with e).0 ∙ ap s.calls (sym is) ∙ live))

    -- what a step of the call, or its end, has shown holds of the state that it leaves
    fits_on : (w : World K V E) (next : Next K V E) → Leaves s.world.desk n w next →
        IsWell eq (state_after s n w next) → EndsFit (state_after s n w next)
    fits_on w next l well = record {
      well = well;
      ended = λ o with e. ends o with (l.ended o with e);
      reads = λ m o load with j a e. reads m o load with j a e (n == m) refl;
    }
      where
        number : n ≤ s.world.desk.last
        number = i.well.served.balanced.numbered n c live

        ends : (o : ℕ) (with : Settled V E) →
            (s.world.desk.settled o ≡ Some with) ⊎ EndedNow s.world.desk n o with next.left →
            (put_at s.calls n next.left o ≡ None) × (o ≤ w.desk.last)
        ends o with (inl e) =
            let was = i.ended o with e in
            (put_there s.calls n next.left o (apart o with e) ∙ was.0, omega (arith, was.1, l.last))
        ends o with (inr h) = (
          ap (put_at s.calls n next.left) (sym h.0) ∙ put_here s.calls n next.left ∙ h.3,
          omega (arith, h.0, number, l.last),
        )

        reads : (m o : ℕ) (load : Load K) (with : Settled V E) → w.desk.joined m ≡ Some o →
            awaited (plan_left (put_at s.calls n next.left m)) ≡ Some load → w.desk.settled o ≡ Some with →
            (b : Bool) → (n == m) ≡ b → may_end load.kind with ≡ true
        reads m o load with j a e true h =
            let is : n ≡ m = eqb-true n m h in
            l.own o load with (ap w.desk.joined is ∙ j)
            (ap (λ v. awaited (plan_left v)) (sym (put_here s.calls n next.left)) ∙
            ap (λ v. awaited (plan_left (put_at s.calls n next.left v))) is ∙ a) e
        reads m o load with j a e false h =
            let was : s.world.desk.joined m ≡ Some o = sym (l.joined m h) ∙ j in
            let old : awaited (plan_left (s.calls m)) ≡ Some load =
            ap (λ v. awaited (plan_left v)) (sym (put_there s.calls n next.left m h)) ∙ a in
            by (l.ended o with e) was old (i.well.served.waits m o load was old)
          where
            -- the call is live, so it has not ended before
            kept : (x : Option (Settled V E)) → s.world.desk.settled o ≡ x → is_some (s.world.desk.settled o) ≡ true →
                n ≡ o → ⊥
            kept None e some is = false≢true (sym (ap is_some e) ∙ some)
            kept (Some other) e some is =
                none_some (sym (i.ended o other e).0 ∙ ap s.calls (sym is) ∙ live)

            by : (s.world.desk.settled o ≡ Some with) ⊎ EndedNow s.world.desk n o with next.left →
                s.world.desk.joined m ≡ Some o → awaited (plan_left (s.calls m)) ≡ Some load →
                Answered eq s.world.desk.owning s.world.desk.settled o load → may_end load.kind with ≡ true
            by (inl f) was old answered = i.reads m o load with was old f
            by (inr f) was old (inl own) =
                ends_alike eq (s.world.desk.owning n) own.0 load with f.1 (ap s.world.desk.owning f.0 ∙ own.1)
                own.2
            by (inr f) was old (inr some) = absurd (kept (s.world.desk.settled o) refl some f.0)

  ends_step : (s t : State K V E) (n : ℕ) (reply : Turn K V E) → EndsFit s → Step eq s n reply t → EndsFit t
  ends_step s t n reply i step =
      step_cases eq (λ new next. Leaves s.world.desk n new next) (λ v r. IsWell eq v → EndsFit v)
      s t n reply step
      (on_plan eq s.world n c i.well.served.owner gone
      (λ o load with j a e. i.reads n o load with j (ap (λ v. awaited (plan_left v)) step.live ∙ a) e)
      idle_by (λ with rest e. settles_form with rest c.plan e known) may c.plan refl full)
      (λ w next l. fits_on s i n c step.live w next l)
      ((well_kept eq).step s t n reply i.well step)
    where
      c : Call K V E
      c = step.call

      known : IsPlan c.plan
      known = (i.well.asking.known n c step.live).plan

      fits : Fits (s.world.desk.owning n) (s.world.desk.joined n) c.plan
      fits = subst (λ v. Fits (s.world.desk.owning n) (s.world.desk.joined n) (plan_left v)) step.live
          (i.well.served.fits n)

      gone : (o : ℕ) (with : Settled V E) → s.world.desk.settled o ≡ Some with → s.world.desk.owning o ≡ None
      gone o with e = no_load (s.world.desk.owning o)
          (sym (subst (λ v. Fits (s.world.desk.owning o) (s.world.desk.joined o) (plan_left v))
          (i.ended o with e).0 (i.well.served.fits o)).owning)

      idle_by : (item : Item K V E) (rest : List (Item K V E)) → c.plan ≡ item ∷ rest →
          awaited (item ∷ []) ≡ None → s.world.desk.joined n ≡ None
      idle_by item rest e not = by (s.world.desk.joined n) refl
        where
          by : (j : Option ℕ) → s.world.desk.joined n ≡ j → s.world.desk.joined n ≡ None
          by None is = is
          by (Some o) is =
              let waits : is_some (awaited c.plan) ≡ true = sym fits.waiting ∙ ap is_some is in
              let form = reads_form c.plan waits known in
              let awaits = some_awaited (awaited c.plan) waits in
              let one : item ≡ form.0 = let same : item ∷ rest ≡ form.0 ∷ [] = sym e ∙ form.1 in cc in
              let none : awaited c.plan ≡ None = ap awaited form.1 ∙ ap (λ v. awaited (v ∷ [])) (sym one) ∙ not in
              absurd (none_some (sym none ∙ awaits.1))

      may : (with : Settled V E) (rest : List (Item K V E)) → c.plan ≡ plan.Settle with ∷ rest →
          MayEndSo (s.world.desk.owning n) with
      may with rest e =
          (subst (AllFit (s.world.desk.owning n)) e (i.well.fitting.fit n c step.live)).0

      full : c.plan ≡ [] → ⊥
      full e = subst EndsWell e (i.well.served.answering.calls n c step.live)

  ends_start : (s : State K V E) (start : Start K V) → EndsFit s → EndsFit (started s start)
  ends_start s start i = record {
    well = (well_kept eq).start s start i.well;
    ended = λ o with e.
        let was = i.ended o with e in (
          put_there s.calls (s.world.desk.last + 1) _ o
              (differ (s.world.desk.last + 1) o (λ is. omega (arith, is, was.1))) ∙ was.0,
          omega (arith, was.1),
        );
    reads = λ m o load with j a e.
        let numbered = joined_numbered eq s i.well.served m o j in
        i.reads m o load with j
        (ap (λ v. awaited (plan_left v)) (sym (put_there s.calls (s.world.desk.last + 1) _ m
        (differ (s.world.desk.last + 1) m (λ is. omega (arith, is, numbered))))) ∙ a) e;
  }

  ends_drop : (s : State K V E) (n : ℕ) (c : Call K V E) → s.calls n ≡ Some c → EndsFit s →
      IsWell eq (dropped s n c) → EndsFit (dropped s n c)
  ends_drop s n c live i well = fits_on s i n c live (dropped s n c).world
      (record { left = None; turn = turn.Wait }) (record {
        last = refl;
        joined = λ m h. put_there s.world.desk.joined n None m h;
        own = λ o load with j a e. absurd (none_some (sym (put_here s.world.desk.joined n None) ∙ j));
        ended = λ o with e. by o with
            (with_was s.world.desk n o settled.Aborted with (settled_without s.world.desk n) e);
      }) well
    where
      aborted : (x : Option (Load K)) → MayEndSo {V = V} {E = E} x settled.Aborted ⊎ (x ≡ None)
      aborted None = inr refl
      aborted (Some l) = inl (aborted_ends V E l.kind)

      by : (o : ℕ) (with : Settled V E) →
          ((n ≡ o) × (is_some (s.world.desk.owning n) ≡ true) × (settled.Aborted ≡ with)) ⊎
          (settled_without s.world.desk n o ≡ Some with) →
          (s.world.desk.settled o ≡ Some with) ⊎ EndedNow s.world.desk n o with None
      by o with (inl h) = inr (h.0, may (aborted (s.world.desk.owning n)), h.1, refl)
        where
          may : MayEndSo {V = V} {E = E} (s.world.desk.owning n) settled.Aborted ⊎ (s.world.desk.owning n ≡ None) →
              MayEndSo (s.world.desk.owning n) with
          may (inl m) = subst (MayEndSo (s.world.desk.owning n)) h.2 m
          may (inr none) = absurd (false≢true (sym (ap is_some none) ∙ h.1))
      by o with (inr h) = inl (without_was s.world.desk n o with h)

  ends_kept : IsInvariant eq EndsFit
  ends_kept = record {
    fresh = λ division divides rules size built has_log. record {
      well = (well_kept eq).fresh division divides rules size built has_log;
      ended = λ o with e. absurd (none_some e);
      reads = λ m o load with j a e. absurd (none_some j);
    };
    at = λ s moment i. record { well = (well_kept eq).at s moment i.well; ended = i.ended; reads = i.reads };
    start = ends_start;
    step = ends_step;
    tell = λ s n given asked i. record {
      well = (well_kept eq).tell s n given asked i.well;
      ended = i.ended;
      reads = i.reads;
    };
    hear = λ s n off running i. record {
      well = (well_kept eq).hear s n off running i.well;
      ended = i.ended;
      reads = i.reads;
    };
    drop = λ s n c live between i. ends_drop s n c live i ((well_kept eq).drop s n c live between i.well);
  }

  pub settlements_fit : SettlementsFit K V E eq
  settlements_fit s n c item rest load with h live e waits ended =
      let i : EndsFit s = in_reached eq EndsFit ends_kept s h in
      let awaits : awaited (plan_left (s.calls n)) ≡ Some load =
      ap (λ v. awaited (plan_left v)) live ∙ ap awaited e ∙ awaits_first item rest load waits in
      by i awaits (s.world.desk.joined n) refl ended
    where
      by : EndsFit s → awaited (plan_left (s.calls n)) ≡ Some load → (j : Option ℕ) →
          s.world.desk.joined n ≡ j → option_and_then s.world.desk.settled j ≡ Some with →
          may_end load.kind with ≡ true
      by i a None e f = absurd (none_some f)
      by i a (Some o) e f = i.reads n o load with e a f
