-- A call that waits for the owner of a load has one.
use Rattle.std.proofs.Common.{◌≡◌, ℕ, ◌+◌, ◌<◌, ◌≤◌, ◌==◌, Bool, true, false, cond, Option, Some, None, is_some, IsSome, ◌⊎◌, inl, inr, refl, sym, ap, ◌∙◌, subst, arith}
use Rattle.std.proofs.lemmas.Bool.{eqb-true, false≢true, cases_lt}
use Rattle.moka_hist.specs.Finite.{put_at}
use Rattle.moka_hist.specs.State.{State, World, Call}
use Rattle.moka_hist.specs.Plan.{plan_of}
use Rattle.moka_hist.specs.Step.{Step}
use Rattle.moka_hist.specs.Run.{IsReached, started, fresh_call}
use Rattle.moka_hist.specs.declared.loads.Load.{Load}
use Rattle.moka_hist.specs.declared.events.Start.{Start}
use Rattle.moka_hist.specs.declared.accesses.Turn.{Turn}
use Rattle.moka_laws.specs.Missing.{WaitersHaveOwners, HasOwner, OwnsAlike}
use Rattle.moka_laws.proofs.Counting.{none_some, put_here, put_there, differ_not}
use Rattle.moka_laws.proofs.Sums.{sum_to, sum_zero, sum_next, sum_change, sum_holds, sum_holds_two}
use Rattle.moka_laws.proofs.Kept.{IsInvariant, in_reached}
use Rattle.moka_laws.proofs.StepCases.{step_cases}
use Rattle.moka_laws.proofs.Answering.{IsAnswering, answering_kept}
use Rattle.moka_laws.proofs.Balance.{IsBalanced}
use Rattle.moka_laws.proofs.Balanced.{balanced_kept, next_free}
use Rattle.moka_laws.proofs.Owning.{plan_left}
use Rattle.moka_laws.proofs.Roles.{Fits, awaited, awaits_first, fresh_fits}
use Rattle.moka_laws.proofs.Reading.{joins, joins_self, Answered, OwnerOf}
use Rattle.moka_laws.proofs.Serving.{part, ServesPart, drops, no_load, no_owner}
use Rattle.moka_laws.proofs.ServingSteps.{on_plan}

module _ {K V E : Type 0} (eq : K → K → Bool) where
  -- What those that wait for owners count on.
  pub record IsServed (s : State K V E) : Type 0 where
    pub balanced : IsBalanced s
    pub answering : IsAnswering s
    -- each call's plan is that of one that owns what the desk says, and waits for whom it says
    pub fits : (n : ℕ) → Fits (s.world.desk.owning n) (s.world.desk.joined n) (plan_left (s.calls n))
    -- each load's owner owns an equal load
    pub owner : (load : Load K) (o : ℕ) → s.world.desk.owners load ≡ Some o → OwnerOf eq s.world.desk.owning o load
    -- those that wait for an owner are counted
    pub counted : (o : ℕ) → s.world.desk.readers o ≡ sum_to s.world.desk.last (λ m. joins o (s.world.desk.joined m))
    pub waits : (m o : ℕ) (load : Load K) → s.world.desk.joined m ≡ Some o → awaited (plan_left (s.calls m)) ≡ Some load →
        Answered eq s.world.desk.owning s.world.desk.settled o load

  -- a call that waits for an owner is live
  pub joined_live : (o : Option (Call K V E)) (a : Option (Load K)) (j : Option ℕ) (who : ℕ) → Fits a j (plan_left o) → j ≡ Some who →
      (c : Call K V E) × (o ≡ Some c)
  joined_live None a j who f e = absurd (false≢true (sym f.waiting ∙ ap is_some e))
  joined_live (Some c) a j who f e = (c, refl)

  module _ (s : State K V E) (i : IsServed s) where
    pub joined_numbered : (m o : ℕ) → s.world.desk.joined m ≡ Some o → m ≤ s.world.desk.last
    joined_numbered m o j = let c = joined_live (s.calls m) _ _ o (i.fits m) j in i.balanced.numbered m c.0 c.1

    pub enough_own : (n : ℕ) → n ≤ s.world.desk.last → (o : ℕ) → joins o (s.world.desk.joined n) ≤ s.world.desk.readers o
    enough_own n l o = omega (arith, i.counted o, sum_holds s.world.desk.last (λ m. joins o (s.world.desk.joined m)) n l)

    pub enough : (n : ℕ) → n ≤ s.world.desk.last → (m o : ℕ) → (n == m) ≡ false → s.world.desk.joined m ≡ Some o →
        joins o (s.world.desk.joined n) + 1 ≤ s.world.desk.readers o
    enough n l m o h j =
        let k = joined_numbered m o j in
        let one = joins_self o (s.world.desk.joined m) j in
        let count : ℕ → ℕ = λ v. joins o (s.world.desk.joined v) in
        by (cases_lt n m) k one
      where
        by : (n < m) ⊎ (m ≤ n) → m ≤ s.world.desk.last → joins o (s.world.desk.joined m) ≡ 1 →
            joins o (s.world.desk.joined n) + 1 ≤ s.world.desk.readers o
        by (inl less) k one = omega (arith, i.counted o, sum_holds_two s.world.desk.last (λ v. joins o (s.world.desk.joined v)) n m l k less)
        by (inr more) k one =
            let apart = differ_not n m h in
            omega (arith, i.counted o, sum_holds_two s.world.desk.last (λ v. joins o (s.world.desk.joined v)) m n k l (omega arith))

    -- what a step of a call, or its end, has shown holds of the state that it leaves
    serves : (n : ℕ) → n ≤ s.world.desk.last → (w : World K V E) (left : Option (Call K V E)) → ServesPart eq s.world.desk n (part w.desk) left →
        let t : State K V E = record { world = w; calls = put_at s.calls n left } in
        IsBalanced t → IsAnswering t → IsServed t
    serves n l w left b balanced answering = record {
      balanced = balanced;
      answering = answering;
      fits = λ m. fit m (n == m) refl;
      owner = b.owner;
      counted = λ o.
          let change = sum_change s.world.desk.last (λ m. joins o (s.world.desk.joined m)) (λ m. joins o (w.desk.joined m)) n l
          (λ m h. ap (joins o) (b.joined m h)) in
          let last = ap (λ v. sum_to v (λ m. joins o (w.desk.joined m))) b.last in
          omega (arith, b.counted o, i.counted o);
      waits = λ m o load j a. wait m o load j a (n == m) refl;
    }
      where
        fit : (m : ℕ) (t : Bool) → (n == m) ≡ t → Fits (w.desk.owning m) (w.desk.joined m) (plan_left (put_at s.calls n left m))
        fit m true e =
            subst (λ v. Fits (w.desk.owning v) (w.desk.joined v) (plan_left (put_at s.calls n left v))) (eqb-true n m e)
            (subst (λ v. Fits (w.desk.owning n) (w.desk.joined n) (plan_left v)) (sym (put_here s.calls n left)) b.fits)
        fit m false e =
            subst (λ v. Fits v (w.desk.joined m) (plan_left (put_at s.calls n left m))) (sym (b.owning m e))
            (subst (λ v. Fits (s.world.desk.owning m) v (plan_left (put_at s.calls n left m))) (sym (b.joined m e))
            (subst (λ v. Fits (s.world.desk.owning m) (s.world.desk.joined m) (plan_left v)) (sym (put_there s.calls n left m e)) (i.fits m)))

        wait : (m o : ℕ) (load : Load K) → w.desk.joined m ≡ Some o → awaited (plan_left (put_at s.calls n left m)) ≡ Some load →
            (t : Bool) → (n == m) ≡ t → Answered eq w.desk.owning w.desk.settled o load
        wait m o load j a true e =
            let is = eqb-true n m e in
            b.own o load (ap w.desk.joined is ∙ j)
            (ap (λ v. awaited (plan_left v)) (sym (put_here s.calls n left)) ∙ ap
            (λ v. awaited (plan_left (put_at s.calls n left v))) is ∙ a)
        wait m o load j a false e =
            let was = sym (b.joined m e) ∙ j in
            b.others m o load e was (i.waits m o load was (ap (λ v. awaited (plan_left v)) (sym (put_there s.calls n left m e)) ∙ a))

  served_step : (s t : State K V E) (n : ℕ) (turn : Turn K V E) → IsServed s → Step eq s n turn t → IsServed t
  served_step s t n turn i step =
      let c : Call K V E = step.call in
      let l : n ≤ s.world.desk.last = i.balanced.numbered n c step.live in
      let fits : Fits (s.world.desk.owning n) (s.world.desk.joined n) c.plan = subst
      (λ v. Fits (s.world.desk.owning n) (s.world.desk.joined n) (plan_left v)) step.live (i.fits n) in
      let kept : IsBalanced t → IsAnswering t → IsServed t =
      step_cases eq (λ new next. ServesPart eq s.world.desk n (part new.desk) next.left)
      (λ v _. IsBalanced v → IsAnswering v → IsServed v) s t n turn step
      (on_plan eq s.world n c i.owner (enough s i n l) (enough_own s i n l) i.answering.desk c.plan refl fits
      (λ o load j a. i.waits n o load j (ap (λ v. awaited (plan_left v)) step.live ∙ a)))
      (λ w next b. serves s i n l w next.left b) in
      kept ((balanced_kept eq).step s t n turn i.balanced step) ((answering_kept eq).step s t n turn i.answering step)

  served_start : (s : State K V E) (start : Start K V) → IsServed s → IsServed (started s start)
  served_start s start i =
      let new : ℕ = s.world.desk.last + 1 in
      let free = subst (λ v. Fits (s.world.desk.owning new) (s.world.desk.joined new) (plan_left v)) (next_free s i.balanced) (i.fits new) in
      let none = no_load (s.world.desk.owning new) (sym free.owning) in
      let idle = no_owner (s.world.desk.joined new) free.waiting in
      record {
        balanced = (balanced_kept eq).start s start i.balanced;
        answering = (answering_kept eq).start s start i.answering;
        fits = λ m. fit none idle m (new == m) refl;
        owner = i.owner;
        counted = λ o. omega (arith, i.counted o, sum_next s.world.desk.last (λ m. joins o (s.world.desk.joined m)), ap (joins o) idle);
        waits = λ m o load j a. wait idle m o load j a (new == m) refl;
      }
    where
      fit : s.world.desk.owning (s.world.desk.last + 1) ≡ None → s.world.desk.joined (s.world.desk.last + 1) ≡ None → (m : ℕ) (t : Bool) →
          (s.world.desk.last + 1 == m) ≡ t →
          Fits (s.world.desk.owning m) (s.world.desk.joined m) (plan_left (cond t (Some (fresh_call {E = E} s.world.table.division.parts s.world.desk.rules start)) (s.calls m)))
      fit none idle m true e =
          let is = eqb-true (s.world.desk.last + 1) m e in
          subst (λ v. Fits v (s.world.desk.joined m) (plan_of {E = E} s.world.table.division.parts s.world.desk.rules start)) (sym none ∙ ap s.world.desk.owning is)
          (subst (λ v. Fits None v (plan_of {E = E} s.world.table.division.parts s.world.desk.rules start)) (sym idle ∙ ap s.world.desk.joined is) (fresh_fits s.world.table.division.parts s.world.desk.rules start))
      fit none idle m false e = i.fits m

      wait : s.world.desk.joined (s.world.desk.last + 1) ≡ None → (m o : ℕ) (load : Load K) → s.world.desk.joined m ≡ Some o →
          awaited (plan_left (put_at s.calls (s.world.desk.last + 1) (Some (fresh_call {E = E} s.world.table.division.parts s.world.desk.rules start)) m)) ≡ Some load → (t : Bool) →
          (s.world.desk.last + 1 == m) ≡ t → Answered eq s.world.desk.owning s.world.desk.settled o load
      wait idle m o load j a true e = absurd (none_some (sym idle ∙ ap s.world.desk.joined (eqb-true (s.world.desk.last + 1) m e) ∙ j))
      wait idle m o load j a false e = i.waits m o load j
          (ap (λ v. awaited (plan_left v)) (sym (put_there s.calls (s.world.desk.last + 1) (Some (fresh_call {E = E} s.world.table.division.parts s.world.desk.rules start)) m e)) ∙ a)

  pub served_kept : IsInvariant eq IsServed
  served_kept = record {
    fresh = λ division divides rules size built has_log. record {
      balanced = (balanced_kept eq).fresh division divides rules size built has_log;
      answering = (answering_kept eq).fresh division divides rules size built has_log;
      fits = λ n. record { last = tt; owning = refl; waiting = refl };
      owner = λ load o e. absurd (none_some e);
      counted = λ o. sym (sum_zero (λ m. 0));
      waits = λ m o load j a. absurd (none_some j);
    };
    at = λ s moment i. record {
      balanced = (balanced_kept eq).at s moment i.balanced;
      answering = (answering_kept eq).at s moment i.answering;
      fits = i.fits;
      owner = i.owner;
      counted = i.counted;
      waits = i.waits;
    };
    start = served_start;
    step = served_step;
    tell = λ s n given asked i. record {
      balanced = (balanced_kept eq).tell s n given asked i.balanced;
      answering = (answering_kept eq).tell s n given asked i.answering;
      fits = i.fits;
      owner = i.owner;
      counted = i.counted;
      waits = i.waits;
    };
    hear = λ s n off running i. record {
      balanced = (balanced_kept eq).hear s n off running i.balanced;
      answering = (answering_kept eq).hear s n off running i.answering;
      fits = i.fits;
      owner = i.owner;
      counted = i.counted;
      waits = i.waits;
    };
    drop = λ s n c live between i.
        let l = i.balanced.numbered n c live in
        serves s i n l _ None (drops eq s.world.desk n i.owner (enough s i n l) (enough_own s i n l))
        ((balanced_kept eq).drop s n c live between i.balanced) ((answering_kept eq).drop s n c live between i.answering);
  }

  pub in_served : (s : State K V E) → IsReached eq s → IsServed s
  in_served s h = in_reached eq IsServed served_kept s h

  -- an owner of a load is live
  owner_alike : (s : State K V E) → IsServed s → (o : ℕ) (load : Load K) → OwnerOf eq s.world.desk.owning o load → OwnsAlike eq s o load
  owner_alike s i o load own = by (s.calls o) refl (i.fits o)
    where
      by : (c : Option (Call K V E)) → s.calls o ≡ c → Fits (s.world.desk.owning o) (s.world.desk.joined o) (plan_left c) →
          OwnsAlike eq s o load
      by None e f = let one = ap (λ v. cond {A = ℕ} (is_some v) 1 0) own.1 in absurd (omega (arith, f.owning))
      by (Some c) e f = record { call = c; live = e; owned = own.0; owning = own.1; alike = own.2 }

  pub waiters_served : WaitersHaveOwners K V E eq
  waiters_served s n c item rest load h live e waits =
      let i : IsServed s = in_served s h in
      let awaits : awaited (plan_left (s.calls n)) ≡ Some load =
      ap (λ v. awaited (plan_left v)) live ∙ ap awaited e ∙ awaits_first item rest load waits in
      by i awaits (s.world.desk.joined n) refl (i.fits n).waiting
    where
      served : IsServed s → (o : ℕ) → Answered eq s.world.desk.owning s.world.desk.settled o load →
          OwnsAlike eq s o load ⊎ IsSome (s.world.desk.settled o)
      served i o (inl own) = inl (owner_alike s i o load own)
      served i o (inr some) = inr some

      by : IsServed s → awaited (plan_left (s.calls n)) ≡ Some load → (j : Option ℕ) →
          s.world.desk.joined n ≡ j →
          is_some (s.world.desk.joined n) ≡ is_some (awaited (plan_left (s.calls n))) →
          HasOwner eq s n load
      by i a None j waiting = absurd (false≢true (sym (ap is_some j) ∙ waiting ∙ ap is_some a))
      by i a (Some o) j waiting =
          record { owner = o; joined = j; served = served i o (i.waits n o load j a) }
