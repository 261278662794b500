-- What is kept of how an owner ended is kept of calls that have ended: an owner that stands has not settled.
use Rattle.std.proofs.Common.{◌≡◌, ℕ, ◌+◌, ◌≤◌, ◌==◌, nat_lt, Bool, true, false, cond, ◌&&◌, ◌⊎◌, List, [], ◌∷◌, Option, Some, None, is_some, IsSome, IsNone, refl, sym, ap, ◌∙◌, subst, inl, inr, arith}
use Rattle.std.proofs.lemmas.Bool.{eqb-true, false≢true}
use Rattle.moka_hist.specs.Finite.{put_at}
use Rattle.moka_hist.specs.State.{State, World, Call, DeskPart}
use Rattle.moka_hist.specs.Plan.{Item}
use Rattle.moka_hist.specs.Plan as plan
use Rattle.moka_hist.specs.Conditions.{HasUnsettled}
use Rattle.moka_hist.specs.Visits.{claimed, claimed_alone, is_reader_of, finds, is_unlocked_for, locked_by, makes, readers_without, settled_with, settled_without, settlement_for, unlocked}
use Rattle.moka_hist.specs.Step.{Access, On_table, On_desk, Gets, Step, access_for, access_of, next_of}
use Rattle.moka_hist.specs.Run.{fresh_call}
use Rattle.moka_hist.specs.declared.accesses.Got.{Got}
use Rattle.moka_hist.specs.declared.accesses.Got.TheVariants as got
use Rattle.moka_hist.specs.declared.accesses.Turn.{Turn}
use Rattle.moka_hist.specs.declared.loads.Load.{Load}
use Rattle.moka_hist.specs.declared.records.Mode.{Mode}
use Rattle.moka_hist.specs.declared.replies.Answer.{Answer}
use Rattle.moka_hist.specs.declared.replies.Answer.TheVariants as answer
use Rattle.moka_laws.proofs.Outcomes.{computes_of}
use Rattle.moka_hist.specs.declared.rules.Rules.{Rules}
use Rattle.moka_hist.specs.declared.tables.TableTurn.TheVariants as table
use Rattle.moka_hist.specs.declared.visits.Found.{Found}
use Rattle.moka_hist.specs.declared.visits.Found.TheVariants as found
use Rattle.moka_hist.specs.declared.visits.Settled.{Settled}
use Rattle.moka_hist.specs.declared.visits.Settled.TheVariants as settled
use Rattle.moka_hist.specs.declared.visits.Visit.{Visit}
use Rattle.moka_hist.specs.declared.visits.Visit.TheVariants as visit
use Rattle.moka_laws.proofs.Counting.{none_some, put_cases, put_here, put_there}
use Rattle.moka_laws.proofs.Kept.{IsInvariant}
use Rattle.moka_laws.proofs.Owning.{plan_left}
use Rattle.moka_laws.proofs.Plans.{Settling, IsDrained, Locking_out, Ended, IsPlan, Posted, Drained, IsKnown, known_kept, Walking}
use Rattle.moka_laws.proofs.Roles.{Fits}
use Rattle.moka_laws.proofs.Served.{IsServed}
use Rattle.moka_laws.proofs.Walks.{Ends, Finds, Lists, Scans, Chooses, Retires, Strikes}

module _ {K V E : Type 0} where
  -- What is kept of an end is kept of a call that has ended.
  pub record IsUnsettled (s : State K V E) : Type 0 where
    pub known : (n : ℕ) (c : Call K V E) → s.calls n ≡ Some c → IsKnown c
    pub numbered : (n : ℕ) (c : Call K V E) → s.calls n ≡ Some c → n ≤ s.world.desk.last
    pub gone : (m : ℕ) → IsSome (s.world.desk.settled m) → s.calls m ≡ None
    pub given_out : (m : ℕ) → IsSome (s.world.desk.settled m) → m ≤ s.world.desk.last

  -- ---- what a visit leaves settled was settled, or it settles

  with_settled : (d : DeskPart K V E) (call : ℕ) (with : Settled V E)
      (kept : ℕ → Option (Settled V E)) (m : ℕ) →
      IsSome (settled_with d call with kept m) → (call ≡ m) ⊎ IsSome (kept m)
  with_settled d call with kept m some =
      by (is_some (d.owning call) && nat_lt 0 (d.readers call)) (call == m) refl some
    where
      by : (x y : Bool) → (call == m) ≡ y → is_some (cond (x && y) (Some with) (kept m)) ≡ true →
          (call ≡ m) ⊎ IsSome (kept m)
      by true true e some = inl (eqb-true call m e)
      by true false e some = inr some
      by false y e some = inr some

  without_settled : (d : DeskPart K V E) (call m : ℕ) → IsSome (settled_without d call m) →
      IsSome (d.settled m)
  without_settled d call m some = by (is_reader_of d call m && d.readers m == 1) some
    where
      by : (b : Bool) → is_some (cond b None (d.settled m)) ≡ true → IsSome (d.settled m)
      by true some = absurd (false≢true some)
      by false some = some

  -- the visit settles what the call of this number owns
  abbrev Settles : Visit K V E → ℕ → Type 0
  Settles made m = (with : Settled V E) × (made ≡ visit.Settle m with)

  -- the desk once the call has read how its owner ended
  abbrev taken : DeskPart K V E → ℕ → DeskPart K V E
  taken d call = record d {
    joined = put_at d.joined call None;
    readers = readers_without d call;
    settled = settled_without d call;
  }

  visit_settled : (eq : K → K → Bool) (d : DeskPart K V E) (made : Visit K V E) (m : ℕ) →
      IsSome ((makes eq d made).settled m) →
      Settles made m ⊎ IsSome (d.settled m)
  visit_settled eq d (visit.WaitOrOwn call key kind) m some =
      by (d.owners (record { key = key; kind = kind })) some
    where
      by : (o : Option ℕ) →
          IsSome ((claimed eq d call (record { key = key; kind = kind }) o).settled m) →
          Settles (visit.WaitOrOwn call key kind) m ⊎ IsSome (d.settled m)
      by None some = inr some
      by (Some owner) some = inr some
  visit_settled eq d (visit.OwnAlone call key) m some = by (d.owners (computes_of key)) some
    where
      by : (o : Option ℕ) → IsSome ((claimed_alone eq d call (computes_of key) o).settled m) →
          Settles (visit.OwnAlone call key) m ⊎ IsSome (d.settled m)
      by None some = inr some
      by (Some owner) some = inr some
  visit_settled eq d (visit.ReadSettled call) m some = by (is_some (settlement_for d call)) refl
    where
      by : (b : Bool) → is_some (settlement_for d call) ≡ b →
          Settles (visit.ReadSettled call) m ⊎ IsSome (d.settled m)
      by true e = inr (without_settled d call m (subst (λ v. IsSome ((cond v (taken d call) d).settled m)) e some))
      by false e = inr (subst (λ v. IsSome ((cond v (taken d call) d).settled m)) e some)
  visit_settled eq d (visit.Settle call with) m some =
      by (with_settled d call with d.settled m some)
    where
      by : (call ≡ m) ⊎ IsSome (d.settled m) →
          Settles (visit.Settle call with) m ⊎ IsSome (d.settled m)
      by (inl e) = inl (with, ap (λ v. visit.Settle v with) e)
      by (inr h) = inr h
  visit_settled eq d (visit.LockKey call key) m some = by (is_unlocked_for d call key) some
    where
      by : (b : Bool) → IsSome ((locked_by eq d call key b).settled m) →
          Settles (visit.LockKey call key) m ⊎ IsSome (d.settled m)
      by true some = inr some
      by false some = inr some
  visit_settled eq d (visit.UnlockKey call wrote) m some = by wrote some
    where
      by : (b : Bool) → IsSome ((unlocked d call b).settled m) →
          Settles (visit.UnlockKey call wrote) m ⊎ IsSome (d.settled m)
      by true some = inr some
      by false some = inr some
  visit_settled eq d _ m some = inr some

  -- ---- a call that settles answers with that

  rest_of : {x y : Item K V E} {p q : List (Item K V E)} → x ∷ p ≡ y ∷ q → p ≡ q
  rest_of e = cc

  drained_last : (p : List (Item K V E)) → IsDrained p → (with : Settled V E)
      (rest : List (Item K V E)) → p ≡ plan.Settle with ∷ rest →
      (a : Answer K V E) × (rest ≡ plan.Reply a ∷ [])
  drained_last p (Locking_out removal key) with rest e = (answer.Done, cc)
  drained_last p _ with rest e = (answer.Done, cc)

  -- nothing but an answer stands behind a settlement
  settle_last : (p : List (Item K V E)) → IsPlan p → (with : Settled V E)
      (rest : List (Item K V E)) → p ≡ plan.Settle with ∷ rest →
      (a : Answer K V E) × (rest ≡ plan.Reply a ∷ [])
  settle_last p (Posted q (Ended r (Settling x a))) with rest e = (a, sym (rest_of e))
  settle_last p (Drained q d) with rest e = drained_last q d with rest e
  settle_last p (Walking q Ends) with rest e = (answer.Done, cc)
  settle_last p (Walking q Retires) with rest e = (answer.Done, cc)
  settle_last p (Walking q (Chooses parts)) with rest e = (answer.Done, cc)
  settle_last p (Walking q (Strikes there stored more walk)) with rest e = (answer.Done, cc)
  settle_last p (Walking q (Lists part more walk)) with rest e = (answer.Done, cc)
  settle_last p (Walking q (Finds key more walk)) with rest e = (answer.Done, cc)
  settle_last p (Walking q (Scans there stored more walk)) with rest e = (answer.Done, cc)
  settle_last p _ with rest e = (answer.Done, cc)

  settles_item : (n m : ℕ) (ids : Option (List (ℕ × ℕ))) (with : Settled V E) (item : Item K V E) →
      access_for n ids item ≡ On_desk (visit.Settle m with) →
      (m ≡ n) × (item ≡ plan.Settle with)
  settles_item n m ids with (plan.Settle x) e = (cc, cc)
  settles_item n m ids with _ e = (cc, cc)

  -- the call's access settles, by the first item of its plan
  ends_so : (n m : ℕ) (with : Settled V E) (rules : Rules) (mode : Mode) (p : List (Item K V E))
      (aborts : ℕ) (ids : Option (List (ℕ × ℕ))) (f : Got K V E) →
      let c : Call K V E = record { rules = rules; mode = mode; plan = p; aborts = aborts; carried = ids } in
      IsPlan p → access_of n c ≡ On_desk (visit.Settle m with) → f ≡ got.Desk found.Settle →
      (m ≡ n) × ((next_of n c f).left ≡ None)
  ends_so n m with rules mode [] aborts ids f known e given = (cc, cc)
  ends_so n m with rules mode (item ∷ rest) aborts ids f known e given =
      let is : (m ≡ n) × (item ≡ plan.Settle with) = settles_item n m ids with item e in
      let last : (a : Answer K V E) × (rest ≡ plan.Reply a ∷ []) = settle_last (item ∷ rest) known with rest (ap (λ v. v ∷ rest) is.1) in
      (is.0, rw (given, is.1, last.1) refl)

module _ {K V E : Type 0} (eq : K → K → Bool) where
  settles_by : (d : DeskPart K V E) (made : Visit K V E) (f : Found V E) (m : ℕ) →
      f ≡ finds d made → Settles made m ⊎ IsSome (d.settled m) →
      ((with : Settled V E) × (On_desk made ≡ On_desk (visit.Settle m with)) × (◌≡◌ {A = Got K V E} (got.Desk f) (got.Desk found.Settle))) ⊎ IsSome (d.settled m)
  settles_by d made f m is (inl h) = inl (h.0, ap On_desk h.1, ap got.Desk (is ∙ ap (finds d) h.1))
  settles_by d made f m is (inr h) = inr h

  access_settled : (n : ℕ) (w new : World K V E) (a : Access K V E) (g : Got K V E) →
      Gets eq n w a g new → (m : ℕ) → IsSome (new.desk.settled m) →
      ((with : Settled V E) × (a ≡ On_desk (visit.Settle m with)) × (g ≡ got.Desk found.Settle)) ⊎ IsSome (w.desk.settled m)
  access_settled n w new (On_table o) (got.Table table.Going) gets m some =
      inr (subst (λ (v : World K V E). IsSome (v.desk.settled m)) gets.1 some)
  access_settled n w new (On_table o) (got.Table (table.Decided answer)) gets m some =
      inr (subst (λ (v : World K V E). IsSome (v.desk.settled m)) gets.2 some)
  access_settled n w new (On_desk made) (got.Desk f) gets m some =
      settles_by w.desk made f m gets.0 (visit_settled eq w.desk made m (subst (λ (v : World K V E). IsSome (v.desk.settled m)) gets.1 some))
  access_settled n w new (On_table o) (got.Desk f) gets m some = absurd gets
  access_settled n w new (On_desk made) (got.Table turn) gets m some = absurd gets

  -- no visit gives out a number
  visit_last : (d : DeskPart K V E) (made : Visit K V E) → (makes eq d made).last ≡ d.last
  visit_last d (visit.WaitOrOwn call key kind) = by (d.owners (record { key = key; kind = kind }))
    where
      by : (o : Option ℕ) → (claimed eq d call (record { key = key; kind = kind }) o).last ≡ d.last
      by None = refl
      by (Some owner) = refl
  visit_last d (visit.OwnAlone call key) = by (d.owners (computes_of key))
    where
      by : (o : Option ℕ) → (claimed_alone eq d call (computes_of key) o).last ≡ d.last
      by None = refl
      by (Some owner) = refl
  visit_last d (visit.ReadSettled call) = by (is_some (settlement_for d call)) refl
    where
      by : (b : Bool) → is_some (settlement_for d call) ≡ b →
          (makes eq d (visit.ReadSettled call)).last ≡ d.last
      by true e = rw e refl
      by false e = rw e refl
  visit_last d (visit.LockKey call key) = by (is_unlocked_for d call key)
    where
      by : (b : Bool) → (locked_by eq d call key b).last ≡ d.last
      by true = refl
      by false = refl
  visit_last d _ = refl

  pub access_last : (n : ℕ) (w new : World K V E) (a : Access K V E) (g : Got K V E) →
      Gets eq n w a g new → new.desk.last ≡ w.desk.last
  access_last n w new (On_table o) (got.Table table.Going) gets =
      ap (λ (v : World K V E). v.desk.last) gets.1
  access_last n w new (On_table o) (got.Table (table.Decided answer)) gets =
      ap (λ (v : World K V E). v.desk.last) gets.2
  access_last n w new (On_desk made) (got.Desk f) gets =
      ap (λ (v : World K V E). v.desk.last) gets.1 ∙ visit_last w.desk made
  access_last n w new (On_table o) (got.Desk f) gets = absurd gets
  access_last n w new (On_desk made) (got.Table turn) gets = absurd gets

  -- ---- each event keeps it

  -- a call that has ended has so after the step of another, and one that ends by this step has now
  module _ (s : State K V E) (i : IsUnsettled s) (n : ℕ) (t : State K V E) (turn : Turn K V E)
      (step : Step eq s n turn t) where
    abbrev left : Option (Call K V E)
    left = (next_of n step.call step.given).left

    gone_still : (m : ℕ) → s.calls m ≡ None → put_at s.calls n left m ≡ None
    gone_still m none = by (n == m) refl
      where
        by : (b : Bool) → (n == m) ≡ b → cond b left (s.calls m) ≡ None
        by true e = absurd (none_some (sym none ∙ ap s.calls (sym (eqb-true n m e)) ∙ step.live))
        by false e = none

    live_numbered : (m : ℕ) (c : Call K V E) → put_at s.calls n left m ≡ Some c →
        m ≤ s.world.desk.last
    live_numbered m c live = put_cases s.calls n left m (Some c) (m ≤ s.world.desk.last) live
        (λ here is. subst (λ v. v ≤ s.world.desk.last) here (i.numbered n step.call step.live))
        (λ there is. i.numbered m c is)

    gone_now : (m : ℕ) → IsSome (step.world.desk.settled m) →
        (put_at s.calls n left m ≡ None) × (m ≤ s.world.desk.last)
    gone_now m some =
        by (access_settled n s.world step.world (access_of n step.call) step.given step.gets m some)
      where
        by : ((with : Settled V E) × (access_of n step.call ≡ On_desk (visit.Settle m with)) × (step.given ≡ got.Desk found.Settle))
            ⊎ IsSome (s.world.desk.settled m) →
            (put_at s.calls n left m ≡ None) × (m ≤ s.world.desk.last)
        by (inl h) =
            let e : (m ≡ n) × (left ≡ None) = ends_so n m h.0 step.call.rules step.call.mode step.call.plan step.call.aborts step.call.carried step.given
            (i.known n step.call step.live).plan h.1 h.2 in (
              subst (λ v. put_at s.calls n left v ≡ None) (sym e.0) (put_here s.calls n left ∙ e.1),
              subst (λ v. v ≤ s.world.desk.last) (sym e.0) (i.numbered n step.call step.live),
            )
        by (inr h) = (gone_still m (i.gone m h), i.given_out m h)

  step_unsettled : (s t : State K V E) (n : ℕ) (turn : Turn K V E) → IsUnsettled s →
      Step eq s n turn t → IsUnsettled t
  step_unsettled s t n turn i step =
      let last : step.world.desk.last ≡ s.world.desk.last = access_last n s.world step.world (access_of n step.call) step.given step.gets in
      record {
        known = (known_kept eq).step s t n turn i.known step;
        numbered = λ m c live. subst (λ (v : State K V E). m ≤ v.world.desk.last) (sym step.after)
            (omega (arith, last, live_numbered s i n t turn step m c (subst (λ (v : State K V E). v.calls m ≡ Some c) step.after live)));
        gone = λ m some. subst (λ (v : State K V E). v.calls m ≡ None) (sym step.after)
            (gone_now s i n t turn step m (subst (λ (v : State K V E). IsSome (v.world.desk.settled m)) step.after some)).0;
        given_out = λ m some. subst (λ (v : State K V E). m ≤ v.world.desk.last) (sym step.after)
            (omega (arith, last, (gone_now s i n t turn step m (subst (λ (v : State K V E). IsSome (v.world.desk.settled m)) step.after some)).1));
      }

  pub unsettled_kept : IsInvariant eq (IsUnsettled {K = K} {V = V} {E = E})
  unsettled_kept = record {
    fresh = λ division divides rules size built has_log. record {
      known = (known_kept eq).fresh division divides rules size built has_log;
      numbered = λ n c live. absurd (none_some live);
      gone = λ m some. refl;
      given_out = λ m some. absurd (false≢true some);
    };
    at = λ s moment i. record { known = i.known; numbered = i.numbered; gone = i.gone; given_out = i.given_out };
    start = λ s start i. record {
      known = (known_kept eq).start s start i.known;
      numbered = λ n c live.
          put_cases s.calls (s.world.desk.last + 1)
          (Some (fresh_call s.world.table.division.parts s.world.desk.rules start)) n (Some c)
          (n ≤ s.world.desk.last + 1) live
          (λ here is. omega (arith, here)) (λ there is. omega (arith, i.numbered n c is));
      gone = λ m some.
          put_there s.calls (s.world.desk.last + 1)
          (Some (fresh_call s.world.table.division.parts s.world.desk.rules start)) m (not_next s.world.desk.last m (i.given_out m some))
          ∙ i.gone m some;
      given_out = λ m some. omega (arith, i.given_out m some);
    };
    step = step_unsettled;
    tell = λ s n given asked i. record { known = i.known; numbered = i.numbered; gone = i.gone; given_out = i.given_out };
    hear = λ s n off running i. record { known = i.known; numbered = i.numbered; gone = i.gone; given_out = i.given_out };
    drop = λ s n c live between i. record {
      known = (known_kept eq).drop s n c live between i.known;
      numbered = λ m b lives.
          put_cases s.calls n None m (Some b)
          (m ≤ s.world.desk.last) lives (λ here is. absurd (none_some is))
          (λ there is. i.numbered m b is);
      gone = λ m some. left_gone s n c i m (with_settled s.world.desk n settled.Aborted (settled_without s.world.desk n) m some);
      given_out = λ m some. left_given s n c live i m (with_settled s.world.desk n settled.Aborted (settled_without s.world.desk n) m some);
    };
  }
    where
      not_next : (last m : ℕ) → m ≤ last → (last + 1 == m) ≡ false
      not_next last m h = by (last + 1 == m) refl
        where
          by : (b : Bool) → (last + 1 == m) ≡ b → b ≡ false
          by true e = let is : last + 1 ≡ m =
              eqb-true (last + 1) m e in absurd (omega (arith, is, h))
          by false e = refl

      left_gone : (s : State K V E) (n : ℕ) (c : Call K V E) → IsUnsettled s → (m : ℕ) →
          (n ≡ m) ⊎ IsSome (settled_without s.world.desk n m) →
          put_at s.calls n None m ≡ None
      left_gone s n c i m (inl e) =
          subst (λ v. put_at s.calls n None v ≡ None) e (put_here s.calls n None)
      left_gone s n c i m (inr h) = by (n == m) (i.gone m (without_settled s.world.desk n m h))
        where
          by : (b : Bool) → s.calls m ≡ None → cond b None (s.calls m) ≡ None
          by true e = refl
          by false e = e

      left_given : (s : State K V E) (n : ℕ) (c : Call K V E) → s.calls n ≡ Some c → IsUnsettled s →
          (m : ℕ) →
          (n ≡ m) ⊎ IsSome (settled_without s.world.desk n m) → m ≤ s.world.desk.last
      left_given s n c live i m (inl e) = subst (λ v. v ≤ s.world.desk.last) e (i.numbered n c live)
      left_given s n c live i m (inr h) = i.given_out m (without_settled s.world.desk n m h)

  -- an owner that stands has not settled
  pub owners_unsettled : (s : State K V E) → IsUnsettled s → IsServed eq s → (load : Load K) →
      HasUnsettled s.world.desk load
  owners_unsettled s i served load owner e = by (s.world.desk.settled owner) refl
    where
      -- a call that owns is live
      owns_live : (calls : Option (Call K V E)) (o : Option (Load K)) (j : Option ℕ) →
          Fits o j (plan_left calls) → is_some o ≡ true → calls ≡ None → ⊥
      owns_live None o j f own none = let one =
          ap (λ b. cond {A = ℕ} b 1 0) own in absurd (omega (arith, f.owning, one))
      owns_live (Some c) o j f own none = none_some (sym none)

      by : (o : Option (Settled V E)) → s.world.desk.settled owner ≡ o → IsNone o
      by None f = refl
      by (Some with) f =
          absurd (owns_live (s.calls owner) (s.world.desk.owning owner) (s.world.desk.joined owner)
          (served.fits owner)
          (ap is_some (served.owner load owner e).1) (i.gone owner (ap is_some f)))
