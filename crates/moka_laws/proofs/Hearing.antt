-- A call that waits for an owner answers what that settled.
use Rattle.std.proofs.Common.{◌≡◌, ℕ, ◌+◌, ◌<◌, ◌≤◌, ◌==◌, nat_lt, Bool, true, false, cond, ◌&&◌, List, [], ◌∷◌, Option, Some, None, is_some, refl, sym, ap, ◌∙◌, subst, arith}
use Rattle.std.proofs.lemmas.Bool.{eqb-true, false≢true}
use Rattle.std.proofs.lemmas.Bool.Decides.{nat_tests}
use Rattle.std.specs.Option.{option_and_then}
use Rattle.moka_hist.specs.State.{State, World, Call, DeskPart}
use Rattle.moka_hist.specs.Plan.{Item}
use Rattle.moka_hist.specs.Plan as plan
use Rattle.moka_hist.specs.Visits.{is_reader_of, settled_with, settled_without, settlement_for}
use Rattle.moka_hist.specs.Next.{Next}
use Rattle.moka_hist.specs.Loading.{after_read}
use Rattle.moka_hist.specs.Step.{Step}
use Rattle.moka_hist.specs.Places.{IsLawful}
use Rattle.moka_hist.specs.Run.{Any, IsReached, fresh_call}
use Rattle.moka_hist.specs.declared.accesses.Turn.{Turn}
use Rattle.moka_hist.specs.declared.accesses.Turn.TheVariants as turn
use Rattle.moka_hist.specs.declared.loads.Load.{Load}
use Rattle.moka_hist.specs.declared.loads.Sought.{Sought}
use Rattle.moka_hist.specs.declared.replies.Answer.{Answer}
use Rattle.moka_hist.specs.declared.visits.Found.TheVariants as found
use Rattle.moka_hist.specs.declared.visits.Settled.{Settled}
use Rattle.moka_hist.specs.declared.visits.Settled.TheVariants as settled
use Rattle.moka_laws.specs.Loads.{said_of}
use Rattle.moka_laws.specs.Readers.{Settles, WaitsForLoad, WaitersAnswerSettled}
use Rattle.moka_laws.proofs.Between.{run_more}
use Rattle.moka_laws.proofs.Counting.{none_some, some_same, put_cases, put_here, put_there, same_number, differ}
use Rattle.moka_laws.proofs.Kept.{IsStable, runs}
use Rattle.moka_laws.proofs.Weights.{weigh}
use Rattle.moka_laws.proofs.Owning.{plan_left}
use Rattle.moka_laws.proofs.Plans.{Asking_op, Reading_key, IsTail, Answering, Settling, Looking, Owning, Giving, Putting, Removing, Locking_out, Draining, Ended, Locking, IsPlan, Posted, Drained, Posting, Hearing, Noticing, Listening, Unlocking, Turning, Applying, Ending, Reading, Writing, Freeing, Idling, Walking}
use Rattle.moka_laws.proofs.Reading.{OwnerOf, joins, joins_self, reader_joins}
use Rattle.moka_laws.proofs.Reached.{step_reached}
use Rattle.moka_laws.proofs.Roles.{Fits, awaited, owners, walk_awaits}
use Rattle.moka_laws.proofs.Safe.{IsWell, well_kept, in_well}
use Rattle.moka_laws.proofs.Served.{enough, enough_own, joined_numbered}
use Rattle.moka_laws.proofs.StepCases.{OnStep, step_cases}
use Rattle.moka_laws.proofs.Outcomes.{Outcomes, outcomes, computes_of, passes_by}
use Rattle.moka_laws.proofs.Unread.{tail_role, drained_role, posted_role}
use Rattle.moka_laws.proofs.Walks.{Ends, Finds, Lists, Scans}

no_load : {L : Type 0} (o : Option L) → 0 ≡ cond {A = ℕ} (is_some o) 1 0 → o ≡ None
no_load None e = refl
no_load (Some l) e = absurd (omega (arith, e))

some_load : {L : Type 0} (o : Option L) (k : ℕ) → k + 1 ≡ cond {A = ℕ} (is_some o) 1 0 → is_some o ≡ true
some_load None k e = absurd (omega (arith, e))
some_load (Some l) k e = refl

not_none : {L : Type 0} (o : Option L) → is_some o ≡ true → o ≡ None → ⊥
not_none None some none = false≢true some
not_none (Some l) some none = none_some (sym none)

module _ {K V E : Type 0} where
  -- ---- plans of owners that settle, and of those that wait

  -- an owner that settles answers with that step
  settles_tail : (with : Settled V E) (rest p : List (Item K V E)) → p ≡ plan.Settle with ∷ rest →
      IsTail p → (a : Answer K V E) × (rest ≡ plan.Reply a ∷ [])
  settles_tail with rest p e (Answering a) = cc
  settles_tail with rest p e (Settling other a) = (a, cc)

  pub settles_form : (with : Settled V E) (rest p : List (Item K V E)) →
      p ≡ plan.Settle with ∷ rest → IsPlan p → (a : Answer K V E) × (rest ≡ plan.Reply a ∷ [])
  settles_form with rest p e (Posted q (Ended r t)) = settles_tail with rest p e t
  settles_form with rest p e (Posted q (Draining r d)) = cc
  settles_form with rest p e (Drained q (Looking aim key look)) = cc
  settles_form with rest p e (Drained q (Owning sought)) = cc
  settles_form with rest p e (Drained q (Asking_op compute pair)) = cc
  settles_form with rest p e (Drained q (Giving a)) = cc
  settles_form with rest p e (Drained q (Removing removal key)) = cc
  settles_form with rest p e (Drained q (Locking_out removal key)) = cc
  settles_form with rest p e (Drained q (Putting key value r t)) = cc
  settles_form with rest p e (Drained q (Locking key value r t)) = cc
  settles_form with rest p e (Walking q Ends) = cc
  settles_form with rest p e (Walking q (Lists part more walk)) = cc
  settles_form with rest p e (Walking q (Finds key more walk)) = cc
  settles_form with rest p e (Walking q (Scans there stored more walk)) = cc
  settles_form with rest p e _ = cc

  -- a call that waits for an owner is to read how that ended, and nothing else
  pub reads_form : (p : List (Item K V E)) → is_some (awaited p) ≡ true → IsPlan p →
      (item : Item K V E) × (p ≡ item ∷ [])
  reads_form p some (Reading sought) = (plan.Read sought, refl)
  reads_form p some (Reading_key compute) = (plan.Read_key compute, refl)
  reads_form p some (Posted q d) = absurd (not_none (awaited q) some (posted_role q d))
  reads_form p some (Drained q d) = absurd (not_none (awaited q) some (drained_role q d))
  reads_form p some (Posting x q d) = absurd (not_none (awaited q) some (posted_role q d))
  reads_form p some (Hearing number x q d) = absurd (not_none (awaited q) some (posted_role q d))
  reads_form p some (Noticing key old cause upsert x q t) =
      absurd (not_none (awaited q) some (tail_role q t))
  reads_form p some (Listening x q t) = absurd (not_none (awaited q) some (tail_role q t))
  reads_form p some (Unlocking x q t) = absurd (not_none (awaited q) some (tail_role q t))
  reads_form p some (Turning x q d) = absurd (not_none (awaited q) some (posted_role q d))
  reads_form p some (Applying x q d) = absurd (not_none (awaited q) some (posted_role q d))
  reads_form p some (Ending x q d) = absurd (not_none (awaited q) some (posted_role q d))
  reads_form p some (Writing key value moment q t) = absurd (not_none (awaited q) some (tail_role q t))
  reads_form p some (Freeing q t) = absurd (not_none (awaited q) some (tail_role q t))
  reads_form p some (Idling q t) = absurd (not_none (awaited q) some (tail_role q t))
  reads_form p some (Walking q walk) = absurd (not_none (awaited q) some (walk_awaits q walk))
  reads_form p some _ = absurd (false≢true some)

  -- ---- what is kept

  -- what is kept of an owner stays, as another call leaves it that was not the last to wait
  stays_without : (d : DeskPart K V E) (m o : ℕ) → joins o (d.joined m) + 1 ≤ d.readers o → settled_without d m o ≡ d.settled o
  stays_without d m o more = by (is_reader_of d m o) (d.readers o == 1) (reader_joins d m o) refl
    where
      by : (x y : Bool) → joins o (d.joined m) ≡ cond x 1 0 → (d.readers o == 1) ≡ y → cond (x && y) None (d.settled o) ≡ d.settled o
      by false y e f = refl
      by true false e f = refl
      by true true e f = absurd (omega (arith, eqb-true (d.readers o) 1 f))

  -- and as another call ends what it owns
  stays_with : (d : DeskPart K V E) (m o : ℕ) (with : Settled V E) (kept : ℕ → Option (Settled V E)) → (m == o) ≡ false → settled_with d m with kept o ≡ kept o
  stays_with d m o with kept apart = by (is_some (d.owning m)) (nat_lt 0 (d.readers m)) (m == o) apart
    where
      by : (x y z : Bool) → z ≡ false → cond (x && y && z) (Some with) (kept o) ≡ kept o
      by true true false e = refl
      by true false false e = refl
      by false true false e = refl
      by false false false e = refl
      by x y true e = absurd (false≢true (sym e))

  module _ (o n : ℕ) (with : Settled V E) where
    -- while the call waits, it is kept how its owner ended
    abbrev StillSettled : DeskPart K V E → Type 0
    StillSettled d = d.joined n ≡ Some o → d.settled o ≡ Some with

    record Leaves (w new : World K V E) (next : Next K V E) : Type 0 where
      last : new.desk.last ≡ w.desk.last
      kept : StillSettled w.desk → StillSettled new.desk

    -- what is known of the desk as a call makes a step that isn't the owner
    record Known (eq : K → K → Bool) (d : DeskPart K V E) (m : ℕ) : Type 0 where
      apart : (m == o) ≡ false
      idle : d.owning o ≡ None
      owner : (load : Load K) (who : ℕ) → d.owners load ≡ Some who → OwnerOf eq d.owning who load
      enough : (m == n) ≡ false → d.joined n ≡ Some o → joins o (d.joined m) + 1 ≤ d.readers o

    module _ (eq : K → K → Bool) (w : World K V E) (m : ℕ) (c : Call K V E) (k : Known eq w.desk m) where
      same : {new : World K V E} {next : Next K V E} → new.desk.last ≡ w.desk.last → new.desk.joined ≡ w.desk.joined → new.desk.settled ≡ w.desk.settled →
          Leaves w new next
      same l j s = record { last = l; kept = λ keeps e. ap (λ f. f o) s ∙ keeps (ap (λ f. f n) (sym j) ∙ e) }

      on_item : (item : Item K V E) (rest : List (Item K V E)) → Outcomes eq (Leaves w) w m c item rest
      on_item plan.Drain rest = (λ e. same refl refl refl, λ x xs e. same refl refl refl, λ x number xs e. same refl refl refl)
      on_item plan.Apply rest = (λ e. same refl refl refl, λ x xs e. same refl refl refl)
      on_item (plan.Get aim key) rest = (
        (λ more. same refl refl refl),
        (λ none. same refl refl refl),
        λ q stored some. same refl refl refl,
      )
      on_item (plan.Judge aim key stored) rest =
          ((λ seen. same refl refl refl), λ unseen. same refl refl refl)
      on_item (plan.Own sought) rest = (
        λ able e. same refl refl refl,
        λ not e. same refl refl refl,
        λ who e. record {
          last = refl;
          kept = λ keeps j. put_cases w.desk.joined m (Some who) n (Some o) (w.desk.settled o ≡ Some with) j
              (λ here is.
              let own = k.owner sought.load who e in
              absurd (none_some (sym k.idle ∙ ap w.desk.owning (sym (some_same is)) ∙ own.1)))
              (λ there is. keeps is);
        },
      )
      on_item (plan.Own_key compute) rest = (
        ((λ able e. same refl refl refl), λ not e. same refl refl refl),
        λ who e. record {
          last = refl;
          kept = λ keeps j. put_cases w.desk.joined m (Some who) n (Some o)
              (w.desk.settled o ≡ Some with) j
              (λ here is.
              let own = k.owner (computes_of compute.key) who e in
              absurd (none_some (sym k.idle ∙ ap w.desk.owning (sym (some_same is)) ∙ own.1)))
              (λ there is. keeps is);
        },
      )
      on_item (plan.Own_alone key) rest = (
        (λ able e. same refl refl refl, λ not e. same refl refl refl),
        λ who e. (λ able. same refl refl refl, λ not. same refl refl refl),
      )
      on_item (plan.Read sought) rest = (
        λ e. same refl refl refl,
        λ given e. record {
          last = refl;
          kept = λ keeps j. put_cases w.desk.joined m None n (Some o) (settled_without w.desk m o ≡ Some with) j (λ here is. absurd (none_some is))
              (λ there is. stays_without w.desk m o (k.enough there is) ∙ keeps is);
        },
      )
      on_item (plan.Read_key compute) rest = (
        λ e. same refl refl refl,
        λ given e. record {
          last = refl;
          kept = λ keeps j. put_cases w.desk.joined m None n (Some o)
              (settled_without w.desk m o ≡ Some with) j (λ here is. absurd (none_some is))
              (λ there is. stays_without w.desk m o (k.enough there is) ∙ keeps is);
        },
      )
      on_item (plan.Settle given) rest = record { last = refl; kept = λ keeps j. stays_with w.desk m o given w.desk.settled k.apart ∙ keeps j }
      on_item (plan.Ask load) rest = same refl refl refl
      on_item (plan.Ask_op compute pair) rest = same refl refl refl
      on_item (plan.Told load) rest = (λ e. same refl refl refl, λ given e. same refl refl refl)
      on_item (plan.Told_op compute pair) rest =
          (λ e. same refl refl refl, λ given e. same refl refl refl)
      on_item (plan.Holds key stamp cause there stored) rest =
          ((λ e. same refl refl refl), λ e. same refl refl refl)
      on_item (plan.Moment (plan.To_store key value)) rest = same refl refl refl
      on_item (plan.Moment (plan.To_take_out removal key)) rest = same refl refl refl
      on_item (plan.Write key value moment) rest = ((λ more. same refl refl refl), (λ off old. same refl refl refl), (λ on. same refl refl refl), λ there old on some. same refl refl refl)
      on_item (plan.Out removal key) rest = (
        (λ more. same refl refl refl),
        (λ off none. same refl refl refl),
        (λ on none. same refl refl refl),
        (λ k old off some. same refl refl refl),
        λ k old on some. same refl refl refl,
      )
      on_item (plan.List_keys part) rest =
          ((λ more. same refl refl refl), λ listed keys e gives. same refl refl refl)
      on_item (plan.Find key) rest = (
        (λ more. same refl refl refl),
        (λ none. same refl refl refl),
        (λ q stored some none. same refl refl refl),
        λ q stored ids some is. same refl refl refl,
      )
      on_item (plan.Scan there stored) rest = ((λ seen. same refl refl refl), λ unseen. same refl refl refl)
      on_item (plan.Register test) rest = same refl refl refl
      on_item (plan.Candidates parts) rest = ((λ none. same refl refl refl), λ id more some. same refl refl refl)
      on_item (plan.Strike there stored) rest = same refl refl refl
      on_item plan.Retire rest = same refl refl refl
      on_item (plan.Reply a) rest = same refl refl refl
      on_item (plan.Notice key old cause upsert) rest =
          (λ e. same refl refl refl, λ e. same refl refl refl)
      on_item (plan.Post write) rest = (λ e. same refl refl refl, λ e. same refl refl refl)
      on_item item rest = passes_by eq (Leaves w) w m c item rest tt
          (λ d a. same a.last a.joined a.settled) (same refl refl refl)

      on_plan : (plan : List (Item K V E)) → OnStep eq (Leaves w) w m c plan
      on_plan [] = same refl refl refl
      on_plan (item ∷ rest) = outcomes eq (Leaves w) w m c item rest (on_item item rest)

    -- ---- of a state

    -- The owner has ended, and as long as the call waits for it, how it ended is kept.
    record AllHeard (eq : K → K → Bool) (s : State K V E) : Type 0 where
      well : IsWell eq s
      gone : s.calls o ≡ None
      given : o ≤ s.world.desk.last
      kept : StillSettled s.world.desk

    module _ (eq : K → K → Bool) where
      -- a live call isn't the owner
      apart_from : (s : State K V E) (m : ℕ) (c : Call K V E) → s.calls o ≡ None → s.calls m ≡ Some c → (m == o) ≡ false
      apart_from s m c gone live = differ m o (λ e. none_some (sym gone ∙ ap s.calls (sym e) ∙ live))

      known : (s : State K V E) (m : ℕ) (c : Call K V E) → AllHeard eq s → s.calls m ≡ Some c → Known eq s.world.desk m
      known s m c i live = record {
        apart = apart_from s m c i.gone live;
        idle = no_load (s.world.desk.owning o) (subst (λ v. Fits (s.world.desk.owning o) (s.world.desk.joined o) (plan_left v)) i.gone (i.well.served.fits o)).owning;
        owner = i.well.served.owner;
        enough = λ other j. enough eq s i.well.served m (i.well.served.balanced.numbered m c live) n o other j;
      }

      heard_stable : IsStable eq (AllHeard eq)
      heard_stable = record {
        at = λ s moment i. record { well = (well_kept eq).at s moment i.well; gone = i.gone; given = i.given; kept = i.kept };
        start = λ s start i. record {
          well = (well_kept eq).start s start i.well;
          gone = put_there s.calls (s.world.desk.last + 1) (Some (fresh_call s.world.table.division.parts s.world.desk.rules start)) o (differ (s.world.desk.last + 1) o (λ e. omega (arith, e, i.given))) ∙ i.gone;
          given = omega (arith, i.given);
          kept = i.kept;
        };
        step = λ s t m turn i step.
            let k = known s m step.call i step.live in
            let shown : (o ≤ t.world.desk.last) × StillSettled t.world.desk × (t.calls o ≡ None) =
            step_cases eq (Leaves s.world) (λ v _. (o ≤ v.world.desk.last) × StillSettled v.world.desk × (v.calls o ≡ None)) s t m turn step
            (on_plan eq s.world m step.call k step.call.plan)
            (λ w next l. (omega (arith, l.last, i.given), l.kept i.kept, put_there s.calls m next.left o k.apart ∙ i.gone)) in
            record { well = (well_kept eq).step s t m turn i.well step; gone = shown.2; given = shown.0; kept = shown.1 };
        tell = λ s m told asked i. record { well = (well_kept eq).tell s m told asked i.well; gone = i.gone; given = i.given; kept = i.kept };
        hear = λ s m off running i. record { well = (well_kept eq).hear s m off running i.well; gone = i.gone; given = i.given; kept = i.kept };
        drop = λ s m c live between i.
            let k = known s m c i live in
            record {
              well = (well_kept eq).drop s m c live between i.well;
              gone = put_there s.calls m None o k.apart ∙ i.gone;
              given = i.given;
              kept = λ j. put_cases s.world.desk.joined m None n (Some o)
                  (settled_with s.world.desk m settled.Aborted (settled_without s.world.desk m) o ≡ Some with) j (λ here is. absurd (none_some is))
                  (λ there is. stays_with s.world.desk m o settled.Aborted (settled_without s.world.desk m) k.apart
                  ∙ stays_without s.world.desk m o (k.enough there is) ∙ i.kept is);
            };
      }

module _ {K V E : Type 0} (eq : K → K → Bool) where
  -- ---- as the owner settles

  settled_here : (d : DeskPart K V E) (o : ℕ) (with : Settled V E) → is_some (d.owning o) ≡ true → 0 < d.readers o → settled_with d o with d.settled o ≡ Some with
  settled_here d o with own some =
      let waited : nat_lt 0 (d.readers o) ≡ true = grind (arith, nat_tests) in
      rw (own, waited, same_number o) refl

  ended : (s t : State K V E) (o n : ℕ) (with : Settled V E) → IsReached eq s → s.world.desk.joined n ≡ Some o → Settles eq s o with t →
      AllHeard o n with eq t
  ended s t o n with h j e =
      let well : IsWell eq s = in_well eq s h in
      let c : Call K V E = e.call in
      let form = settles_form with e.rest c.plan e.settling (well.asking.known o c e.live).plan in
      let fits : Fits (s.world.desk.owning o) (s.world.desk.joined o) (plan.Settle with ∷ e.rest) =
      subst (Fits (s.world.desk.owning o) (s.world.desk.joined o)) e.settling
      (subst (λ v. Fits (s.world.desk.owning o) (s.world.desk.joined o) (plan_left v)) e.live (well.served.fits o)) in
      let own : is_some (s.world.desk.owning o) ≡ true = some_load (s.world.desk.owning o) (weigh owners e.rest) (omega (arith, fits.owning)) in
      let some : 0 < s.world.desk.readers o = omega
      (arith, enough_own eq s well.served n (joined_numbered eq s well.served n o j) o, joins_self o (s.world.desk.joined n) j) in
      let is : e.step.call ≡ c = some_same (sym e.step.live ∙ e.live) in
      let shown : (o ≤ t.world.desk.last) × (t.world.desk.settled o ≡ Some with) × (t.calls o ≡ None) =
      step_cases eq (λ new next. (new.desk.last ≡ s.world.desk.last) × (new.desk.settled o ≡ Some with) × (next.left ≡ None))
      (λ v _. (o ≤ v.world.desk.last) × (v.world.desk.settled o ≡ Some with) × (v.calls o ≡ None)) s t o e.turn e.step
      (subst (λ p. OnStep eq (λ new next. (new.desk.last ≡ s.world.desk.last) × (new.desk.settled o ≡ Some with) × (next.left ≡ None)) s.world o e.step.call p)
      (sym (ap (λ (v : Call K V E). v.plan) is ∙ e.settling ∙ ap (λ r. plan.Settle with ∷ r) form.1))
      (outcomes eq (λ new next. (new.desk.last ≡ s.world.desk.last) × (new.desk.settled o ≡ Some with) × (next.left ≡ None)) s.world o e.step.call
      (plan.Settle with) (plan.Reply form.0 ∷ []) (refl, settled_here s.world.desk o with own some, refl)))
      (λ w next l. (omega (arith, l.0, well.served.balanced.numbered o c e.live), l.1, put_here s.calls o next.left ∙ l.2)) in
      record {
        well = in_well eq t (step_reached eq s t o e.turn h e.step);
        gone = shown.2;
        given = shown.0;
        kept = λ k. shown.1;
      }

  -- ---- as the call reads

  -- what an owner settled is answered by who reads it
  read_says : (c : Call K V E) (sought : Sought K) (with : Settled V E) (said : Answer K V E) →
      said_of with false ≡ Some said → (after_read c sought (found.ReadSettled with)).turn ≡ turn.Answer said
  read_says c sought settled.NotYet said e = absurd (none_some e)
  read_says c sought settled.Aborted said e = absurd (none_some e)
  read_says c sought _ said e = ap (λ a. turn.Answer a) (some_same e)

  heard : (u v : State K V E) (o n : ℕ) (with : Settled V E) (said : Answer K V E)
      (reply : Turn K V E) → AllHeard o n with eq u → said_of with false ≡ Some said →
      WaitsForLoad u n o → Step eq u n reply v →
      reply ≡ turn.Answer said
  heard u v o n with said reply i says wait step =
      let c : Call K V E = step.call in
      let form : c.plan ≡ plan.Read wait.sought ∷ [] = ap (λ (d : Call K V E). d.plan) (some_same (sym step.live ∙ wait.live)) ∙ wait.reading in
      let there : settlement_for u.world.desk n ≡ Some with = ap (option_and_then u.world.desk.settled) wait.joined ∙ i.kept wait.joined in
      step_cases eq (λ new next. next.turn ≡ turn.Answer said) (λ v r. r ≡ turn.Answer said) u v n reply step
      (subst (λ p. OnStep eq (λ new next. next.turn ≡ turn.Answer said) u.world n c p) (sym form)
      (outcomes eq (λ new next. next.turn ≡ turn.Answer said) u.world n c (plan.Read wait.sought) [] (
        (λ none. absurd (none_some (sym none ∙ there))),
        λ is some. ap (λ s. (after_read c wait.sought (found.ReadSettled s)).turn)
            (some_same (sym some ∙ there))
            ∙ read_says c wait.sought with said says,
      )))
      (λ w next l. l)

  pub waiters_hear : WaitersAnswerSettled K V E eq
  waiters_hear s t u v es rs o n with said reply h j e says run k step =
      let start : AllHeard o n with eq t = ended s t o n with h j e in
      let reached : IsReached eq t = step_reached eq s t o e.turn h e.step in
      let after = runs eq (AllHeard o n with eq) (heard_stable o n with eq) t u es rs start
      (run_more eq (IsLawful eq) Any (λ v i p. tt) t u es rs reached run) in
      heard u v o n with said reply after says k step
