-- How far a call is that was started to compute a key, and what it has done.
use Rattle.std.proofs.Common.{◌≡◌, ◌⊎◌, inl, inr, ℕ, Bool, true, false, List, [], ◌∷◌, Option, Some, None, is_some, refl, sym, ap, ◌∙◌, subst}
use Rattle.std.proofs.lemmas.Bool.{false≢true}
use Rattle.moka_hist.specs.Finite.{put_at}
use Rattle.moka_hist.specs.State.{State, World, Call}
use Rattle.moka_hist.specs.Plan.{Item, Aim, is_disabled, plan_of, under_lock}
use Rattle.moka_hist.specs.Plan as plan
use Rattle.moka_hist.specs.Entries.{put_answer, removed_value, unchanged}
use Rattle.moka_hist.specs.Computing.{after_told_op, end_compute, put_told}
use Rattle.moka_hist.specs.Next.{Next, asks, goes, stays, waits}
use Rattle.moka_hist.specs.Step.{Step, replace_of, state_after}
use Rattle.moka_hist.specs.Tables.{by_pair, removed, taken_by}
use Rattle.moka_hist.specs.Visits.{is_seen}
use Rattle.moka_hist.specs.Run.{IsReached}
use Rattle.moka_hist.specs.declared.accesses.Turn.{Turn}
use Rattle.moka_hist.specs.declared.accesses.Turn.TheVariants as turn
use Rattle.moka_hist.specs.declared.events.Op.TheVariants as op
use Rattle.moka_hist.specs.declared.events.Start.{Start}
use Rattle.moka_hist.specs.declared.events.Start.TheVariants as start
use Rattle.moka_hist.specs.declared.events.Told.{Told}
use Rattle.moka_hist.specs.declared.events.Told.TheVariants as told
use Rattle.moka_hist.specs.declared.loads.Compute.{Compute}
use Rattle.moka_hist.specs.declared.records.Mode.{Mode}
use Rattle.moka_hist.specs.declared.records.Mode.TheVariants as mode
use Rattle.moka_hist.specs.declared.records.Stored.{Stored}
use Rattle.moka_hist.specs.declared.replies.Answer.{Answer}
use Rattle.moka_hist.specs.declared.replies.Answer.TheVariants as answer
use Rattle.moka_hist.specs.declared.replies.Ask as reply
use Rattle.moka_hist.specs.declared.replies.Ask.TheVariants as ask
use Rattle.moka_hist.specs.declared.visits.Found.TheVariants as found
use Rattle.moka_hist.specs.declared.writes.Write.TheVariants.{Remove}
use Rattle.moka_laws.specs.Computes.{AskedWith, AsksWith, ComputeSays, Disabled, Looked, LooksAsOwner, OwnsComputes, Reports, SaysTold, StandsAside, TakesOp, TakesOut, Was_disabled, Was_told, out_answer}
use Rattle.moka_laws.specs.Looks.{HasDecided, HasShown, Judged, Judges, LooksUp, Missed}
use Rattle.moka_laws.specs.Starting.{HasMade, Leads}
use Rattle.moka_laws.proofs.Counting.{put_here}
use Rattle.moka_laws.proofs.Following.{made_on, no_leads, step_leads}
use Rattle.moka_laws.proofs.Outcomes.{OwnsKey, alone_of, computes_of, outcomes, was_read}
use Rattle.moka_laws.proofs.Owning.{plan_left}
use Rattle.moka_laws.proofs.Rules.{put_plans, read_key_next}
use Rattle.moka_laws.proofs.StepCases.{OnStep, step_cases}

-- a removal without a stamp takes what there is
taken_all : {K V : Type 0} (o out : Option (K × Stored V)) → taken_by None o ≡ out → o ≡ out
taken_all None out e = e
taken_all (Some pair) out e = e

module _ {K V E : Type 0} where
  pub same_answer : (a b : Answer K V E) →
      ◌≡◌ {A = Turn K V E} (turn.Answer a) (turn.Answer b) → a ≡ b
  same_answer a b e = cc

  same_asked : (a b : reply.Ask K V) → ◌≡◌ {A = Turn K V E} (turn.Ask a) (turn.Ask b) → a ≡ b
  same_asked a b e = cc

  same_ask : (a b : Option (K × V)) →
      ◌≡◌ {A = Turn K V E} (turn.Ask (ask.Compute a)) (turn.Ask (ask.Compute b)) → a ≡ b
  same_ask a b e = cc

  -- the plan begins with a table operation of a look or a removal
  abbrev at_table : List (Item K V E) → Bool
  at_table (plan.Get aim key ∷ rest) = true
  at_table (plan.Out removal key ∷ rest) = true
  at_table _ = false

  -- what a look has shown it has
  pub shown_on : (eq : K → K → Bool) (s v : State K V E) (n : ℕ) (aim : Aim K V)
      (Looks : Option (K × Stored V) → State K V E → Call K V E → Turn K V E → State K V E →
      Type 0) (pair : Option (K × V)) → Leads eq s v → HasShown eq s n aim Looks pair →
      HasShown eq v n aim Looks pair
  shown_on eq s v n aim Looks pair led (Missed looked) =
      Missed (made_on eq s v n (Looks None) led looked)
  shown_on eq s v n aim Looks pair led (Judged there stored sees looked judged) =
      Judged there stored sees (made_on eq s v n (Looks (Some (there, stored))) led looked)
      (made_on eq s v n (Judges aim there stored sees) led judged)

  told_on : (eq : K → K → Bool) (s v : State K V E) (n : ℕ) (key : K) (pair : Option (K × V))
      (given : Told V E) (a : Answer K V E) → Leads eq s v → SaysTold eq s n key pair given a →
      SaysTold eq v n key pair given a
  told_on eq s v n key pair (told.Op op.Remove) a led h =
      (h.0, made_on eq s v n (TakesOut n eq key h.0) led h.1, h.2)
  told_on eq s v n key pair told.Nothing a led h = absurd h
  told_on eq s v n key pair told.Done a led h = absurd h
  told_on eq s v n key pair told.Off a led h = absurd h
  told_on eq s v n key pair _ a led h = h

module _ {K V E : Type 0} (eq : K → K → Bool) (begin : Start K V) (key : K) (n : ℕ) where
  -- what is said of the call stays so, as long as it owns as before
  pub record FollowsFrom (s v : State K V E) : Type 0 where
    pub led : Leads eq s v
    pub rules : v.world.desk.rules ≡ s.world.desk.rules
    pub owning : v.world.desk.owning n ≡ s.world.desk.owning n

  says_on : (s v : State K V E) (a : Answer K V E) → Leads eq s v →
      v.world.desk.rules ≡ s.world.desk.rules → ComputeSays eq begin s n key a →
      ComputeSays eq begin v n key a
  says_on s v a led same (Was_told compute pair given of asked took says) =
      Was_told compute pair given of (made_on eq s v n _ led asked) (made_on eq s v n _ led took)
      (told_on eq s v n key pair given a led says)
  says_on s v a led same (Was_disabled alone aside off is) =
      Was_disabled alone (made_on eq s v n _ led aside) (ap is_disabled same ∙ off) is
  says_on s v a led same (Reports pair alone aside shown is) =
      Reports pair alone (made_on eq s v n _ led aside) (shown_on eq s v n _ _ pair led shown) is

  asked_on : (s v : State K V E) (pair : Option (K × V)) → Leads eq s v →
      v.world.desk.rules ≡ s.world.desk.rules → AskedWith eq s n key pair →
      AskedWith eq v n key pair
  asked_on s v pair led same (Disabled off) = Disabled (ap is_disabled same ∙ off)
  asked_on s v pair led same (Looked compute other shown) =
      Looked compute other (shown_on eq s v n _ _ other led shown)

  -- it was told to take out what the key has
  pub record WasToldRemove (s : State K V E) : Type 0 where
    pub compute : Compute K
    pub pair : Option (K × V)
    pub of : compute.key ≡ key
    pub asked : HasMade eq s n (AsksWith n compute pair)
    pub took : HasMade eq s n (TakesOp n compute pair (told.Op op.Remove))

  -- how far the call is
  abbrev pub Stage : State K V E → List (Item K V E) → Type 0
  Stage s (plan.Drain ∷ rest) = Stage s rest
  Stage s (plan.Ended number ∷ rest) = Stage s rest
  Stage s (plan.Post write ∷ rest) = Stage s rest
  Stage s (plan.Turn ∷ rest) = Stage s rest
  Stage s (plan.Apply ∷ rest) = Stage s rest
  Stage s (plan.End ∷ rest) = Stage s rest
  Stage s (plan.Lock at ∷ rest) = Stage s rest
  Stage s (plan.Unlock wrote ∷ rest) = Stage s rest
  Stage s (plan.Notice at old cause upsert ∷ rest) = Stage s rest
  Stage s (plan.Heard ∷ rest) = Stage s rest
  Stage s (plan.Own_key compute ∷ []) = (compute.key ≡ key) × (begin ≡ start.ComputeAlone key → ⊥)
  Stage s (plan.Read_key compute ∷ []) = (compute.key ≡ key) × (begin ≡ start.ComputeAlone key → ⊥)
  Stage s (plan.Own_alone own ∷ []) = (own ≡ key) × (begin ≡ start.ComputeAlone key)
  Stage s (plan.Get (plan.To_compute compute) at ∷ []) =
      (compute.key ≡ key) × (at ≡ key) × OwnsComputes s n key
  Stage s (plan.Judge (plan.To_compute compute) there stored ∷ []) =
      (compute.key ≡ key) × OwnsComputes s n key ×
      HasMade eq s n (LooksAsOwner n compute key (Some (there, stored)))
  Stage s (plan.Ask_op compute pair ∷ []) =
      (compute.key ≡ key) × OwnsComputes s n key × AskedWith eq s n key pair
  Stage s (plan.Told_op compute pair ∷ []) =
      (compute.key ≡ key) × OwnsComputes s n key × HasMade eq s n (AsksWith n compute pair)
  Stage s (plan.Moment (plan.To_store at value) ∷ plan.Settle with ∷ plan.Reply a ∷ []) =
      OwnsComputes s n key × ComputeSays eq begin s n key a
  Stage s (plan.Write at value moment ∷ plan.Settle with ∷ plan.Reply a ∷ []) =
      OwnsComputes s n key × ComputeSays eq begin s n key a
  Stage s (plan.Moment (plan.To_take_out (plan.To_remove_as_told own) at) ∷ []) =
      (own ≡ key) × (at ≡ key) × OwnsComputes s n key × WasToldRemove s
  Stage s (plan.Out (plan.To_remove_as_told own) at ∷ []) =
      (own ≡ key) × (at ≡ key) × OwnsComputes s n key × WasToldRemove s
  Stage s (plan.Idle ∷ plan.Settle with ∷ plan.Reply a ∷ []) =
      OwnsComputes s n key × ComputeSays eq begin s n key a
  Stage s (plan.Settle with ∷ plan.Reply a ∷ []) =
      OwnsComputes s n key × ComputeSays eq begin s n key a
  Stage s (plan.Get (plan.To_show (plan.As_report own)) at ∷ []) =
      (own ≡ key) × (at ≡ key) × (begin ≡ start.ComputeAlone key) ×
      HasMade eq s n (StandsAside key)
  Stage s (plan.Judge (plan.To_show (plan.As_report own)) there stored ∷ []) =
      (own ≡ key) × (begin ≡ start.ComputeAlone key) × HasMade eq s n (StandsAside key) ×
      HasMade eq s n (LooksUp n (plan.To_show (plan.As_report key)) key (Some (there, stored)))
  Stage s (plan.Reply a ∷ []) = ComputeSays eq begin s n key a
  Stage s _ = ⊥

  told_remove_on : (s v : State K V E) → Leads eq s v → WasToldRemove s → WasToldRemove v
  told_remove_on s v led w = record {
    compute = w.compute;
    pair = w.pair;
    of = w.of;
    asked = made_on eq s v n _ led w.asked;
    took = made_on eq s v n _ led w.took;
  }

  stage_on : (s v : State K V E) → FollowsFrom s v → (p : List (Item K V E)) → Stage s p → Stage v p
  stage_on s v f (plan.Drain ∷ rest) h = stage_on s v f rest h
  stage_on s v f (plan.Ended number ∷ rest) h = stage_on s v f rest h
  stage_on s v f (plan.Post write ∷ rest) h = stage_on s v f rest h
  stage_on s v f (plan.Turn ∷ rest) h = stage_on s v f rest h
  stage_on s v f (plan.Apply ∷ rest) h = stage_on s v f rest h
  stage_on s v f (plan.End ∷ rest) h = stage_on s v f rest h
  stage_on s v f (plan.Lock at ∷ rest) h = stage_on s v f rest h
  stage_on s v f (plan.Unlock wrote ∷ rest) h = stage_on s v f rest h
  stage_on s v f (plan.Notice at old cause upsert ∷ rest) h = stage_on s v f rest h
  stage_on s v f (plan.Heard ∷ rest) h = stage_on s v f rest h
  stage_on s v f (plan.Own_key compute ∷ []) h = h
  stage_on s v f (plan.Read_key compute ∷ []) h = h
  stage_on s v f (plan.Own_alone own ∷ []) h = h
  stage_on s v f (plan.Get (plan.To_compute compute) at ∷ []) h = (h.0, h.1, f.owning ∙ h.2)
  stage_on s v f (plan.Judge (plan.To_compute compute) there stored ∷ []) h =
      (h.0, f.owning ∙ h.1, made_on eq s v n _ f.led h.2)
  stage_on s v f (plan.Ask_op compute pair ∷ []) h =
      (h.0, f.owning ∙ h.1, asked_on s v pair f.led f.rules h.2)
  stage_on s v f (plan.Told_op compute pair ∷ []) h =
      (h.0, f.owning ∙ h.1, made_on eq s v n _ f.led h.2)
  stage_on s v f (plan.Moment (plan.To_store at value) ∷ plan.Settle with ∷ plan.Reply a ∷ []) h =
      (f.owning ∙ h.0, says_on s v a f.led f.rules h.1)
  stage_on s v f (plan.Write at value moment ∷ plan.Settle with ∷ plan.Reply a ∷ []) h =
      (f.owning ∙ h.0, says_on s v a f.led f.rules h.1)
  stage_on s v f (plan.Moment (plan.To_take_out (plan.To_remove_as_told own) at) ∷ []) h =
      (h.0, h.1, f.owning ∙ h.2, told_remove_on s v f.led h.3)
  stage_on s v f (plan.Out (plan.To_remove_as_told own) at ∷ []) h =
      (h.0, h.1, f.owning ∙ h.2, told_remove_on s v f.led h.3)
  stage_on s v f (plan.Idle ∷ plan.Settle with ∷ plan.Reply a ∷ []) h =
      (f.owning ∙ h.0, says_on s v a f.led f.rules h.1)
  stage_on s v f (plan.Settle with ∷ plan.Reply a ∷ []) h =
      (f.owning ∙ h.0, says_on s v a f.led f.rules h.1)
  stage_on s v f (plan.Get (plan.To_show (plan.As_report own)) at ∷ []) h =
      (h.0, h.1, h.2, made_on eq s v n _ f.led h.3)
  stage_on s v f (plan.Judge (plan.To_show (plan.As_report own)) there stored ∷ []) h =
      (h.0, h.1, made_on eq s v n _ f.led h.2, made_on eq s v n _ f.led h.3)
  stage_on s v f (plan.Reply a ∷ []) h = says_on s v a f.led f.rules h
  stage_on s v f _ h = absurd h

  -- a call that may have ended is so far, and goes by the rules of the cache
  abbrev pub StageIf : State K V E → Option (Call K V E) → Type 0
  StageIf s None = Unit {0}
  StageIf s (Some c) = Stage s c.plan × (c.rules ≡ s.world.desk.rules)

  pub stage_if_on : (s v : State K V E) → FollowsFrom s v → (o : Option (Call K V E)) → StageIf s o →
      StageIf v o
  stage_if_on s v f None h = tt
  stage_if_on s v f (Some c) h = (stage_on s v f c.plan h.0, h.1 ∙ sym f.rules)

  -- what the call's own step leaves, changes, asks and answers
  pub record Result (s v : State K V E) (r : Turn K V E) : Type 0 where
    pub stage : StageIf v (v.calls n)
    pub calm : (v.world.table ≡ s.world.table) ⊎ OwnsComputes s n key
    pub asks : (pair : Option (K × V)) → r ≡ turn.Ask (ask.Compute pair) →
        OwnsComputes s n key × AskedWith eq s n key pair
    pub says : (a : Answer K V E) → r ≡ turn.Answer a → ComputeSays eq begin v n key a

  module _ (s : State K V E) (h : IsReached eq s) (c : Call K V E) (live : s.calls n ≡ Some c)
      (built : c.rules ≡ s.world.desk.rules) where
    abbrev after : World K V E → Next K V E → State K V E
    after new next = state_after s n new next

    abbrev Made : World K V E → Next K V E → Type 0
    Made new next = Step eq s n next.turn (after new next)

    -- what a step has to show
    abbrev Shows : World K V E → Next K V E → Type 0
    Shows new next = Made new next → Result s (after new next) next.turn

    -- what has still to be found of a step that leaves the call so
    now : (new : World K V E) (next : Next K V E)
        (What : State K V E → Call K V E → Turn K V E → State K V E → Type 0) → Made new next →
        What s c next.turn (after new next) → HasMade eq (after new next) n What
    now new next What step what = record {
      before = s;
      reached = h;
      call = c;
      live = live;
      turn = next.turn;
      after = after new next;
      step = step;
      what = what;
      led = no_leads eq (after new next);
    }

    decided : (new : World K V E) (next : Next K V E) → (plan_left next.left ≡ c.plan → ⊥) →
        HasDecided n c (after new next)
    decided new next not d lives same =
        not (ap plan_left (sym (put_here s.calls n next.left) ∙ lives) ∙ same)

    looks_up : (new : World K V E) (next : Next K V E) (aim : Aim K V) (at : K)
        (seen : Option (K × Stored V)) → c.plan ≡ plan.Get aim at ∷ [] → at ≡ key →
        s.world.table.stored at ≡ seen → (plan_left next.left ≡ plan.Get aim at ∷ [] → ⊥) →
        LooksUp n aim key seen s c next.turn (after new next)
    looks_up new next aim at seen e same stood not = record {
      looks = e ∙ ap (λ k. plan.Get aim k ∷ []) same;
      stood = subst (λ k. s.world.table.stored k ≡ seen) same stood;
      decided = decided new next (λ f. not (f ∙ e));
    }

    -- it judges what its look has found
    judges : {aim : Aim K V} {there : K} {stored : Stored V} {sees : Bool} →
        c.plan ≡ plan.Judge aim there stored ∷ [] →
        is_seen s.world.desk (replace_of aim) there stored ≡ sees →
        (new : World K V E) (next : Next K V E) → Made new next →
        HasMade eq (after new next) n (Judges aim there stored sees)
    judges {aim} {there} {stored} {sees} judging seen new next step =
        now new next (Judges aim there stored sees) step
        (record { judging = judging; seen = seen })

    follows : (new : World K V E) (next : Next K V E) → Made new next →
        new.desk.rules ≡ s.world.desk.rules →
        new.desk.owning n ≡ s.world.desk.owning n → FollowsFrom s (after new next)
    follows new next step rules owning = record {
      led = step_leads eq s (after new next) n next.turn step;
      rules = rules;
      owning = owning;
    }

    left_so : (new : World K V E) (next : Next K V E) (d : Call K V E) → next.left ≡ Some d →
        Stage (after new next) d.plan → d.rules ≡ new.desk.rules →
        StageIf (after new next) ((after new next).calls n)
    left_so new next d is st rules =
        subst (StageIf (after new next)) (sym (put_here s.calls n next.left ∙ is)) (st, rules)

    left_none : (new : World K V E) (next : Next K V E) → next.left ≡ None →
        StageIf (after new next) ((after new next).calls n)
    left_none new next is =
        subst (StageIf (after new next)) (sym (put_here s.calls n next.left ∙ is)) tt

    -- the call goes on with a plan that is so far
    go : (new : World K V E) (rest : List (Item K V E)) → new.desk.rules ≡ s.world.desk.rules →
        (new.table ≡ s.world.table) ⊎ OwnsComputes s n key →
        (Made new (goes c rest) → Stage (after new (goes c rest)) rest) → Shows new (goes c rest)
    go new [] rules calm st step = absurd (st step)
    go new (plan.Reply a ∷ []) rules calm st step = record {
      stage = left_none new (goes c (plan.Reply a ∷ [])) refl;
      calm = calm;
      asks = λ pair e. cc;
      says = λ b e. subst
          (ComputeSays eq begin (after new (goes c (plan.Reply a ∷ []))) n key)
          (same_answer a b e) (st step);
    }
    go new (plan.Reply a ∷ x ∷ rest) rules calm st step = absurd (st step)
    go new (item ∷ rest) rules calm st step = record {
      stage = left_so new (goes c (item ∷ rest)) _ refl (st step) (built ∙ sym rules);
      calm = calm;
      asks = λ pair e. cc;
      says = λ b e. cc;
    }

    go_on : (new : World K V E) (rest : List (Item K V E)) → new.desk.rules ≡ s.world.desk.rules →
        new.desk.owning n ≡ s.world.desk.owning n →
        (new.table ≡ s.world.table) ⊎ OwnsComputes s n key → Stage s rest → Shows new (goes c rest)
    go_on new rest rules owning calm st =
        go new rest rules calm
        (λ step. stage_on s (after new (goes c rest)) (follows new (goes c rest) step rules owning)
        rest st)

    module _ (p : List (Item K V E)) (is : c.plan ≡ p) (st : Stage s p) where
      -- the call stays where it is, and neither asks nor answers
      stand : (mode : Mode) (r : Turn K V E) → ((asked : reply.Ask K V) → r ≡ turn.Ask asked → ⊥) →
          ((a : Answer K V E) → r ≡ turn.Answer a → ⊥) → (new : World K V E) →
          new.desk.rules ≡ s.world.desk.rules →
          new.desk.owning n ≡ s.world.desk.owning n → new.table ≡ s.world.table →
          Shows new (record { left = Some (record c { mode = mode }); turn = r })
      stand mode r unasked unsaid new rules owning same step =
          let next : Next K V E = record { left = Some (record c { mode = mode }); turn = r } in
          record {
            stage = left_so new next _ refl
                (stage_on s (after new next) (follows new next step rules owning) c.plan
                (subst (Stage s) (sym is) st)) (built ∙ sym rules);
            calm = inl same;
            asks = λ pair e. absurd (unasked (ask.Compute pair) e);
            says = λ a e. absurd (unsaid a e);
          }

      wait : (new : World K V E) → new.desk.rules ≡ s.world.desk.rules →
          new.desk.owning n ≡ s.world.desk.owning n → new.table ≡ s.world.table →
          Shows new (waits c)
      wait = stand mode.Parked turn.Wait (λ asked e. cc) (λ a e. cc)

      stay : (new : World K V E) → new.desk.rules ≡ s.world.desk.rules →
          new.desk.owning n ≡ s.world.desk.owning n → new.table ≡ s.world.table →
          Shows new (stays c)
      stay = stand mode.Mid turn.Going (λ asked e. cc) (λ a e. cc)

    -- it asks the listener, or what is to be done
    notices : (new : World K V E) (asked : reply.Ask K V) (rest : List (Item K V E)) →
        new.desk.rules ≡ s.world.desk.rules →
        new.desk.owning n ≡ s.world.desk.owning n → new.table ≡ s.world.table → Stage s rest →
        ((pair : Option (K × V)) → asked ≡ ask.Compute pair → ⊥) →
        Shows new (asks c asked (plan.Heard ∷ rest))
    notices new asked rest rules owning same st other step = record {
      stage = left_so new (asks c asked (plan.Heard ∷ rest)) _ refl
          (stage_on s (after new (asks c asked (plan.Heard ∷ rest)))
          (follows new (asks c asked (plan.Heard ∷ rest)) step rules owning) rest st)
          (built ∙ sym rules);
      calm = inl same;
      asks = λ pair e. absurd (other pair (same_asked asked (ask.Compute pair) e));
      says = λ b e. cc;
    }

    asks_now : (new : World K V E) (compute : Compute K) (pair : Option (K × V)) →
        c.plan ≡ plan.Ask_op compute pair ∷ [] → Stage s (plan.Ask_op compute pair ∷ []) →
        new.desk.rules ≡ s.world.desk.rules →
        new.desk.owning n ≡ s.world.desk.owning n → new.table ≡ s.world.table →
        Shows new (asks c (ask.Compute pair) (plan.Told_op compute pair ∷ []))
    asks_now new compute pair is st rules owning same step = record {
      stage = left_so new (asks c (ask.Compute pair) (plan.Told_op compute pair ∷ [])) _ refl (
        st.0,
        owning ∙ st.1,
        now new (asks c (ask.Compute pair) (plan.Told_op compute pair ∷ []))
            (AsksWith n compute pair) step (record { asking = is; asks = refl }),
      ) (built ∙ sym rules);
      calm = inl same;
      asks = λ other e. (
        st.1,
        subst (AskedWith eq s n key) (same_ask pair other e) st.2,
      );
      says = λ b e. cc;
    }

    -- it owns the computes of its key from now on
    owns_now : (compute : Compute K) → compute.key ≡ key →
        put_at s.world.desk.owning n (Some (computes_of compute.key)) n ≡ Some (computes_of key)
    owns_now compute of =
        put_here s.world.desk.owning n (Some (computes_of compute.key)) ∙
        ap (λ k. Some (computes_of k)) of

    owns_key : (compute : Compute K) → compute.key ≡ key →
        OwnsKey eq Shows s.world n c compute
    owns_key compute of = (
      (λ able none. go _ (plan.Drain ∷ plan.Get (plan.To_compute compute) compute.key ∷ []) refl
          (inl refl) (λ step. (of, of, owns_now compute of))),
      λ off none. go _ (plan.Drain ∷ plan.Ask_op compute None ∷ []) refl (inl refl)
          (λ step. (of, owns_now compute of, Disabled (ap is_disabled (sym built) ∙ off))),
    )

    -- it takes what it was told
    module _ (compute : Compute K) (pair : Option (K × V))
        (is : c.plan ≡ plan.Told_op compute pair ∷ [])
        (st : Stage s (plan.Told_op compute pair ∷ [])) (new : World K V E)
        (rules : new.desk.rules ≡ s.world.desk.rules)
        (owning : new.desk.owning n ≡ s.world.desk.owning n)
        (same : new.table ≡ s.world.table) where
      -- and ends, with this answer
      told_says : (rest : List (Item K V E)) (given : Told V E) (a : Answer K V E) →
          s.world.desk.told n ≡ Some given →
          SaysTold eq (after new (goes c rest)) n key pair given a →
          Made new (goes c rest) → OwnsComputes (after new (goes c rest)) n key ×
          ComputeSays eq begin (after new (goes c rest)) n key a
      told_says rest given a was says step = (
        owning ∙ st.1,
        Was_told compute pair given st.0
            (made_on eq s (after new (goes c rest)) n (AsksWith n compute pair)
            (step_leads eq s (after new (goes c rest)) n _ step) st.2)
            (now new (goes c rest) (TakesOp n compute pair given) step
            (record { telling = is; told = was })) says,
      )

      puts_by : (given : Told V E) (value : V) → s.world.desk.told n ≡ Some given →
          ((v : State K V E) →
          SaysTold eq v n key pair given (put_answer compute.key pair value)) → (b : Bool) →
          Shows new (goes c (put_told b c compute.key pair value))
      puts_by given value was says true =
          go new (end_compute (put_answer compute.key pair value)) rules (inl same)
          (told_says (end_compute (put_answer compute.key pair value)) given
          (put_answer compute.key pair value) was (says _))
      puts_by given value was says false =
          put_plans (λ p. Shows new (goes c p)) c.rules compute.key value
          (end_compute (put_answer compute.key pair value))
          (go new (plan.Drain ∷ stores) rules (inl same)
          (told_says (plan.Drain ∷ stores) given (put_answer compute.key pair value) was (says _)))
          (go new (plan.Drain ∷ plan.Lock compute.key ∷ stores) rules (inl same)
          (told_says (plan.Drain ∷ plan.Lock compute.key ∷ stores) given
          (put_answer compute.key pair value) was (says _)))
        where
          stores : List (Item K V E)
          stores = plan.Moment (plan.To_store compute.key value)
              ∷ end_compute (put_answer compute.key pair value)

      puts : (given : Told V E) (value : V) → s.world.desk.told n ≡ Some given →
          ((v : State K V E) →
          SaysTold eq v n key pair given (put_answer compute.key pair value)) →
          Shows new (goes c (put_told (is_disabled c.rules) c compute.key pair value))
      puts given value was says = puts_by given value was says (is_disabled c.rules)

      removes : (rest : List (Item K V E)) → s.world.desk.told n ≡ Some (told.Op op.Remove) →
          Made new (goes c rest) → (compute.key ≡ key) × (compute.key ≡ key) ×
          OwnsComputes (after new (goes c rest)) n key × WasToldRemove (after new (goes c rest))
      removes rest was step = (
        st.0,
        st.0,
        owning ∙ st.1,
        record {
          compute = compute;
          pair = pair;
          of = st.0;
          asked = made_on eq s (after new (goes c rest)) n (AsksWith n compute pair)
              (step_leads eq s (after new (goes c rest)) n _ step) st.2;
          took = now new (goes c rest) (TakesOp n compute pair (told.Op op.Remove)) step
              (record { telling = is; told = was });
        },
      )

      abbrev out : List (Item K V E)
      out =
          plan.Moment (plan.To_take_out (plan.To_remove_as_told compute.key) compute.key) ∷ []

      removes_by : s.world.desk.told n ≡ Some (told.Op op.Remove) → (b : Bool) →
          Shows new (goes c (plan.Drain ∷ under_lock b compute.key out))
      removes_by was true = go new (plan.Drain ∷ plan.Lock compute.key ∷ out) rules (inl same)
          (removes (plan.Drain ∷ plan.Lock compute.key ∷ out) was)
      removes_by was false = go new (plan.Drain ∷ out) rules (inl same)
          (removes (plan.Drain ∷ out) was)

      takes : (given : Told V E) → s.world.desk.told n ≡ Some given →
          Shows new (after_told_op c compute pair (found.TakeTold (Some given)))
      takes (told.Op op.Nop) e =
          go new (end_compute (unchanged compute.key pair)) rules (inl same)
          (told_says (end_compute (unchanged compute.key pair)) (told.Op op.Nop)
          (unchanged compute.key pair) e
          (ap (λ k. unchanged k pair) st.0))
      takes (told.Op (op.Put value)) e =
          puts (told.Op (op.Put value)) value e (λ v. ap (λ k. put_answer k pair value) st.0)
      takes (told.Value value) e =
          puts (told.Value value) value e (λ v. ap (λ k. put_answer k pair value) st.0)
      takes (told.Op op.Remove) e = removes_by e c.rules.listener
      takes (told.Err error) e =
          go new (end_compute (answer.ComputeErr error)) rules (inl same)
          (told_says (end_compute (answer.ComputeErr error)) (told.Err error)
          (answer.ComputeErr error) e refl)
      takes _ e = wait _ is st new rules owning same

    -- it has taken out what stood there, if anything did
    removed_says : (new : World K V E) (rest : List (Item K V E)) (own at : K)
        (out : Option (K × Stored V)) →
        c.plan ≡ plan.Out (plan.To_remove_as_told own) at ∷ [] →
        Stage s (plan.Out (plan.To_remove_as_told own) at ∷ []) →
        (plan_left (goes c rest).left ≡ plan.Out (plan.To_remove_as_told own) at ∷ [] → ⊥) →
        taken_by None (s.world.table.stored at) ≡ out →
        new.table ≡ by_pair out (removed eq n s.world.table at) s.world.table →
        new.desk.rules ≡ s.world.desk.rules →
        new.desk.owning n ≡ s.world.desk.owning n → Made new (goes c rest) →
        OwnsComputes (after new (goes c rest)) n key ×
        ComputeSays eq begin (after new (goes c rest)) n key (out_answer own out)
    removed_says new rest own at out is st not stood left rules owning step = (
      owning ∙ st.2,
      Was_told st.3.compute st.3.pair (told.Op op.Remove) st.3.of
          (made_on eq s (after new (goes c rest)) n _ led st.3.asked)
          (made_on eq s (after new (goes c rest)) n _ led st.3.took) (
            out,
            now new (goes c rest) (TakesOut n eq key out) step (record {
              removing = is ∙ ap (λ k. plan.Out (plan.To_remove_as_told k) at ∷ []) st.0 ∙
                  ap (λ k. plan.Out (plan.To_remove_as_told key) k ∷ []) st.1;
              stood = subst (λ k. s.world.table.stored k ≡ out) st.1 (taken_all _ out stood);
              left = left ∙ ap (λ k. by_pair out (removed eq n s.world.table k) s.world.table) st.1;
              decided = decided new (goes c rest) (λ f. not (f ∙ is));
            }),
            ap (λ k. out_answer k out) st.0,
          ),
    )
      where
        led : Leads eq s (after new (goes c rest))
        led = step_leads eq s (after new (goes c rest)) n _ step

    on_stage : (p : List (Item K V E)) → c.plan ≡ p → Stage s p → OnStep eq Shows s.world n c p
    on_stage (plan.Drain ∷ rest) e st = outcomes eq Shows s.world n c plan.Drain rest (
      λ f. go_on _ rest refl refl (inl refl) st,
      λ x xs f. go_on _ (plan.Post x ∷ plan.Drain ∷ rest) refl refl (inl refl) st,
      λ x number xs f. go_on _ (plan.Ended number ∷ plan.Post x ∷ plan.Drain ∷ rest) refl refl
          (inl refl) st,
    )
    on_stage (plan.Ended number ∷ rest) e st =
        outcomes eq Shows s.world n c (plan.Ended number) rest
        (λ f. go_on _ rest refl refl (inl refl) st, λ f. wait _ e st _ refl refl refl)
    on_stage (plan.Post write ∷ rest) e st =
        outcomes eq Shows s.world n c (plan.Post write) rest (
          λ f. go_on _ rest refl refl (inl refl) st,
          λ f. go_on _ (plan.Turn ∷ plan.Apply ∷ plan.End ∷ plan.Post write ∷ rest) refl refl
              (inl refl) st,
        )
    on_stage (plan.Turn ∷ rest) e st = outcomes eq Shows s.world n c plan.Turn rest
        (λ f. go_on _ rest refl refl (inl refl) st, λ f. wait _ e st _ refl refl refl)
    on_stage (plan.Apply ∷ rest) e st = outcomes eq Shows s.world n c plan.Apply rest (
      λ f. go_on _ rest refl refl (inl refl) st,
      λ x xs f. go_on _ (plan.Apply ∷ rest) refl refl (inl refl) st,
    )
    on_stage (plan.End ∷ rest) e st = outcomes eq Shows s.world n c plan.End rest
        (go_on _ rest refl refl (inl refl) st)
    on_stage (plan.Lock at ∷ rest) e st = outcomes eq Shows s.world n c (plan.Lock at) rest
        (λ f. go_on _ rest refl refl (inl refl) st, λ f. wait _ e st _ refl refl refl)
    on_stage (plan.Unlock wrote ∷ rest) e st =
        outcomes eq Shows s.world n c (plan.Unlock wrote) rest
        (go_on _ rest refl refl (inl refl) st)
    on_stage (plan.Notice at old cause upsert ∷ rest) e st =
        outcomes eq Shows s.world n c (plan.Notice at old cause upsert) rest (
          λ off. go_on _ rest refl refl (inl refl) st,
          λ on. notices _ _ rest refl refl refl st (λ pair f. cc),
        )
    on_stage (plan.Heard ∷ rest) e st = outcomes eq Shows s.world n c plan.Heard rest
        (λ f. go_on _ rest refl refl (inl refl) st, λ f. wait _ e st _ refl refl refl)
    on_stage (plan.Own_key compute ∷ []) e st =
        outcomes eq Shows s.world n c (plan.Own_key compute) [] (
          owns_key compute st.0,
          λ owner some. go_on _ (plan.Read_key compute ∷ []) refl refl (inl refl) st,
        )
    on_stage (plan.Read_key compute ∷ []) e st =
        outcomes eq Shows s.world n c (plan.Read_key compute) [] (
          λ none. wait _ e st _ refl refl refl,
          λ with some. read_key_next (λ v. Shows new v) c compute with
              (wait _ e st new refl refl refl)
              (go_on new (plan.Own_key compute ∷ []) refl refl (inl refl) st),
        )
      where
        new : World K V E
        new = record s.world { desk = was_read eq s.world.desk n }
    on_stage (plan.Own_alone own ∷ []) e st =
        outcomes eq Shows s.world n c (plan.Own_alone own) [] (
          owns_key (alone_of own) st.0,
          λ owner some. (
            (λ able. go _ (plan.Drain ∷ plan.Get (plan.To_show (plan.As_report own)) own ∷ []) refl (inl refl)
                (λ step. (st.0, st.0, st.1, aside _ owner some step))),
            λ off. go _ (plan.Drain ∷ plan.Reply (unchanged own None) ∷ []) refl (inl refl)
                (λ step. Was_disabled st.1 (aside _ owner some step)
                (ap is_disabled (sym built) ∙ off) (ap (λ k. unchanged k None) st.0)),
          ),
        )
      where
        aside : (next : Next K V E) (owner : ℕ) →
            s.world.desk.owners (computes_of own) ≡ Some owner → Made s.world next →
            HasMade eq (after s.world next) n (StandsAside key)
        aside next owner some step = now s.world next (StandsAside key) step (record {
          alone = e ∙ ap (λ k. plan.Own_alone k ∷ []) st.0;
          owned = ap is_some (ap (λ k. s.world.desk.owners (computes_of k)) (sym st.0) ∙ some);
        })
    on_stage (plan.Get (plan.To_compute compute) at ∷ []) e st =
        outcomes eq Shows s.world n c (plan.Get (plan.To_compute compute) at) [] (
          λ more. stay _ e st _ refl refl refl,
          λ none. go _ (plan.Ask_op compute None ∷ []) refl (inl refl)
              (λ step. (
                st.0,
                st.2,
                Looked compute None (Missed (looks _ _ None step none
                    (λ f. false≢true (ap at_table f)))),
              )),
          λ there stored some. go _ (plan.Judge (plan.To_compute compute) there stored ∷ []) refl
              (inl refl) (λ step. (
                st.0,
                st.2,
                looks _ _ (Some (there, stored)) step some
                    (λ f. false≢true (ap at_table f)),
              )),
        )
      where
        looks : (new : World K V E) (next : Next K V E) (seen : Option (K × Stored V)) →
            Made new next → s.world.table.stored at ≡ seen →
            (plan_left next.left ≡ plan.Get (plan.To_compute compute) at ∷ [] → ⊥) →
            HasMade eq (after new next) n (LooksAsOwner n compute key seen)
        looks new next seen step stood not = now new next (LooksAsOwner n compute key seen) step (record {
          look = looks_up new next (plan.To_compute compute) at seen e st.1 stood not;
          owns = st.2;
        })
    on_stage (plan.Judge (plan.To_compute compute) there stored ∷ []) e st =
        outcomes eq Shows s.world n c (plan.Judge (plan.To_compute compute) there stored) [] (
          λ seen. go _ (plan.Ask_op compute (Some (there, stored.value)) ∷ []) refl (inl refl)
              (λ step. (
                st.0,
                st.1,
                Looked compute (Some (there, stored.value)) (Judged there stored true
                    (made_on eq s _ n _ (step_leads eq s _ n _ step) st.2)
                    (judges e seen _ _ step)),
              )),
          λ unseen. go _ (plan.Ask_op compute None ∷ []) refl (inl refl)
              (λ step. (
                st.0,
                st.1,
                Looked compute None (Judged there stored false
                    (made_on eq s _ n _ (step_leads eq s _ n _ step) st.2)
                    (judges e unseen _ _ step)),
              )),
        )
    on_stage (plan.Ask_op compute pair ∷ []) e st =
        outcomes eq Shows s.world n c (plan.Ask_op compute pair) [] (asks_now _ compute pair e st
        refl refl refl)
    on_stage (plan.Told_op compute pair ∷ []) e st =
        outcomes eq Shows s.world n c (plan.Told_op compute pair) [] (
          λ none. wait _ e st _ refl refl refl,
          λ given some. takes compute pair e st _ refl refl refl given some,
        )
    on_stage (plan.Moment (plan.To_store at value) ∷ plan.Settle with ∷ plan.Reply a ∷ []) e st =
        outcomes eq Shows s.world n c (plan.Moment (plan.To_store at value))
        (plan.Settle with ∷ plan.Reply a ∷ [])
        (go_on _ (plan.Write at value s.world.desk.clock ∷ plan.Settle with ∷ plan.Reply a ∷ [])
        refl refl (inl refl) st)
    on_stage (plan.Write at value moment ∷ plan.Settle with ∷ plan.Reply a ∷ []) e st =
        outcomes eq Shows s.world n c (plan.Write at value moment)
        (plan.Settle with ∷ plan.Reply a ∷ []) (
          λ more. stay _ e st _ refl refl refl,
          λ off old. go_on _ (plan.Post _ ∷ plan.Settle with ∷ plan.Reply a ∷ []) refl refl
              (inr st.0) st,
          λ on. go_on _ (plan.Unlock true ∷ plan.Post _ ∷ plan.Settle with ∷ plan.Reply a ∷ [])
              refl refl (inr st.0) st,
          λ k old on some. go_on _ (plan.Notice at old None true ∷ plan.Unlock true
              ∷ plan.Post _ ∷ plan.Settle with ∷ plan.Reply a ∷ []) refl refl (inr st.0) st,
        )
    on_stage (plan.Moment (plan.To_take_out (plan.To_remove_as_told own) at) ∷ []) e st =
        outcomes eq Shows s.world n c
        (plan.Moment (plan.To_take_out (plan.To_remove_as_told own) at)) []
        (go_on _ (plan.Out (plan.To_remove_as_told own) at ∷ []) refl refl (inl refl) st)
    on_stage (plan.Out (plan.To_remove_as_told own) at ∷ []) e st =
        outcomes eq Shows s.world n c (plan.Out (plan.To_remove_as_told own) at) [] (
          λ more. stay _ e st _ refl refl refl,
          λ off none. go _ (plan.Idle ∷ end_compute (unchanged own None)) refl (inr st.2)
              (removed_says _ (plan.Idle ∷ end_compute (unchanged own None)) own at None e st
              (λ f. false≢true (ap at_table f)) none refl refl refl),
          λ on none. go _ (plan.Unlock false ∷ end_compute (unchanged own None)) refl (inr st.2)
              (removed_says _ (plan.Unlock false ∷ end_compute (unchanged own None)) own at None e
              st (λ f. false≢true (ap at_table f)) none refl refl refl),
          λ k old off some. go _ (posts old) refl (inr st.2)
              (removed_says _ (posts old) own at (Some (k, old)) e st
              (λ f. false≢true (ap at_table f)) some refl refl refl),
          λ k old on some. go _ (notes old) refl (inr st.2)
              (removed_says _ (notes old) own at (Some (k, old)) e st
              (λ f. false≢true (ap at_table f)) some refl refl refl),
        )
      where
        posts : Stored V → List (Item K V E)
        posts old = plan.Post (Remove n old.stamp) ∷ end_compute (removed_value own old.value)

        notes : Stored V → List (Item K V E)
        notes old = plan.Notice at old None false ∷ plan.Unlock true ∷ posts old
    on_stage (plan.Idle ∷ plan.Settle with ∷ plan.Reply a ∷ []) e st =
        outcomes eq Shows s.world n c plan.Idle (plan.Settle with ∷ plan.Reply a ∷ [])
        (go_on _ (plan.Settle with ∷ plan.Reply a ∷ []) refl refl (inl refl) st)
    on_stage (plan.Settle with ∷ plan.Reply a ∷ []) e st =
        outcomes eq Shows s.world n c (plan.Settle with) (plan.Reply a ∷ [])
        (go _ (plan.Reply a ∷ []) refl (inl refl)
        (λ step. says_on s _ a (step_leads eq s _ n _ step) refl st.1))
    on_stage (plan.Get (plan.To_show (plan.As_report own)) at ∷ []) e st =
        outcomes eq Shows s.world n c (plan.Get (plan.To_show (plan.As_report own)) at) [] (
          λ more. stay _ e st _ refl refl refl,
          λ none. go _ (plan.Reply (unchanged own None) ∷ []) refl (inl refl)
              (λ step. Reports None st.2 (made_on eq s _ n _ (step_leads eq s _ n _ step) st.3)
              (Missed (looks _ _ None step none (λ f. false≢true (ap at_table f))))
              (ap (λ k. unchanged k None) st.0)),
          λ there stored some. go _ (plan.Judge (plan.To_show (plan.As_report own)) there stored ∷ []) refl
              (inl refl) (λ step. (
                st.0,
                st.2,
                made_on eq s _ n _ (step_leads eq s _ n _ step) st.3,
                looks _ _ (Some (there, stored)) step some (λ f. false≢true (ap at_table f)),
              )),
        )
      where
        looks : (new : World K V E) (next : Next K V E) (seen : Option (K × Stored V)) →
            Made new next → s.world.table.stored at ≡ seen →
            (plan_left next.left ≡ plan.Get (plan.To_show (plan.As_report own)) at ∷ [] → ⊥) →
            HasMade eq (after new next) n (LooksUp n (plan.To_show (plan.As_report key)) key seen)
        looks new next seen step stood not =
            now new next (LooksUp n (plan.To_show (plan.As_report key)) key seen) step
            (subst (λ k. LooksUp n (plan.To_show (plan.As_report k)) key seen s c next.turn (after new next)) st.0
            (looks_up new next (plan.To_show (plan.As_report own)) at seen e st.1 stood not))
    on_stage (plan.Judge (plan.To_show (plan.As_report own)) there stored ∷ []) e st =
        outcomes eq Shows s.world n c (plan.Judge (plan.To_show (plan.As_report own)) there stored) [] (
          λ seen. go _ (plan.Reply (unchanged own (Some (there, stored.value))) ∷ []) refl
              (inl refl) (λ step. Reports (Some (there, stored.value)) st.1
              (made_on eq s _ n _ (step_leads eq s _ n _ step) st.2)
              (Judged there stored true (made_on eq s _ n _ (step_leads eq s _ n _ step) st.3)
              (judges (e ∙ as_report own there stored st.0) seen _ _ step))
              (ap (λ k. unchanged k (Some (there, stored.value))) st.0)),
          λ unseen. go _ (plan.Reply (unchanged own None) ∷ []) refl (inl refl)
              (λ step. Reports None st.1 (made_on eq s _ n _ (step_leads eq s _ n _ step) st.2)
              (Judged there stored false (made_on eq s _ n _ (step_leads eq s _ n _ step) st.3)
              (judges (e ∙ as_report own there stored st.0) unseen _ _ step))
              (ap (λ k. unchanged k None) st.0)),
        )
      where
        as_report : (own there : K) (stored : Stored V) → own ≡ key →
            ◌≡◌ {A = List (Item K V E)}
            (plan.Judge (plan.To_show (plan.As_report own)) there stored ∷ [])
            (plan.Judge (plan.To_show (plan.As_report key)) there stored ∷ [])
        as_report own there stored is =
            ap (λ k. plan.Judge (plan.To_show (plan.As_report k)) there stored ∷ []) is
    on_stage (plan.Reply a ∷ []) e st = outcomes eq Shows s.world n c (plan.Reply a) []
        (go_on _ (plan.Reply a ∷ []) refl refl (inl refl) st)
    on_stage _ e st = absurd st

  pub stage_step : (s t : State K V E) (turn : Turn K V E) → IsReached eq s →
      StageIf s (s.calls n) → Step eq s n turn t → Result s t turn
  stage_step s t turn h stage step =
      let st : StageIf s (Some step.call) = subst (StageIf s) step.live stage in
      step_cases eq (Shows s h step.call step.live st.1)
      (λ v r. Step eq s n r v → Result s v r) s t n turn step
      (on_stage s h step.call step.live st.1 step.call.plan refl st.0) (λ new next m. m) step
