-- The turn is with the one call that applies the log.
use Rattle.std.proofs.Common.{◌≡◌, ◌≢◌, ◌↔◌, ℕ, ◌+◌, ◌==◌, Bool, true, false, List, [], ◌∷◌, Option, Some, None, refl, sym, ap, ◌∙◌, subst, map, ◌++◌}
use Rattle.std.proofs.lemmas.Bool.{eqb-true, false≢true}
use Rattle.std.specs.Option.{option_map_or}
use Rattle.moka_hist.specs.Finite.{put_at}
use Rattle.moka_hist.specs.State.{State, World, Call, DeskPart}
use Rattle.moka_hist.specs.Plan.{Item, Aim, plan_of, lists_from}
use Rattle.moka_hist.specs.Plan as plan
use Rattle.moka_hist.specs.Visits.{is_free_for}
use Rattle.moka_hist.specs.Next.{Next, goes}
use Rattle.moka_hist.specs.Looking.{hits, misses, keeps, finds_pair}
use Rattle.moka_hist.specs.Loading.{after_read, after_told}
use Rattle.moka_hist.specs.Step.{Step}
use Rattle.moka_hist.specs.Run.{IsReached, fresh_call}
use Rattle.moka_hist.specs.declared.records.Mode.TheVariants as mode
use Rattle.moka_hist.specs.declared.loads.Load.{Load}
use Rattle.moka_hist.specs.declared.loads.Sought.{Sought}
use Rattle.moka_hist.specs.declared.rules.Rules.{Rules}
use Rattle.moka_hist.specs.declared.events.Told.{Told}
use Rattle.moka_hist.specs.declared.events.Told.TheVariants as answer
use Rattle.moka_hist.specs.declared.records.Stored.{Stored}
use Rattle.moka_hist.specs.declared.visits.Settled.{Settled}
use Rattle.moka_hist.specs.declared.visits.Settled.TheVariants as settled
use Rattle.moka_hist.specs.declared.visits.Found.TheVariants as found
use Rattle.moka_hist.specs.declared.accesses.Turn.{Turn}
use Rattle.moka_laws.specs.Missing.{TurnIsHeld, AppliesLog, IsApplying}
use Rattle.moka_hist.specs.Writing.{cause_handed, nothing_answer, removed_answer}
use Rattle.moka_hist.specs.declared.writes.Write.TheVariants.{Remove}
use Rattle.moka_laws.proofs.Rules.{abort_next, said_next, put_plans, loaded_plans, kept_next, chosen_by, IsFresh, Disabled, fresh_plan, read_key_next, told_op_next, Walks_over}
use Rattle.moka_laws.proofs.Counting.{none_some, some_same, put_here, put_there, differ_not, other_number}
use Rattle.moka_laws.proofs.Balance.{IsBalanced}
use Rattle.moka_laws.proofs.Balanced.{balanced_kept, next_free}
use Rattle.moka_laws.proofs.Owning.{plan_left}
use Rattle.moka_laws.proofs.Kept.{IsInvariant, in_reached}
use Rattle.moka_laws.proofs.StepCases.{OnStep, step_cases}
use Rattle.moka_laws.proofs.Outcomes.{Outcomes, outcomes}
use Rattle.moka_hist.specs.declared.loads.Compute.{Compute}
use Rattle.moka_hist.specs.Computing.{after_told_op, after_read_key}
use Rattle.moka_laws.proofs.Walks.{Chooses, Ends, Finds, IsWalk, Lists, Retires, Scans, Strikes, retiring_walk, walk_is_walk}
use Rattle.moka_hist.specs.Maintenance.{carrying}

module _ {K V E : Type 0} where
  -- each turn of the plan is whole: it is taken, the log is applied, and it is ended. So it is of a
  -- plan that begins within a turn, once this is ended
  abbrev HasTurns : Bool → List (Item K V E) → Type 0
  HasTurns false [] = Unit {0}
  HasTurns false (plan.Turn ∷ rest) = HasTurns true rest
  HasTurns false (plan.Apply ∷ rest) = ⊥
  HasTurns false (plan.End ∷ rest) = ⊥
  HasTurns false (_ ∷ rest) = HasTurns false rest
  HasTurns true [] = ⊥
  HasTurns true (plan.Apply ∷ rest) = HasTurns true rest
  HasTurns true (plan.End ∷ rest) = HasTurns false rest
  HasTurns true (_ ∷ rest) = ⊥

  -- the plan is within a turn
  abbrev pub InTurn : List (Item K V E) → Type 0
  InTurn plan = HasTurns true plan

  abbrev pub TurnsFirst : List (Item K V E) → Type 0
  TurnsFirst [] = Unit {0}
  TurnsFirst (plan.Turn ∷ rest) = InTurn rest
  TurnsFirst (plan.Apply ∷ rest) = InTurn rest
  TurnsFirst (_ ∷ rest) = HasTurns false rest

  -- The turn is the call's exactly where it is in one.
  pub record TurnFits (turn : Option ℕ) (n : ℕ) (plan : List (Item K V E)) : Type 0 where
    pub first : TurnsFirst plan
    pub has : turn ≡ Some n → InTurn plan
    pub applies : InTurn plan → turn ≡ Some n

  abbrev IsMid : Option (Call K V E) → Type 0
  IsMid None = ⊥
  IsMid (Some c) = c.mode ≡ mode.Mid

  -- ---- plans with no part of a turn, and plans within one

  calm_first : (plan : List (Item K V E)) → HasTurns false plan → TurnsFirst plan
  calm_first [] h = tt
  calm_first (plan.Turn ∷ rest) h = h
  calm_first (plan.Apply ∷ rest) h = absurd h
  calm_first (plan.End ∷ rest) h = absurd h
  calm_first (_ ∷ rest) h = h

  calm_not : (plan : List (Item K V E)) → HasTurns false plan → ¬ InTurn plan
  calm_not [] h = λ t. t
  calm_not (plan.Apply ∷ rest) h = absurd h
  calm_not (plan.End ∷ rest) h = absurd h
  calm_not (_ ∷ rest) h = λ t. t

  in_first : (plan : List (Item K V E)) → InTurn plan → TurnsFirst plan
  in_first (plan.Apply ∷ rest) h = h
  in_first (plan.End ∷ rest) h = h
  in_first [] h = absurd h
  in_first (_ ∷ rest) h = absurd h

  calm_fits : (turn : Option ℕ) (n : ℕ) (plan : List (Item K V E)) → HasTurns false plan → turn ≢ Some n → TurnFits turn n plan
  calm_fits turn n plan h not = record { first = calm_first plan h; has = λ e. absurd (not e); applies = λ t. absurd (calm_not plan h t) }

  -- ---- how a call goes on

  goes_calm : (c : Call K V E) (rest : List (Item K V E)) → HasTurns false rest → HasTurns false (plan_left (goes c rest).left)
  goes_calm c (plan.Reply a ∷ []) h = tt
  goes_calm c _ h = h

  goes_fits : (turn : Option ℕ) (n : ℕ) (c : Call K V E) (rest : List (Item K V E)) → TurnFits turn n rest →
      TurnFits turn n (plan_left (goes c rest).left)
  goes_fits turn n c (plan.Reply a ∷ []) f = record { first = tt; has = f.has; applies = f.applies }
  goes_fits turn n c _ f = f

  goes_mid : (c : Call K V E) (rest : List (Item K V E)) → InTurn (plan_left (goes c rest).left) → IsMid (goes c rest).left
  goes_mid c (plan.Reply a ∷ []) h = h
  goes_mid c _ h = refl

  keeps_calm : (c : Call K V E) → HasTurns false (plan_left (keeps c).left)
  keeps_calm c = kept_next (λ v. HasTurns false (plan_left v.left)) c (λ off. tt) (λ on. tt)

  misses_calm : (c : Call K V E) (aim : Aim K V) → HasTurns false (plan_left (misses c aim).left)
  misses_calm c (plan.To_insert key value) =
      put_plans (λ p. HasTurns false (plan_left (goes c p).left)) c.rules key value _ tt tt
  misses_calm c (plan.To_evict key stamp cause) = keeps_calm c
  misses_calm c _ = tt

  finds_calm : (c : Call K V E) (aim : Aim K V) (there : K) (stored : Stored V) →
      HasTurns false (plan_left (finds_pair c aim there stored).left)
  finds_calm c (plan.To_evict key stamp cause) there stored =
      chosen_by (λ v. HasTurns false (plan_left v.left)) c key stamp cause there stored
      (λ other. keeps_calm c) (λ same. tt)
  finds_calm c _ there stored = tt

  hits_calm : (c : Call K V E) (aim : Aim K V) (there : K) (value : V) → HasTurns false c.plan →
      HasTurns false (plan_left (hits c aim there value).left)
  hits_calm c (plan.To_evict key stamp cause) there value h = h
  hits_calm c _ there value h = tt

  read_calm : (c : Call K V E) (sought : Sought K) (with : Settled V E) → HasTurns false c.plan →
      HasTurns false (plan_left (after_read c sought (found.ReadSettled with)).left)
  read_calm c sought settled.NotYet h = h
  read_calm c sought settled.Aborted h = abort_next (λ v. HasTurns false (plan_left v.left)) c sought tt tt
  read_calm c sought _ h = tt

  read_key_calm : (c : Call K V E) (compute : Compute K) (with : Settled V E) →
      HasTurns false c.plan →
      HasTurns false (plan_left (after_read_key c compute (found.ReadSettled with)).left)
  read_key_calm c compute with h =
      read_key_next (λ v. HasTurns false (plan_left v.left)) c compute with
      (h)
      (tt)

  told_calm : (c : Call K V E) (load : Load K) (given : Told V E) → HasTurns false c.plan →
      HasTurns false (plan_left (after_told c load (found.TakeTold (Some given))).left)
  told_calm c load (answer.Value value) h =
      loaded_plans (λ p. HasTurns false (plan_left (goes c p).left)) c.rules load value tt tt tt
  told_calm c load answer.Nothing h = tt
  told_calm c load (answer.Err error) h = tt
  told_calm c load _ h = h

  told_op_calm : (c : Call K V E) (compute : Compute K) (pair : Option (K × V)) (given : Told V E) →
      HasTurns false c.plan →
      HasTurns false (plan_left (after_told_op c compute pair (found.TakeTold (Some given))).left)
  told_op_calm c compute pair given h =
      told_op_next (λ v. HasTurns false (plan_left v.left)) c compute pair given
      (λ a. tt)
      (λ value able off. tt)
      (λ value able on. tt)
      (λ off. tt)
      (λ on. tt)
      (h)

  walk_calm : (p : List (Item K V E)) → IsWalk p → HasTurns false p
  walk_calm p Ends = tt
  walk_calm p Retires = tt
  walk_calm p (Chooses parts) = tt
  walk_calm p (Strikes there stored rest walk) = walk_calm rest walk
  walk_calm p (Lists part rest walk) = walk_calm rest walk
  walk_calm p (Finds key rest walk) = walk_calm rest walk
  walk_calm p (Scans there stored rest walk) = walk_calm rest walk

  keys_calm : (keys : List K) (rest : List (Item K V E)) → HasTurns false rest → HasTurns false (map plan.Find keys ++ rest)
  keys_calm [] rest h = h
  keys_calm (key ∷ keys) rest h = keys_calm keys rest h

  form_calm : (rules : Rules) (p : List (Item K V E)) → IsFresh rules p → HasTurns false p
  form_calm rules p (Disabled a d plain) = tt
  form_calm rules p (Walks_over parts able) = walk_calm p (walk_is_walk 0 parts)
  form_calm rules p _ = tt

  -- ---- a step

  -- what a step has to show
  record Turns (turn : Option ℕ) (n : ℕ) (new : Option ℕ) (left : Option (Call K V E)) : Type 0 where
    fits : TurnFits new n (plan_left left)
    mid : InTurn (plan_left left) → IsMid left
    others : (m : ℕ) → (n == m) ≡ false → (new ≡ Some m) ↔ (turn ≡ Some m)

  -- the call that has the turn is one that finds it free, and no other
  free_other : (d : DeskPart K V E) (n m : ℕ) → is_free_for d n ≡ true → (n == m) ≡ false → d.turn ≢ Some m
  free_other d n m free h e = false≢true (sym (other_number n m h) ∙ sym (ap (λ o. option_map_or (λ v. v == n) o true) e) ∙ free)

  module _ (turn : Option ℕ) (n : ℕ) where
    calm : {left : Option (Call K V E)} → HasTurns false (plan_left left) → turn ≢ Some n → Turns turn n turn left
    calm {left = l} h not = record {
      fits = calm_fits turn n (plan_left l) h not;
      mid = λ t. absurd (calm_not (plan_left l) h t);
      others = λ m d. (λ e. e, λ e. e);
    }

  module _ (eq : K → K → Bool) (w : World K V E) (n : ℕ) (c : Call K V E) where
    abbrev Leaves : World K V E → Next K V E → Type 0
    Leaves new next = Turns w.desk.turn n new.desk.turn next.left

    on_item : (item : Item K V E) (rest : List (Item K V E)) → c.plan ≡ item ∷ rest → TurnFits w.desk.turn n (item ∷ rest) →
        Outcomes eq Leaves w n c item rest
    on_item plan.Drain rest e q = (
      λ none. calm _ n (goes_calm c rest q.first) q.has,
      λ x xs some. calm _ n q.first q.has,
      λ x number xs some. calm _ n q.first q.has,
    )
    on_item (plan.Ended number) rest e q =
        let c_calm : HasTurns false c.plan = subst (HasTurns false) (sym e) q.first in
        (λ ended. calm _ n (goes_calm c rest q.first) q.has, λ runs. calm _ n c_calm q.has)
    on_item plan.Heard rest e q =
        let c_calm : HasTurns false c.plan = subst (HasTurns false) (sym e) q.first in
        (λ ended. calm _ n (goes_calm c rest q.first) q.has, λ runs. calm _ n c_calm q.has)
    on_item (plan.Lock key) rest e q =
        let c_calm : HasTurns false c.plan = subst (HasTurns false) (sym e) q.first in
        (λ free. calm _ n (goes_calm c rest q.first) q.has, λ held. calm _ n c_calm q.has)
    on_item (plan.Notice key old cause upsert) rest e q = (
      λ off. calm _ n (goes_calm c rest q.first) q.has,
      λ on. calm _ n
          q.first q.has,
    )
    on_item (plan.Post write) rest e q = (
      λ room. calm _ n (goes_calm c rest q.first) q.has,
      λ full. record {
        fits = record { first = q.first; has = λ h. absurd (q.has h); applies = λ t. absurd t };
        mid = λ t. absurd t;
        others = λ m d. (λ e. e, λ e. e);
      },
    )
    on_item plan.Turn rest e q = (
      λ free. record {
        fits = goes_fits (Some n) n c rest (record { first = in_first rest q.first; has = λ h. q.first; applies = λ t. refl });
        mid = goes_mid c rest;
        others = λ m d. (λ h. absurd (differ_not n m d (some_same h)), λ h. absurd (free_other w.desk n m free d h));
      },
      λ taken. record { fits = subst (TurnFits w.desk.turn n) (sym e) q; mid = λ t. absurd (subst InTurn e t); others = λ m d. (λ e. e, λ e. e) },
    )
    on_item plan.Apply rest e q = (
      λ none. record {
        fits = goes_fits w.desk.turn n c rest (record { first = in_first rest q.first; has = q.has; applies = q.applies });
        mid = goes_mid c rest;
        others = λ m d. (λ e. e, λ e. e);
      },
      λ x xs some. record { fits = record { first = q.first; has = q.has; applies = q.applies }; mid = λ t. refl; others = λ m d. (λ e. e, λ e. e) },
    )
    on_item plan.End rest e q = record {
      fits = calm_fits None n (plan_left (goes c rest).left) (goes_calm c rest q.first) none_some;
      mid = λ t. absurd (calm_not (plan_left (goes c rest).left) (goes_calm c rest q.first) t);
      others = λ m d. (λ h. absurd (none_some h), λ h. absurd (differ_not n m d (some_same (sym (q.applies q.first) ∙ h))));
    }
    on_item (plan.Get aim key) rest e q =
        let c_calm : HasTurns false c.plan = subst (HasTurns false) (sym e) q.first in (
          (λ more. calm _ n c_calm q.has),
          (λ none. calm _ n (misses_calm c aim) q.has),
          λ k stored some. calm _ n (finds_calm c aim k stored) q.has,
        )
    on_item (plan.Judge aim key stored) rest e q =
        let c_calm : HasTurns false c.plan = subst (HasTurns false) (sym e) q.first in (
          (λ seen. calm _ n (hits_calm c aim key stored.value c_calm) q.has),
          λ unseen. calm _ n (misses_calm c aim) q.has,
        )
    on_item (plan.Own sought) rest e q = (
      λ able none. calm _ n tt q.has,
      λ disabled none. calm _ n tt q.has,
      λ owner some. calm _ n tt q.has,
    )
    on_item (plan.Own_key compute) rest e q = (
      ((λ able none. calm _ n tt q.has), λ disabled none. calm _ n tt q.has),
      λ owner some. calm _ n tt q.has,
    )
    on_item (plan.Own_alone key) rest e q = (
      ((λ able none. calm _ n tt q.has), λ disabled none. calm _ n tt q.has),
      λ owner some. ((λ able. calm _ n tt q.has), λ not. calm _ n tt q.has),
    )
    on_item (plan.Read sought) rest e q =
        let c_calm : HasTurns false c.plan = subst (HasTurns false) (sym e) q.first in
        (λ none. calm _ n c_calm q.has, λ with some. calm _ n (read_calm c sought with c_calm) q.has)
    on_item (plan.Read_key compute) rest e q =
        let c_calm : HasTurns false c.plan = subst (HasTurns false) (sym e) q.first in (
          λ none. calm _ n c_calm q.has,
          λ with some. calm _ n (read_key_calm c compute with c_calm) q.has,
        )
    on_item (plan.Ask load) rest e q = calm _ n tt q.has
    on_item (plan.Ask_op compute pair) rest e q = calm _ n tt q.has
    on_item (plan.Told load) rest e q =
        let c_calm : HasTurns false c.plan = subst (HasTurns false) (sym e) q.first in
        (λ none. calm _ n c_calm q.has, λ given some. calm _ n (told_calm c load given c_calm) q.has)
    on_item (plan.Told_op compute pair) rest e q =
        let c_calm : HasTurns false c.plan = subst (HasTurns false) (sym e) q.first in (
          λ none. calm _ n c_calm q.has,
          λ given some. calm _ n (told_op_calm c compute pair given c_calm) q.has,
        )
    on_item (plan.Holds key stamp cause there stored) rest e q =
        (λ holds. calm _ n tt q.has, λ not. calm _ n (keeps_calm c) q.has)
    on_item (plan.Moment (plan.To_store key value)) rest e q = calm _ n
        q.first q.has
    on_item (plan.Moment (plan.To_take_out removal key)) rest e q = calm _ n
        q.first q.has
    on_item (plan.Write key value moment) rest e q =
        let c_calm : HasTurns false c.plan = subst (HasTurns false) (sym e) q.first in (
          (λ more. calm _ n c_calm q.has),
          (λ off old. calm _ n q.first q.has),
          (λ on. calm _ n q.first q.has),
          λ k old on some. calm _ n q.first q.has,
        )
    on_item (plan.Out removal key) rest e q =
        let c_calm : HasTurns false c.plan = subst (HasTurns false) (sym e) q.first in (
          (λ more. calm _ n c_calm q.has),
          (λ off none. calm _ n (said_next (λ v. HasTurns false (plan_left v.left)) c (λ q. plan.Idle ∷ q) removal (nothing_answer removal) tt tt) q.has),
          (λ on none. calm _ n (said_next (λ v. HasTurns false (plan_left v.left)) c (λ q. plan.Unlock false ∷ q) removal (nothing_answer removal) tt tt) q.has),
          (λ k old off some. calm _ n (said_next (λ v. HasTurns false (plan_left v.left)) c (λ q. plan.Post (Remove n old.stamp) ∷ q) removal (removed_answer removal old.value) tt tt) q.has),
          λ k old on some. calm _ n (said_next (λ v. HasTurns false (plan_left v.left)) c (λ q. plan.Notice key old (cause_handed removal) false ∷ plan.Unlock true ∷ plan.Post (Remove n old.stamp) ∷ q) removal (removed_answer removal old.value) tt tt) q.has,
        )
    on_item (plan.List_keys part) rest e q =
        let c_calm : HasTurns false c.plan = subst (HasTurns false) (sym e) q.first in (
          (λ more. calm _ n c_calm q.has),
          λ listed keys is gives. calm _ n
              (goes_calm c (map plan.Find keys ++ rest) (keys_calm keys rest q.first)) q.has,
        )
    on_item (plan.Find key) rest e q =
        let c_calm : HasTurns false c.plan = subst (HasTurns false) (sym e) q.first in (
          (λ more. calm _ n c_calm q.has),
          (λ none. calm _ n (goes_calm c rest q.first) q.has),
          (λ k stored some none. calm _ n q.first q.has),
          λ k stored ids some is. calm _ n q.first q.has,
        )
    on_item (plan.Scan there stored) rest e q =
        ((λ seen. calm _ n q.first q.has), λ unseen. calm _ n (goes_calm c rest q.first) q.has)
    on_item (plan.Register test) rest e q = calm _ n tt q.has
    on_item (plan.Candidates parts) rest e q = (
      (λ none. calm _ n tt q.has),
      λ id more some. calm _ n (goes_calm (carrying c (id ∷ more)) (lists_from 0 parts (plan.Retire ∷ [])) (walk_calm _ (retiring_walk parts))) q.has,
    )
    on_item (plan.Strike there stored) rest e q = calm _ n (goes_calm (carrying c _) rest q.first) q.has
    on_item plan.Retire rest e q = calm _ n tt q.has
    on_item (plan.Reply answer) rest e q = calm _ n tt q.has
    on_item _ rest e q = calm _ n (goes_calm c rest q.first) q.has

    on_plan : (plan : List (Item K V E)) → c.plan ≡ plan → TurnFits w.desk.turn n c.plan → OnStep eq Leaves w n c plan
    on_plan [] e f = calm _ n (subst (HasTurns false) (sym e) tt) (λ h. subst InTurn e (f.has h))
    on_plan (item ∷ rest) e f = outcomes eq Leaves w n c item rest (on_item item rest e (subst (TurnFits w.desk.turn n) e f))

  -- ---- of a state

  -- Whoever has the turn is a live call in the midst of it.
  pub record IsTurning (s : State K V E) : Type 0 where
    pub balanced : IsBalanced s
    pub fits : (n : ℕ) → TurnFits s.world.desk.turn n (plan_left (s.calls n))
    pub mid : (n : ℕ) → InTurn (plan_left (s.calls n)) → IsMid (s.calls n)

  turns : (s : State K V E) (n : ℕ) (w : World K V E) (left : Option (Call K V E)) → IsTurning s → Turns s.world.desk.turn n w.desk.turn left →
      let t : State K V E = record { world = w; calls = put_at s.calls n left } in
      IsBalanced t → IsTurning t
  turns s n w left i b balanced = record { balanced = balanced; fits = λ m. fit m (n == m) refl; mid = λ m. between m (n == m) refl }
    where
      fit : (m : ℕ) (t : Bool) → (n == m) ≡ t → TurnFits w.desk.turn m (plan_left (put_at s.calls n left m))
      fit m true e =
          subst (λ v. TurnFits w.desk.turn v (plan_left (put_at s.calls n left v))) (eqb-true n m e)
          (subst (λ v. TurnFits w.desk.turn n (plan_left v)) (sym (put_here s.calls n left)) b.fits)
      fit m false e =
          let was = i.fits m in
          subst (λ v. TurnFits w.desk.turn m (plan_left v)) (sym (put_there s.calls n left m e))
          (record { first = was.first; has = λ h. was.has ((b.others m e).0 h); applies = λ t. (b.others m e).1 (was.applies t) })

      between : (m : ℕ) (t : Bool) → (n == m) ≡ t → InTurn (plan_left (put_at s.calls n left m)) → IsMid (put_at s.calls n left m)
      between m true e =
          subst (λ v. InTurn (plan_left (put_at s.calls n left v)) → IsMid (put_at s.calls n left v)) (eqb-true n m e)
          (subst (λ v. InTurn (plan_left v) → IsMid v) (sym (put_here s.calls n left)) b.mid)
      between m false e = subst (λ v. InTurn (plan_left v) → IsMid v) (sym (put_there s.calls n left m e)) (i.mid m)

module _ {K V E : Type 0} (eq : K → K → Bool) where
  turning_step : (s t : State K V E) (n : ℕ) (turn : Turn K V E) → IsTurning s → Step eq s n turn t → IsTurning t
  turning_step s t n turn i step =
      let c : Call K V E = step.call in
      let fits : TurnFits s.world.desk.turn n c.plan = subst (λ v. TurnFits s.world.desk.turn n (plan_left v)) step.live (i.fits n) in
      let kept : IsBalanced t → IsTurning t =
      step_cases eq (λ new next. Turns s.world.desk.turn n new.desk.turn next.left) (λ v _. IsBalanced v → IsTurning v) s t n turn step
      (on_plan eq s.world n c c.plan refl fits) (λ w next b. turns s n w next.left i b) in
      kept ((balanced_kept eq).step s t n turn i.balanced step)

  pub turning_kept : IsInvariant eq (IsTurning {K = K} {V = V} {E = E})
  turning_kept = record {
    fresh = λ division divides rules size built has_log. record {
      balanced = (balanced_kept eq).fresh division divides rules size built has_log;
      fits = λ n. record { first = tt; has = λ e. absurd (none_some e); applies = λ t. absurd t };
      mid = λ n t. t;
    };
    at = λ s moment i. record { balanced = (balanced_kept eq).at s moment i.balanced; fits = i.fits; mid = i.mid };
    start = λ s start i.
        let new : ℕ = s.world.desk.last + 1 in
        let free : plan_left (s.calls new) ≡ [] = ap plan_left (next_free s i.balanced) in
        turns s new _ (Some (fresh_call s.world.table.division.parts s.world.desk.rules start)) i
        (calm s.world.desk.turn new (form_calm s.world.desk.rules _ (fresh_plan s.world.table.division.parts s.world.desk.rules start)) (λ e. subst InTurn free ((i.fits new).has e)))
        ((balanced_kept eq).start s start i.balanced);
    step = turning_step;
    tell = λ s n given asked i. record { balanced = (balanced_kept eq).tell s n given asked i.balanced; fits = i.fits; mid = i.mid };
    hear = λ s n off running i.
        record { balanced = (balanced_kept eq).hear s n off running i.balanced; fits = i.fits; mid = i.mid };
    drop = λ s n c live between i.
        let idle : s.world.desk.turn ≢ Some n = λ e. between (subst IsMid live (i.mid n ((i.fits n).has e))) in
        turns s n _ None i (calm s.world.desk.turn n tt idle) ((balanced_kept eq).drop s n c live between i.balanced);
  }

  in_applies : (plan : List (Item K V E)) → InTurn plan → IsApplying plan
  in_applies (plan.Apply ∷ rest) h = in_applies rest h
  in_applies (plan.End ∷ rest) h = tt
  in_applies [] h = h
  in_applies (_ ∷ rest) h = absurd h

  applies_in : (plan : List (Item K V E)) → TurnsFirst plan → IsApplying plan → InTurn plan
  applies_in (plan.Apply ∷ rest) f h = f
  applies_in (plan.End ∷ rest) f h = f
  applies_in [] f h = h
  applies_in (_ ∷ rest) f h = absurd h

  -- a call that is in a turn has it
  holds : (s : State K V E) (n : ℕ) (o : Option (Call K V E)) → s.calls n ≡ o → InTurn (plan_left o) → IsMid o → AppliesLog s n
  holds s n None e t m = absurd t
  holds s n (Some c) e t m = record { call = c; live = e; between = m; applying = in_applies c.plan t }

  pub in_turning : (s : State K V E) → IsReached eq s → IsTurning s
  in_turning s h = in_reached eq IsTurning turning_kept s h

  pub turn_held : TurnIsHeld K V E eq
  turn_held s n h =
      let i : IsTurning s = in_turning s h in (
        λ e. let t = (i.fits n).has e in holds s n (s.calls n) refl t (i.mid n t),
        λ k.
            let f = subst (λ v. TurnFits s.world.desk.turn n (plan_left v)) k.live (i.fits n) in
            f.applies (applies_in k.call.plan f.first k.applying),
      )
