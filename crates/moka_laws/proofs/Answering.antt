-- Live calls have still something to do, and what others wait for is an answer.
use Rattle.std.proofs.Common.{◌≡◌, ◌≢◌, ℕ, ◌+◌, ◌==◌, Bool, true, false, cond, List, [], ◌∷◌, Option, Some, None, refl, ◌∙◌, subst, ◌++◌, map}
use Rattle.moka_hist.specs.Finite.{put_at}
use Rattle.moka_hist.specs.State.{State, World, Call, DeskPart}
use Rattle.moka_hist.specs.Plan.{Item, Aim, held_by, plan_of, lists_from}
use Rattle.moka_hist.specs.Plan as plan
use Rattle.moka_hist.specs.Visits.{settlement_for, settled_with, settled_without}
use Rattle.moka_hist.specs.Next.{Next, goes}
use Rattle.moka_hist.specs.Looking.{hits, misses, keeps, finds_pair}
use Rattle.moka_hist.specs.Loading.{after_read, after_told, after_abort, retries}
use Rattle.std.specs.Option.{option_and_then, option_map_or}
use Rattle.std.proofs.lemmas.Bool.{false≢true}
use Rattle.moka_hist.specs.Telling.{does_take}
use Rattle.moka_hist.specs.declared.visits.Takes.{Takes}
use Rattle.moka_hist.specs.Step.{Step, state_after}
use Rattle.moka_hist.specs.Run.{IsReached, fresh_call}
use Rattle.moka_hist.specs.declared.rules.Rules.{Rules}
use Rattle.moka_hist.specs.declared.events.Told.{Told}
use Rattle.moka_hist.specs.declared.events.Told.TheVariants as answer
use Rattle.moka_hist.specs.declared.loads.Load.{Load}
use Rattle.moka_hist.specs.declared.loads.Sought.{Sought}
use Rattle.moka_hist.specs.declared.records.Stored.{Stored}
use Rattle.moka_hist.specs.declared.visits.Settled.{Settled}
use Rattle.moka_hist.specs.declared.visits.Settled.TheVariants as settled
use Rattle.moka_hist.specs.declared.visits.Found.TheVariants as found
use Rattle.moka_hist.specs.declared.accesses.Turn.{Turn}
use Rattle.moka_hist.specs.Writing.{cause_handed, nothing_answer, removed_answer}
use Rattle.moka_hist.specs.declared.writes.Write.TheVariants.{Remove}
use Rattle.moka_laws.proofs.Rules.{put_plans, loaded_plans, kept_next, chosen_next, IsFresh, Disabled, fresh_plan, read_key_next, told_op_next, said_next, Walks_over}
use Rattle.moka_laws.proofs.Counting.{none_some, put_cases}
use Rattle.moka_laws.proofs.Kept.{IsInvariant, in_reached}
use Rattle.moka_laws.proofs.StepCases.{OnStep, step_cases}
use Rattle.moka_laws.proofs.Outcomes.{Outcomes, outcomes, passes_by}
use Rattle.moka_laws.proofs.Walks.{Ends, Finds, IsWalk, Lists, Scans, walk_is_walk, Chooses, Retires, Strikes, retiring_walk}
use Rattle.moka_hist.specs.Maintenance.{carrying}

kept_or : {A : Type 0} (b : Bool) (x y : A) (P : A → Type 0) → P x → P y → P (cond b x y)
kept_or true x y P p q = p
kept_or false x y P p q = q

-- what is told, if anything, is what an initializer gives
abbrev pub IsGiven : {V E : Type 0} → Option (Told V E) → Type 0
IsGiven (Some answer.Done) = ⊥
IsGiven (Some answer.Off) = ⊥
IsGiven _ = Unit {0}

-- what a call's ask takes is what an initializer gives
given_by : {V E : Type 0} (asked : Option Takes) (given : Told V E) →
    option_map_or (λ a. does_take a given) asked false ≡ true → IsGiven (Some given)
given_by None answer.Done e = absurd (false≢true e)
given_by (Some a) answer.Done e = absurd (false≢true e)
given_by None answer.Off e = absurd (false≢true e)
given_by (Some a) answer.Off e = absurd (false≢true e)
given_by asked _ e = tt

none_told : {V E : Type 0} (x : ℕ) (f : ℕ → Option (Told V E)) (n : ℕ) → IsGiven (f x) → IsGiven (put_at f n None x)
none_told x f n h = kept_or (n == x) None (f x) IsGiven tt h

-- no owner is kept as not yet settled, and no answer of a listener is told to a call
pub record AnswersKept {V E : Type 0} (kept : ℕ → Option (Settled V E)) (given : ℕ → Option (Told V E)) : Type 0 where
  pub settled : (x : ℕ) → kept x ≢ Some settled.NotYet
  pub told : (x : ℕ) → IsGiven (given x)

module _ {K V E : Type 0} where
  -- the plan ends with an item that answers or says how the call goes on, and all owners are settled with an answer
  abbrev pub EndsWell : List (Item K V E) → Type 0
  EndsWell [] = ⊥
  EndsWell (plan.Get aim key ∷ rest) = Unit {0}
  EndsWell (plan.Judge aim key stored ∷ rest) = Unit {0}
  EndsWell (plan.Own sought ∷ rest) = Unit {0}
  EndsWell (plan.Read sought ∷ rest) = Unit {0}
  EndsWell (plan.Ask load ∷ rest) = Unit {0}
  EndsWell (plan.Told load ∷ rest) = Unit {0}
  EndsWell (plan.Own_key compute ∷ rest) = Unit {0}
  EndsWell (plan.Own_alone key ∷ rest) = Unit {0}
  EndsWell (plan.Read_key compute ∷ rest) = Unit {0}
  EndsWell (plan.Ask_op compute pair ∷ rest) = Unit {0}
  EndsWell (plan.Told_op compute pair ∷ rest) = Unit {0}
  EndsWell (plan.Holds key stamp cause there stored ∷ rest) = Unit {0}
  EndsWell (plan.Moment (plan.To_take_out removal key) ∷ rest) = Unit {0}
  EndsWell (plan.Out removal key ∷ rest) = Unit {0}
  EndsWell (plan.Register test ∷ rest) = Unit {0}
  EndsWell (plan.Candidates parts ∷ rest) = Unit {0}
  EndsWell (plan.Retire ∷ rest) = Unit {0}
  EndsWell (plan.Reply answer ∷ rest) = Unit {0}
  EndsWell (plan.Settle settled.NotYet ∷ rest) = ⊥
  EndsWell (_ ∷ rest) = EndsWell rest

  -- the same of a call that may have ended
  abbrev LeftWell : Option (Call K V E) → Type 0
  LeftWell None = Unit {0}
  LeftWell (Some c) = EndsWell c.plan

  -- what the desk keeps for those that wait
  abbrev pub HasAnswers : DeskPart K V E → Type 0
  HasAnswers d = AnswersKept d.settled d.told

  pub record IsAnswering (s : State K V E) : Type 0 where
    pub calls : (n : ℕ) (c : Call K V E) → s.calls n ≡ Some c → EndsWell c.plan
    pub desk : HasAnswers s.world.desk

  goes_well : (c : Call K V E) (rest : List (Item K V E)) → EndsWell rest → LeftWell (goes c rest).left
  goes_well c (plan.Reply a ∷ []) h = tt
  goes_well c _ h = h

  walk_ends : (p : List (Item K V E)) → IsWalk p → EndsWell p
  walk_ends p Ends = tt
  walk_ends p Retires = tt
  walk_ends p (Chooses parts) = tt
  walk_ends p (Strikes there stored rest walk) = walk_ends rest walk
  walk_ends p (Lists part rest walk) = walk_ends rest walk
  walk_ends p (Finds key rest walk) = walk_ends rest walk
  walk_ends p (Scans there stored rest walk) = walk_ends rest walk

  finds_end : (keys : List K) (rest : List (Item K V E)) → EndsWell rest → EndsWell (map plan.Find keys ++ rest)
  finds_end [] rest h = h
  finds_end (key ∷ keys) rest h = finds_end keys rest h

  fresh_ends : (rules : Rules) (p : List (Item K V E)) → IsFresh rules p → EndsWell p
  fresh_ends rules p (Disabled a d plain) = tt
  fresh_ends rules p (Walks_over parts able) = walk_ends p (walk_is_walk 0 parts)
  fresh_ends rules p _ = tt

  keeps_well : (c : Call K V E) → LeftWell (keeps c).left
  keeps_well c = kept_next (λ v. LeftWell v.left) c (λ off. tt) (λ on. tt)

  misses_well : (c : Call K V E) (aim : Aim K V) → LeftWell (misses c aim).left
  misses_well c (plan.To_insert key value) =
      put_plans (λ p. LeftWell (goes c p).left) c.rules key value _ tt tt
  misses_well c (plan.To_evict key stamp cause) = keeps_well c
  misses_well c _ = tt

  finds_well : (c : Call K V E) (aim : Aim K V) (k : K) (stored : Stored V) →
      LeftWell (finds_pair c aim k stored).left
  finds_well c (plan.To_evict key stamp cause) k stored =
      chosen_next (λ v. LeftWell v.left) c key stamp cause k stored (λ off. tt) (λ on. tt) tt
  finds_well c _ k stored = tt

  hits_well : (c : Call K V E) (aim : Aim K V) (there : K) (value : V) → EndsWell c.plan →
      LeftWell (hits c aim there value).left
  hits_well c (plan.To_evict key stamp cause) there value h = h
  hits_well c _ there value h = tt

  read_well : (c : Call K V E) (sought : Sought K) (with : Settled V E) → EndsWell c.plan →
      LeftWell (after_read c sought (found.ReadSettled with)).left
  read_well c sought settled.NotYet h = h
  read_well c sought settled.Aborted h = by (c.aborts + 1 == retries) refl
    where
      by : (b : Bool) → (c.aborts + 1 == retries) ≡ b → LeftWell (after_abort c sought).left
      by true e = rw e tt
      by false e = rw e tt
  read_well c sought _ h = tt

  told_well : (c : Call K V E) (load : Load K) (given : Told V E) → EndsWell c.plan →
      LeftWell (after_told c load (found.TakeTold (Some given))).left
  told_well c load (answer.Value value) h =
      loaded_plans (λ p. LeftWell (goes c p).left) c.rules load value tt tt tt
  told_well c load answer.Nothing h = tt
  told_well c load (answer.Err error) h = tt
  told_well c load _ h = h

  -- ---- what is told and settled

  pub some_ready : (with : Settled V E) (rest : List (Item K V E)) → EndsWell (plan.Settle with ∷ rest) →
      (Some with ≢ Some settled.NotYet) × EndsWell rest
  some_ready settled.NotYet rest h = absurd h
  some_ready _ rest h = (λ e. cc, h)

  settles_with : (d : DeskPart K V E) (n : ℕ) (with : Settled V E) (kept : ℕ → Option (Settled V E)) (x : ℕ) → Some with ≢ Some settled.NotYet →
      kept x ≢ Some settled.NotYet → settled_with d n with kept x ≢ Some settled.NotYet
  settles_with d n with kept x h k = kept_or _ (Some with) (kept x) (λ v. v ≢ Some settled.NotYet) h k

  settles_without : (d : DeskPart K V E) (n : ℕ) (x : ℕ) → d.settled x ≢ Some settled.NotYet → settled_without d n x ≢ Some settled.NotYet
  settles_without d n x h = kept_or _ None (d.settled x) (λ v. v ≢ Some settled.NotYet) none_some h

  -- an owner's settlement is an answer
  pub settlement_ready : (d : DeskPart K V E) (n : ℕ) (with : Settled V E) → HasAnswers d → settlement_for d n ≡ Some with →
      Some with ≢ Some settled.NotYet
  settlement_ready d n with has e = by (d.joined n) e
    where
      by : (o : Option ℕ) → option_and_then d.settled o ≡ Some with → Some with ≢ Some settled.NotYet
      by None e = absurd (none_some e)
      by (Some owner) e = λ h. has.settled owner (e ∙ h)

  -- what a step has to show
  abbrev Leaves : World K V E → Next K V E → Type 0
  Leaves new next = LeftWell next.left × HasAnswers new.desk

  module _ (eq : K → K → Bool) (w : World K V E) (n : ℕ) (c : Call K V E) (d : HasAnswers w.desk) where
    on_item : (item : Item K V E) (rest : List (Item K V E)) → EndsWell (item ∷ rest) → EndsWell c.plan → Outcomes eq Leaves w n c item rest
    on_item plan.Drain rest h p = (λ e. ((goes_well c rest h), d), (λ x xs e. (h, d)), λ x number xs e. (h, d))
    on_item (plan.Notice key old cause upsert) rest h p =
        ((λ e. (goes_well c rest h, d)), λ e. (h, d))
    on_item (plan.Post write) rest h p = (λ e. ((goes_well c rest h), d), λ e. (h, d))
    on_item plan.Apply rest h p = (λ e. ((goes_well c rest h), d), λ x xs e. (h, d))
    on_item (plan.Get aim key) rest h p = (
      (λ more. (p, d)),
      (λ none. (misses_well c aim, d)),
      λ k stored some. (finds_well c aim k stored, d),
    )
    on_item (plan.Judge aim key stored) rest h p =
        ((λ seen. (hits_well c aim key stored.value p, d)), λ unseen. (misses_well c aim, d))
    on_item (plan.Own sought) rest h p = ((λ able e. (tt, d)), (λ not e. (tt, d)), λ owner e. (tt, d))
    on_item (plan.Own_key compute) rest h p =
        (((λ able e. (tt, d)), λ not e. (tt, d)), λ owner e. (tt, d))
    on_item (plan.Own_alone key) rest h p =
        (((λ able e. (tt, d)), λ not e. (tt, d)), λ owner e. ((λ able. (tt, d)), λ not. (tt, d)))
    on_item (plan.Read sought) rest h p = (
      λ e. (p, d),
      λ with e. (read_well c sought with p, record { settled = λ x. settles_without w.desk n x (d.settled x); told = d.told }),
    )
    on_item (plan.Read_key compute) rest h p = (
      λ e. (p, d),
      λ with e. (read_key_next (λ v. LeftWell v.left) c compute with p tt, record { settled = λ x. settles_without w.desk n x (d.settled x); told = d.told }),
    )
    on_item (plan.Settle with) rest h p =
        let ready = some_ready with rest h in
        (goes_well c rest ready.1, record { settled = λ x. settles_with w.desk n with w.desk.settled x ready.0 (d.settled x); told = d.told })
    on_item (plan.Ask load) rest h p = (tt, record { settled = d.settled; told = λ x. none_told x w.desk.told n (d.told x) })
    on_item (plan.Ask_op compute pair) rest h p =
        (tt, record { settled = d.settled; told = λ x. none_told x w.desk.told n (d.told x) })
    on_item (plan.Told load) rest h p = (
      λ e. (p, d),
      λ given e. (told_well c load given p, record { settled = d.settled; told = λ x. none_told x w.desk.told n (d.told x) }),
    )
    on_item (plan.Told_op compute pair) rest h p = (
      λ e. (p, d),
      λ given e. (
        told_op_next (λ v. LeftWell v.left) c compute pair given
            (λ a. tt) (λ v able off. tt) (λ v able on. tt) (λ off. tt) (λ on. tt) p,
        record { settled = d.settled; told = λ x. none_told x w.desk.told n (d.told x) },
      ),
    )
    on_item (plan.Holds key stamp cause there stored) rest h p =
        ((λ e. (tt, d)), λ e. (keeps_well c, d))
    on_item (plan.Moment (plan.To_store key value)) rest h p = (h, d)
    on_item (plan.Moment (plan.To_take_out removal key)) rest h p = (tt, d)
    on_item (plan.Write key value moment) rest h p = ((λ more. (p, d)), (λ off old. (h, d)), (λ on. (h, d)), λ k old on some. (h, d))
    on_item (plan.Out removal key) rest h p = (
      (λ more. (p, d)),
      (λ off none. (said_next (λ v. LeftWell v.left) c (λ q. plan.Idle ∷ q) removal (nothing_answer removal) tt tt, d)),
      (λ on none. (said_next (λ v. LeftWell v.left) c (λ q. plan.Unlock false ∷ q) removal (nothing_answer removal) tt tt, d)),
      (λ k old off some. (said_next (λ v. LeftWell v.left) c (λ q. plan.Post (Remove n old.stamp) ∷ q) removal (removed_answer removal old.value) tt tt, d)),
      λ k old on some. (
        said_next (λ v. LeftWell v.left) c (λ q. plan.Notice key old (cause_handed removal) false ∷ plan.Unlock true ∷ plan.Post (Remove n old.stamp) ∷ q)
            removal (removed_answer removal old.value) tt tt,
        d,
      ),
    )
    on_item (plan.List_keys part) rest h p =
        ((λ more. (p, d)), λ listed keys e gives. (goes_well c (map plan.Find keys ++ rest) (finds_end keys rest h), d))
    on_item (plan.Find key) rest h p =
        ((λ more. (p, d)), (λ none. (goes_well c rest h, d)), (λ k stored some none. (h, d)), λ k stored ids some is. (h, d))
    on_item (plan.Scan there stored) rest h p = ((λ seen. (h, d)), λ unseen. (goes_well c rest h, d))
    on_item (plan.Register test) rest h p = (tt, d)
    on_item (plan.Candidates parts) rest h p = (
      (λ none. (tt, d)),
      λ id more some. (goes_well (carrying c (id ∷ more)) (lists_from 0 parts (plan.Retire ∷ [])) (walk_ends _ (retiring_walk parts)), d),
    )
    on_item (plan.Strike there stored) rest h p = (goes_well (carrying c _) rest h, d)
    on_item plan.Retire rest h p = (tt, d)
    on_item (plan.Reply answer) rest h p = (tt, d)
    on_item item rest h p = passes_by eq Leaves w n c item rest tt
        (λ b a. (goes_well c rest h, rw (a.settled, a.told) d)) (p, d)

    on_plan : (plan : List (Item K V E)) → c.plan ≡ plan → EndsWell c.plan → OnStep eq Leaves w n c plan
    on_plan [] e p = (p, d)
    on_plan (item ∷ rest) e p = outcomes eq Leaves w n c item rest (on_item item rest (rw e at p) p)

module _ {K V E : Type 0} (eq : K → K → Bool) where
  leaves : (s : State K V E) (n : ℕ) (w : World K V E) (next : Next K V E) → IsAnswering s → LeftWell next.left × HasAnswers w.desk →
      IsAnswering (state_after s n w next)
  leaves s n w next i h = record {
    calls = λ m c live. put_cases s.calls n next.left m (Some c) (EndsWell c.plan) live (λ here is. subst LeftWell is h.0)
        (λ there is. i.calls m c is);
    desk = h.1;
  }

  answering_step : (s t : State K V E) (n : ℕ) (turn : Turn K V E) → IsAnswering s → Step eq s n turn t → IsAnswering t
  answering_step s t n turn i step =
      step_cases eq Leaves (λ v _. IsAnswering v) s t n turn step
      (on_plan eq s.world n step.call i.desk step.call.plan refl (i.calls n step.call step.live)) (λ w next. leaves s n w next i)

  pub answering_kept : IsInvariant eq (IsAnswering {K = K} {V = V} {E = E})
  answering_kept = record {
    fresh = λ division divides rules size built has_log. record { calls = λ n c live. absurd (none_some live); desk = record { settled = λ x. none_some; told = λ x. tt } };
    at = λ s moment i. record { calls = i.calls; desk = i.desk };
    start = λ s start i. record {
      calls = λ n c live.
          put_cases s.calls (s.world.desk.last + 1) (Some (fresh_call s.world.table.division.parts s.world.desk.rules start)) n (Some c) (EndsWell c.plan) live
          (λ here is. subst LeftWell is (fresh_ends s.world.desk.rules _ (fresh_plan s.world.table.division.parts s.world.desk.rules start)))
          (λ there is. i.calls n c is);
      desk = i.desk;
    };
    step = answering_step;
    tell = λ s n given asked i. record {
      calls = i.calls;
      desk = record {
        settled = i.desk.settled;
        told = λ x. kept_or (n == x) (Some given) (s.world.desk.told x) IsGiven
            (given_by (s.world.desk.asks n) given asked) (i.desk.told x);
      };
    };
    hear = λ s n off running i. record { calls = i.calls; desk = i.desk };
    drop = λ s n c live between i. record {
      calls = λ m b lives. put_cases s.calls n None m (Some b) (EndsWell b.plan) lives (λ here is. absurd (none_some is))
          (λ there is. i.calls m b is);
      desk = record {
        settled = λ x. settles_with s.world.desk n settled.Aborted (settled_without s.world.desk n) x (λ e. cc)
            (settles_without s.world.desk n x (i.desk.settled x));
        told = λ x. none_told x s.world.desk.told n (i.desk.told x);
      };
    };
  }

  pub answering : (s : State K V E) → IsReached eq s → IsAnswering s
  answering s h = in_reached eq IsAnswering answering_kept s h

  pub live_go_on : (s : State K V E) (n : ℕ) (c : Call K V E) → IsReached eq s → s.calls n ≡ Some c → c.plan ≢ []
  live_go_on s n c h live e = subst EndsWell e ((answering s h).calls n c live)
