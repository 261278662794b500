-- The poll of a load that has asked.
use Rattle.std.proofs.Common.{◌≡◌, ℕ, Bool, true, List, [], ◌∷◌, Some, None, refl, sym, ap, ◌∙◌, subst}
use Rattle.moka_hist.specs.State.{State, World, Call, DeskPart, TablePart}
use Rattle.moka_hist.specs.Plan.{Item, end_load, is_disabled, load_rest, loaded, told_on, under_lock}
use Rattle.moka_hist.specs.Plan as plan
use Rattle.moka_hist.specs.Visits.{settled_as, took_told}
use Rattle.moka_hist.specs.Next.{Next, goes}
use Rattle.moka_hist.specs.Loading.{after_told}
use Rattle.moka_hist.specs.declared.events.Told.{Told}
use Rattle.moka_hist.specs.declared.events.Told.TheVariants as told
use Rattle.moka_hist.specs.declared.loads.Load.{Load}
use Rattle.moka_hist.specs.declared.records.Mode.{Mode}
use Rattle.moka_hist.specs.declared.records.Mode.TheVariants as mode
use Rattle.moka_hist.specs.declared.replies.Answer.{Answer}
use Rattle.moka_hist.specs.declared.replies.Answer.TheVariants as answer
use Rattle.moka_hist.specs.declared.replies.Reply.TheVariants as reply
use Rattle.moka_hist.specs.declared.rules.Rules.{Rules}
use Rattle.moka_hist.specs.declared.visits.Found.TheVariants as found
use Rattle.moka_hist.specs.declared.visits.Settled.{Settled}
use Rattle.moka_hist.specs.declared.visits.Settled.TheVariants as settled
use Rattle.moka_laws.proofs.Counting.{some_same}
use Rattle.moka_laws.proofs.StepCases.{OnStep}
use Rattle.moka_laws.proofs.Outcomes.{outcomes, on_desk}
use Rattle.moka_polls.specs.Polls.{IsPlain, parked, stored_now}
use Rattle.moka_polls.specs.Loads.{ToldValue, ToldNothing, ToldError, NotTold, ending}
use Rattle.moka_polls.proofs.Phases.{IsAt, End, Ends, Goes, Steps, along, on, stops, to_do, poll_gives}
use Rattle.moka_polls.proofs.Putting.{Puts, Drains, puts_steps}

-- the plan of a load once it was told a value
plain_loaded : {K V E : Type 0} (rules : Rules) (load : Load K) (value : V) → IsPlain rules →
    loaded {E = E} rules load value ≡
    plan.Drain ∷ plan.Moment (plan.To_store load.key value) ∷ told_on value
plain_loaded {E = E} rules load value plain =
    ap (λ b. load_rest {E = E} b rules load.key value) plain.stores ∙
    ap (λ b. plan.Drain ∷ under_lock b load.key
    (plan.Moment (plan.To_store load.key value) ∷ told_on {E = E} value)) plain.unheard

module _ {K V E : Type 0} (eq : K → K → Bool) (s : State K V E) (n : ℕ) (c : Call K V E)
    (load : Load K) where
  -- the desk once the call has taken what it was told
  abbrev taken : DeskPart K V E
  taken = took_told s.world.desk n

  -- the end of a load that ends so, with this table
  abbrev ends_so : Settled V E → Answer K V E → TablePart K V → End K V E
  ends_so with a table = record {
    reply = reply.Answer a;
    left = None;
    table = table;
    desk = ending s.world.desk n with;
  }

  settles : (Phase : World K V E → List (Item K V E) → Type 0) (with : Settled V E)
      (a : Answer K V E) (table : TablePart K V) (w : World K V E) (m : Mode)
      (p : List (Item K V E)) → IsAt table taken w →
      OnStep eq (Goes c Phase (Ends (ends_so with a table))) w n (along c m p) (end_load with a)
  settles Phase with a table w m p at =
      outcomes eq (Goes c Phase (Ends (ends_so with a table))) w n (along c m p) (plan.Settle with)
      (plan.Reply a ∷ []) (stops c Phase (Ends (ends_so with a table)) _ _ (λ f. cc) (record {
        replies = refl;
        leaves = refl;
        found = record { table = at.table; desk = ap (λ v. settled_as v n with) at.desk };
      }))

  -- the call takes what it was told, and goes on from there
  takes : (Phase : World K V E → List (Item K V E) → Type 0)
      (Fin : World K V E → Next K V E → Type 0)
      (given : Told V E) → s.world.desk.told n ≡ Some given → (w : World K V E) (m : Mode)
      (p : List (Item K V E)) → IsAt s.world.table s.world.desk w →
      ((v : World K V E) → IsAt s.world.table taken v →
      Goes c Phase Fin v (after_told (along c m p) load (found.TakeTold (Some given)))) →
      OnStep eq (Goes c Phase Fin) w n (along c m p) (plan.Told load ∷ [])
  takes Phase Fin given is w m p at after =
      outcomes eq (Goes c Phase Fin) w n (along c m p) (plan.Told load) [] (
        λ none. absurd (cc here),
        λ other some. subst
            (λ x. Goes c Phase Fin took (after_told (along c m p) load (found.TakeTold (Some x))))
            (some_same (sym here ∙ some))
            (after took (record { table = at.table; desk = ap (λ v. took_told v n) at.desk })),
      )
    where
      took : World K V E
      took = on_desk eq w (took_told w.desk n)

      here : w.desk.told n ≡ Some given
      here = ap (λ v. v.told n) at.desk ∙ is

  -- ---- nothing, or an error

  data Ending (with : Settled V E) (a : Answer K V E) (w : World K V E) : List (Item K V E) → Type 0 where
    Takes : IsAt s.world.table s.world.desk w → Ending with a w (plan.Told load ∷ [])
    Settles : IsAt s.world.table (took_told s.world.desk n) w →
        Ending with a w (plan.Settle with ∷ plan.Reply a ∷ [])

  ending_steps : (given : Told V E) (with : Settled V E) (a : Answer K V E) →
      s.world.desk.told n ≡ Some given → ((b : Call K V E) →
      after_told b load (found.TakeTold (Some given)) ≡ goes b (end_load with a)) →
      Steps c (Ending with a) (Ends (ends_so with a s.world.table)) eq n
  ending_steps given with a is so w m p (Takes at) =
      takes (Ending with a) (Ends (ends_so with a s.world.table)) given is w m p at
      (λ v there. subst (Goes c (Ending with a) (Ends (ends_so with a s.world.table)) v)
      (sym (so (along c m p)))
      (on c (Ending with a) (Ends (ends_so with a s.world.table)) v mode.Mid _ (Settles there)))
  ending_steps given with a is so w m p (Settles at) =
      settles (Ending with a) with a s.world.table w m p at

  -- ---- a value

  abbrev table_with : V → TablePart K V
  table_with value = stored_now eq s n load.key value

  abbrev valued : V → End K V E
  valued value = ends_so (settled.Ready value) (answer.Loaded value true) (table_with value)

  data Storing (value : V) (w : World K V E) : List (Item K V E) → Type 0 where
    Valued : IsAt s.world.table s.world.desk w → Storing value w (plan.Told load ∷ [])
    Puts_it : (p : List (Item K V E)) →
        Puts eq s.world.table (took_told s.world.desk n) n load.key value (told_on value) w p →
        Storing value w p
    Told_on : IsAt (stored_now eq s n load.key value) (took_told s.world.desk n) w →
        Storing value w (plan.Settle (settled.Ready value) ∷
        plan.Reply (answer.Loaded value true) ∷ [])

  storing_steps : (value : V) → IsPlain c.rules → s.world.desk.turn ≡ None →
      s.world.desk.owed ≡ [] → s.world.desk.told n ≡ Some (told.Value value) →
      Steps c (Storing value) (Ends (valued value)) eq n
  storing_steps value plain free owes is w m p (Valued at) =
      takes (Storing value) (Ends (valued value)) (told.Value value) is w m p at
      (λ v there. subst (λ q. Goes c (Storing value) (Ends (valued value)) v (goes (along c m p) q))
      (sym (plain_loaded c.rules load value plain))
      (on c (Storing value) (Ends (valued value)) v mode.Mid _ (Puts_it _ (Drains there))))
  storing_steps value plain free owes is w m p (Puts_it q puts) =
      puts_steps eq n c (Storing value) (Ends (valued value)) s.world.table taken free owes plain.unheard
      load.key value (told_on value) (λ v r i. Puts_it r i)
      (λ v k r there. on c (Storing value) (Ends (valued value)) v mode.Mid _ (Told_on there)) w m p puts
  storing_steps value plain free owes is w m p (Told_on at) =
      settles (Storing value) (settled.Ready value) (answer.Loaded value true) (table_with value)
      w m p at

  -- ---- nothing yet

  data Untold (w : World K V E) : List (Item K V E) → Type 0 where
    Waits : IsAt s.world.table s.world.desk w → Untold w (plan.Told load ∷ [])

  abbrev waits_on : End K V E
  waits_on = record {
    reply = reply.Wait;
    left = Some (parked c (plan.Told load ∷ []));
    table = s.world.table;
    desk = s.world.desk;
  }

  waiting_steps : s.world.desk.told n ≡ None → Steps c Untold (Ends waits_on) eq n
  waiting_steps none w m p (Waits at) =
      outcomes eq (Goes c Untold (Ends waits_on)) w n (along c m p) (plan.Told load) [] (
        λ _. stops c Untold (Ends waits_on) _ _ (λ f. cc)
            (record { replies = refl; leaves = refl; found = at }),
        λ given some. absurd (cc here),
      )
    where
      here : w.desk.told n ≡ None
      here = ap (λ v. v.told n) at.desk ∙ none

module _ {K V E : Type 0} (eq : K → K → Bool) where
  pub told_value : ToldValue K V E eq
  told_value s new n c load value r quiet h rules is happens =
      poll_gives c (Storing eq s n c load value) (valued eq s n c load value) eq n
      (storing_steps eq s n c load value (subst IsPlain (sym rules) quiet.plain) quiet.free quiet.owes is)
      s new c.mode (plan.Told load ∷ []) r (to_do s n c _ h)
      (Valued (record { table = refl; desk = refl })) happens

  pub told_nothing : ToldNothing K V E eq
  told_nothing s new n c load r h is happens =
      poll_gives c (Ending eq s n c load settled.Nothing answer.Nothing) _ eq n
      (ending_steps eq s n c load told.Nothing settled.Nothing answer.Nothing is (λ b. refl))
      s new c.mode (plan.Told load ∷ []) r (to_do s n c _ h)
      (Takes (record { table = refl; desk = refl })) happens

  pub told_error : ToldError K V E eq
  told_error s new n c load error r h is happens =
      poll_gives c (Ending eq s n c load (settled.Err error) (answer.InitErr error)) _ eq n
      (ending_steps eq s n c load (told.Err error) (settled.Err error) (answer.InitErr error) is
      (λ b. refl)) s new c.mode (plan.Told load ∷ []) r (to_do s n c _ h)
      (Takes (record { table = refl; desk = refl })) happens

  pub not_told : NotTold K V E eq
  not_told s new n c load r h none happens =
      poll_gives c (Untold eq s n c load) (waits_on eq s n c load) eq n
      (waiting_steps eq s n c load none) s new c.mode (plan.Told load ∷ []) r (to_do s n c _ h)
      (Waits (record { table = refl; desk = refl })) happens
