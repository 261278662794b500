-- The first poll of a load.
use Rattle.std.specs.Option.{option_and_then}
use Rattle.std.proofs.Common.{◌≡◌, ℕ, Bool, false, List, [], ◌∷◌, Option, Some, None, refl, sym, ap, ◌∙◌, subst}
use Rattle.std.proofs.lemmas.Bool.{false≢true}
use Rattle.moka_hist.specs.State.{State, World, Call, DeskPart}
use Rattle.moka_hist.specs.Plan.{Item, is_disabled, load_plan, plan_of}
use Rattle.moka_hist.specs.Plan as plan
use Rattle.moka_hist.specs.Visits.{claimed, opened, settlement_for}
use Rattle.moka_hist.specs.Step.{takes_of}
use Rattle.moka_hist.specs.Run.{fresh_call}
use Rattle.moka_hist.specs.declared.events.Start.{Start}
use Rattle.moka_hist.specs.declared.events.Start.TheVariants as start
use Rattle.moka_hist.specs.declared.loads.Sought.{Sought}
use Rattle.moka_hist.specs.declared.records.Mode.TheVariants as mode
use Rattle.moka_hist.specs.declared.replies.Answer.TheVariants as answer
use Rattle.moka_hist.specs.declared.replies.Ask.TheVariants as ask
use Rattle.moka_hist.specs.declared.replies.Reply.TheVariants as reply
use Rattle.moka_hist.specs.declared.rules.Rules.{Rules}
use Rattle.moka_laws.proofs.Counting.{some_same, put_here}
use Rattle.moka_laws.proofs.Outcomes.{outcomes}
use Rattle.moka_polls.specs.Polls.{IsQuiet, parked, seen_in, without_writes}
use Rattle.moka_polls.specs.Loads.{LoadHits, LoadAsks, LoadWaits, asking, sought_by, waiting}
use Rattle.moka_polls.proofs.Phases.{IsAsIt, End, Ends, Goes, Steps, along, at_as_it, on, stops, poll_gives}
use Rattle.moka_polls.proofs.Looking.{Looks, Drains, Seeks, looks_steps}

-- the plan of a call that loads
loads_plan : {K V E : Type 0} (parts : ℕ) (rules : Rules) (start : Start K V) (sought : Sought K) →
    sought_by start ≡ Some sought → plan_of {E = E} parts rules start ≡ load_plan (is_disabled rules) sought
loads_plan parts rules (start.GetWith key replace) sought e = ap (load_plan (is_disabled rules)) (some_same e)
loads_plan parts rules (start.Optional key) sought e = ap (load_plan (is_disabled rules)) (some_same e)
loads_plan parts rules (start.Try key) sought e = ap (load_plan (is_disabled rules)) (some_same e)
loads_plan parts rules _ sought e = cc

module _ {K V E : Type 0} (eq : K → K → Bool) (s : State K V E) (n : ℕ) (start : Start K V)
    (sought : Sought K) (quiet : IsQuiet s.world.desk) (is : sought_by start ≡ Some sought) where
  abbrev Begun : Call K V E
  Begun = fresh_call s.world.table.division.parts s.world.desk.rules start

  -- what the load sees
  abbrev seen : Option V
  seen = seen_in s.world.table s.world.desk sought.replace sought.load.key

  -- the phases of the first look, and how the call begins in them
  abbrev Looking : World K V E → List (Item K V E) → Type 0
  Looking = Looks s.world.table s.world.desk (plan.To_load sought) sought.load.key

  begins : Looking s.world (plan_of s.world.table.division.parts s.world.desk.rules start)
  begins = subst (Looking s.world)
      (sym (loads_plan s.world.table.division.parts s.world.desk.rules start sought is ∙
      ap (λ b. load_plan b sought) quiet.plain.stores))
      (Drains (record { table = refl; desk = refl }))

  -- ---- it sees a value

  abbrev hit : V → End K V E
  hit value = record {
    reply = reply.Answer (answer.Loaded value false);
    left = None;
    table = s.world.table;
    desk = s.world.desk;
  }

  hit_steps : (value : V) → seen ≡ Some value → Steps Begun Looking (Ends (hit value)) eq n
  hit_steps value sees =
      looks_steps eq n Begun Looking (Ends (hit value)) s.world.table s.world.desk quiet.owes
      (plan.To_load sought) sought.load.key (λ b there found. refl) (λ w p i. i)
      (λ w m p none at. absurd (cc))
      (λ w m p there found some at. stops Begun Looking (Ends (hit value)) _ _ (λ f. cc) (record {
        replies = ap (λ v. reply.Answer (answer.Loaded v false)) (some_same (sym some ∙ sees));
        leaves = refl;
        found = at;
      }))

  -- ---- it sees none, and nobody owns the load

  -- the desk once the call owns the load
  abbrev owning : DeskPart K V E
  owning = claimed eq s.world.desk n sought.load None

  data Asks (w : World K V E) : List (Item K V E) → Type 0 where
    Looks_first : (p : List (Item K V E)) →
        Looks s.world.table s.world.desk (plan.To_load sought) sought.load.key w p → Asks w p
    Owns : IsAsIt s.world.table s.world.desk w → Asks w (plan.Own sought ∷ [])
    Looks_again : (p : List (Item K V E)) →
        Looks s.world.table (claimed eq s.world.desk n sought.load None) (plan.To_own sought)
        sought.load.key w p → Asks w p
    Asks_now : IsAsIt s.world.table (claimed eq s.world.desk n sought.load None) w →
        Asks w (plan.Ask sought.load ∷ [])

  abbrev asked : End K V E
  asked = record {
    reply = reply.Ask ask.Init;
    left = Some (parked Begun (plan.Told sought.load ∷ []));
    table = s.world.table;
    desk = asking eq s.world.desk n sought.load;
  }

  asks_steps : seen ≡ None → s.world.desk.owners sought.load ≡ None → Steps Begun Asks (Ends asked) eq n
  asks_steps unseen free w m p (Looks_first q looks) =
      looks_steps eq n Begun Asks (Ends asked) s.world.table s.world.desk quiet.owes (plan.To_load sought)
      sought.load.key (λ b there found. refl) (λ v r i. Looks_first r i)
      (λ v k r none at. on Begun Asks (Ends asked) v mode.Mid _ (Owns at))
      (λ v k r there found some at. absurd (cc)) w m p looks
  asks_steps unseen free w m p (Owns at) =
      outcomes eq (Goes Begun Asks (Ends asked)) w n (along Begun m p) (plan.Own sought) [] (
        λ able none. on Begun Asks (Ends asked) _ mode.Mid _ (Looks_again _ (Seeks (record {
          table = at.table;
          desk = ap (λ v. claimed eq v n sought.load None) at.desk;
        }))),
        λ disabled. absurd (false≢true (sym quiet.plain.stores ∙ disabled)),
        λ owner owned. absurd (cc here),
      )
    where
      here : w.desk.owners sought.load ≡ None
      here = ap (λ v. v.owners sought.load) at.desk ∙ free
  asks_steps unseen free w m p (Looks_again q looks) =
      looks_steps eq n Begun Asks (Ends asked) s.world.table owning quiet.owes (plan.To_own sought)
      sought.load.key (λ b there found. refl) (λ v r i. Looks_again r i)
      (λ v k r none at. on Begun Asks (Ends asked) v mode.Mid _ (Asks_now at))
      (λ v k r there found some at. absurd (cc)) w m p looks
  asks_steps unseen free w m p (Asks_now at) =
      outcomes eq (Goes Begun Asks (Ends asked)) w n (along Begun m p) (plan.Ask sought.load) []
      (stops Begun Asks (Ends asked) _ _ (λ f. cc) (record {
        replies = refl;
        leaves = refl;
        found = record {
          table = at.table;
          desk = ap (λ v. without_writes (opened v n (takes_of sought.load.kind))) at.desk;
        };
      }))

  -- ---- it sees none, and another call owns the load

  data Waits (owner : ℕ) (w : World K V E) : List (Item K V E) → Type 0 where
    Looks_up : (p : List (Item K V E)) →
        Looks s.world.table s.world.desk (plan.To_load sought) sought.load.key w p → Waits owner w p
    Joins : IsAsIt s.world.table s.world.desk w → Waits owner w (plan.Own sought ∷ [])
    Reads : IsAsIt s.world.table (claimed eq s.world.desk n sought.load (Some owner)) w →
        Waits owner w (plan.Read sought ∷ [])

  abbrev waits_for : ℕ → End K V E
  waits_for owner = record {
    reply = reply.Wait;
    left = Some (parked Begun (plan.Read sought ∷ []));
    table = s.world.table;
    desk = waiting eq s.world.desk n sought.load owner;
  }

  waits_steps : (owner : ℕ) → seen ≡ None → s.world.desk.owners sought.load ≡ Some owner →
      s.world.desk.settled owner ≡ None → Steps Begun (Waits owner) (Ends (waits_for owner)) eq n
  waits_steps owner unseen owned runs w m p (Looks_up q looks) =
      looks_steps eq n Begun (Waits owner) (Ends (waits_for owner)) s.world.table s.world.desk quiet.owes
      (plan.To_load sought) sought.load.key (λ b there found. refl) (λ v r i. Looks_up r i)
      (λ v k r none at. on Begun (Waits owner) (Ends (waits_for owner)) v mode.Mid _ (Joins at))
      (λ v k r there found some at. absurd (cc)) w m p looks
  waits_steps owner unseen owned runs w m p (Joins at) =
      outcomes eq (Goes Begun (Waits owner) (Ends (waits_for owner))) w n (along Begun m p)
      (plan.Own sought) [] (
        λ able none. absurd (cc here),
        λ disabled. absurd (false≢true (sym quiet.plain.stores ∙ disabled)),
        λ other some. on Begun (Waits owner) (Ends (waits_for owner)) _ mode.Mid _ (Reads (record {
          table = at.table;
          desk = ap (λ v. claimed eq v n sought.load (Some other)) at.desk ∙
              ap (λ o. claimed eq s.world.desk n sought.load (Some o))
              (some_same (sym some ∙ here));
        })),
      )
    where
      here : w.desk.owners sought.load ≡ Some owner
      here = ap (λ v. v.owners sought.load) at.desk ∙ owned
  waits_steps owner unseen owned runs w m p (Reads at) =
      outcomes eq (Goes Begun (Waits owner) (Ends (waits_for owner))) w n (along Begun m p)
      (plan.Read sought) [] (
        λ none. stops Begun (Waits owner) (Ends (waits_for owner)) _ _ (λ f. cc)
            (record { replies = refl; leaves = refl; found = at_as_it _ _ w at }),
        λ with some. absurd (cc here),
      )
    where
      here : settlement_for w.desk n ≡ None
      here = ap (λ v. settlement_for v n) at.desk ∙
          ap (λ o. option_and_then s.world.desk.settled o)
          (put_here s.world.desk.joined n (Some owner)) ∙ runs

module _ {K V E : Type 0} (eq : K → K → Bool) where
  pub load_hits : LoadHits K V E eq
  load_hits s new n start sought value r quiet begun is sees happens =
      poll_gives (Begun eq s n start sought quiet is) (Looking eq s n start sought quiet is)
      (hit eq s n start sought quiet is value) eq n (hit_steps eq s n start sought quiet is value sees)
      s new mode.Fresh (plan_of s.world.table.division.parts s.world.desk.rules start) r begun
      (begins eq s n start sought quiet is) happens

  pub load_asks : LoadAsks K V E eq
  load_asks s new n start sought r quiet begun is unseen free happens =
      poll_gives (Begun eq s n start sought quiet is) (Asks eq s n start sought quiet is)
      (asked eq s n start sought quiet is) eq n
      (asks_steps eq s n start sought quiet is unseen free) s new mode.Fresh
      (plan_of s.world.table.division.parts s.world.desk.rules start) r begun
      (Looks_first _ (begins eq s n start sought quiet is)) happens

  pub load_waits : LoadWaits K V E eq
  load_waits s new n start sought owner r quiet begun is unseen owned runs happens =
      poll_gives (Begun eq s n start sought quiet is) (Waits eq s n start sought quiet is owner)
      (waits_for eq s n start sought quiet is owner) eq n
      (waits_steps eq s n start sought quiet is owner unseen owned runs) s new mode.Fresh
      (plan_of s.world.table.division.parts s.world.desk.rules start) r begun
      (Looks_up _ (begins eq s n start sought quiet is)) happens
