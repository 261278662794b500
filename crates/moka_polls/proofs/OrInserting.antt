-- The poll of an insert where no value is.
use Rattle.std.proofs.Common.{◌≡◌, ℕ, Bool, true, false, List, [], ◌∷◌, Option, Some, None, refl, sym, ap, ◌∙◌, subst}
use Rattle.moka_hist.specs.State.{State, World, Call}
use Rattle.moka_hist.specs.Plan.{Item, Aim, or_insert_plan, plan_of}
use Rattle.moka_hist.specs.Plan as plan
use Rattle.moka_hist.specs.Next.{goes}
use Rattle.moka_hist.specs.Run.{fresh_call}
use Rattle.moka_hist.specs.declared.events.Start.TheVariants as start
use Rattle.moka_hist.specs.declared.records.Mode.TheVariants as mode
use Rattle.moka_hist.specs.declared.replies.Answer.TheVariants as answer
use Rattle.moka_hist.specs.declared.replies.Reply.TheVariants as reply
use Rattle.moka_laws.proofs.Counting.{some_same}
use Rattle.moka_polls.specs.Polls.{IsQuiet, seen_in, stored_now}
use Rattle.moka_polls.specs.Writes.{OrInsertHits, OrInsertStores}
use Rattle.moka_polls.proofs.Phases.{End, Ends, Goes, Steps, along, at_as_it, on, stops, poll_gives}
use Rattle.moka_polls.proofs.Looking.{Looks, Drains, looks_steps}
use Rattle.moka_polls.proofs.Putting.{Puts, Drains as Puts_drains, plain_put, puts_steps}

module _ {K V E : Type 0} (eq : K → K → Bool) (s : State K V E) (n : ℕ) (key : K) (value : V)
    (quiet : IsQuiet s.world.desk) where
  abbrev Begun : Call K V E
  Begun = fresh_call s.world.table.division.parts s.world.desk.rules (start.OrInsert key value)

  abbrev aim : Aim K V
  aim = plan.To_insert key value

  -- what the call sees
  abbrev seen : Option V
  seen = seen_in s.world.table s.world.desk None key

  abbrev said : List (Item K V E)
  said = plan.Reply (answer.Loaded value true) ∷ []

  data Phase (w : World K V E) : List (Item K V E) → Type 0 where
    Looks_up : (p : List (Item K V E)) →
        Looks s.world.table s.world.desk (plan.To_insert key value) key w p → Phase w p
    Stores : (p : List (Item K V E)) →
        Puts eq s.world.table s.world.desk n key value
        (plan.Reply (answer.Loaded value true) ∷ []) w p → Phase w p

  abbrev hit : V → End K V E
  hit there = record {
    reply = reply.Answer (answer.Loaded there false);
    left = None;
    table = s.world.table;
    desk = s.world.desk;
  }

  abbrev stored : End K V E
  stored = record {
    reply = reply.Answer (answer.Loaded value true);
    left = None;
    table = stored_now eq s n key value;
    desk = s.world.desk;
  }

  -- where a value is there, nothing is stored
  hit_steps : (there : V) → seen ≡ Some there →
      Steps Begun (Looks s.world.table s.world.desk aim key) (Ends (hit there)) eq n
  hit_steps there sees =
      looks_steps eq n Begun (Looks s.world.table s.world.desk aim key) (Ends (hit there))
      s.world.table s.world.desk quiet.owes aim key (λ b k found. refl) (λ w p i. i)
      (λ w m p none at. absurd (cc))
      (λ w m p k found some at. stops Begun (Looks s.world.table s.world.desk aim key)
      (Ends (hit there)) _ _ (λ f. cc) (record {
        replies = ap (λ v. reply.Answer (answer.Loaded v false)) (some_same (sym some ∙ sees));
        leaves = refl;
        found = at;
      }))

  stored_steps : seen ≡ None → Steps Begun Phase (Ends stored) eq n
  stored_steps unseen w m p (Looks_up q looks) =
      looks_steps eq n Begun Phase (Ends stored) s.world.table s.world.desk quiet.owes aim key
      (λ b k found. refl) (λ v r i. Looks_up r i)
      (λ v l r none at. plain_put (λ x. Goes Begun Phase (Ends stored) v (goes (along Begun l r) x))
      s.world.desk.rules key value said quiet.plain.unheard
      (on Begun Phase (Ends stored) v mode.Mid _ (Stores _ (Puts_drains (at_as_it _ _ v at)))))
      (λ v l r k found some at. absurd (cc)) w m p looks
  stored_steps unseen w m p (Stores q puts) =
      puts_steps eq n Begun Phase (Ends stored) s.world.table s.world.desk quiet.free quiet.owes
      quiet.plain.unheard key value said (λ v r i. Stores r i)
      (λ v l r at. stops Begun Phase (Ends stored) _ _ (λ f. cc)
      (record { replies = refl; leaves = refl; found = at })) w m p puts

  begins : Looks s.world.table s.world.desk aim key s.world
      (plan_of s.world.table.division.parts s.world.desk.rules (start.OrInsert key value))
  begins = subst
      (λ b. Looks s.world.table s.world.desk aim key s.world (or_insert_plan b key value))
      (sym quiet.plain.stores) (Drains (record { table = refl; desk = refl }))

module _ {K V E : Type 0} (eq : K → K → Bool) where
  pub or_insert_hits : OrInsertHits K V E eq
  or_insert_hits s new n key value there r quiet begun is happens =
      poll_gives (Begun eq s n key value quiet)
      (Looks s.world.table s.world.desk (aim eq s n key value quiet) key)
      (hit eq s n key value quiet there) eq n
      (hit_steps eq s n key value quiet there is) s new
      mode.Fresh (plan_of s.world.table.division.parts s.world.desk.rules (start.OrInsert key value)) r begun
      (begins eq s n key value quiet) happens

  pub or_insert_stores : OrInsertStores K V E eq
  or_insert_stores s new n key value r quiet begun is happens =
      poll_gives (Begun eq s n key value quiet) (Phase eq s n key value quiet)
      (stored eq s n key value quiet) eq n
      (stored_steps eq s n key value quiet is) s new
      mode.Fresh (plan_of s.world.table.division.parts s.world.desk.rules (start.OrInsert key value)) r begun
      (Looks_up _ (begins eq s n key value quiet)) happens
