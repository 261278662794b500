-- The poll of an insert.
use Rattle.std.proofs.Common.{ℕ, Bool, List, [], ◌∷◌, None, refl, sym, subst}
use Rattle.moka_hist.specs.State.{State, World, Call}
use Rattle.moka_hist.specs.Plan.{Item, insert_plan, plan_of}
use Rattle.moka_hist.specs.Plan as plan
use Rattle.moka_hist.specs.Run.{Any, Happens, fresh_call}
use Rattle.moka_hist.specs.declared.events.Event.TheVariants as event
use Rattle.moka_hist.specs.declared.events.Start.TheVariants as start
use Rattle.moka_hist.specs.declared.records.Mode.TheVariants as mode
use Rattle.moka_hist.specs.declared.replies.Answer.TheVariants as answer
use Rattle.moka_hist.specs.declared.replies.Reply.{Reply}
use Rattle.moka_hist.specs.declared.replies.Reply.TheVariants as reply
use Rattle.moka_polls.specs.Polls.{IsQuiet, IsBegun, PollGives, stored_now}
use Rattle.moka_polls.specs.Writes.{InsertPoll}
use Rattle.moka_polls.proofs.Phases.{End, Ends, Steps, stops, poll_gives}
use Rattle.moka_polls.proofs.Putting.{Puts, Drains, plain_put, puts_steps}

module _ {K V E : Type 0} (eq : K → K → Bool) (s : State K V E) (n : ℕ) (key : K) (value : V)
    (quiet : IsQuiet s.world.desk) where
  abbrev Begun : Call K V E
  Begun = fresh_call s.world.table.division.parts s.world.desk.rules (start.Insert key value)

  abbrev end : End K V E
  end = record {
    reply = reply.Answer answer.Done;
    left = None;
    table = stored_now eq s n key value;
    desk = s.world.desk;
  }

  abbrev done : List (Item K V E)
  done = plan.Reply answer.Done ∷ []

  abbrev Phase : World K V E → List (Item K V E) → Type 0
  Phase = Puts eq s.world.table s.world.desk n key value done

  steps : Steps Begun Phase (Ends end) eq n
  steps = puts_steps eq n Begun Phase (Ends end) s.world.table s.world.desk quiet.free quiet.owes
      quiet.plain.unheard key value done (λ w p i. i)
      (λ w m p at. stops Begun Phase (Ends end) _ _ (λ f. cc)
      (record { replies = refl; leaves = refl; found = at }))

  gives : (new : State K V E) (r : Reply K V E) → IsBegun s n (start.Insert key value) →
      Happens eq Any s (event.Poll n) r new →
      PollGives s n end.reply end.left end.table end.desk r new
  gives new r begun happens =
      poll_gives Begun Phase end eq n steps s new mode.Fresh
      (plan_of s.world.table.division.parts s.world.desk.rules (start.Insert key value)) r begun
      (subst (λ b. Phase s.world (insert_plan b s.world.desk.rules key value))
      (sym quiet.plain.stores)
      (plain_put (Phase s.world) s.world.desk.rules key value done quiet.plain.unheard
      (Drains (record { table = refl; desk = refl })))) happens

module _ {K V E : Type 0} (eq : K → K → Bool) where
  pub inserts : InsertPoll K V E eq
  inserts s new n key value r quiet begun happens = gives eq s n key value quiet new r begun happens
