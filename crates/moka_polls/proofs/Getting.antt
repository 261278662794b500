-- The poll of a get.
use Rattle.std.proofs.Common.{ℕ, Bool, List, Option, None, refl, sym, ap, subst}
use Rattle.moka_hist.specs.State.{State, World, Call}
use Rattle.moka_hist.specs.Plan.{Item, Aim, get_plan, plan_of}
use Rattle.moka_hist.specs.Plan as plan
use Rattle.moka_hist.specs.Run.{Any, Happens, fresh_call}
use Rattle.moka_hist.specs.declared.events.Event.TheVariants as event
use Rattle.moka_hist.specs.declared.events.Start.TheVariants as start
use Rattle.moka_hist.specs.declared.records.Mode.TheVariants as mode
use Rattle.moka_hist.specs.declared.replies.Answer.TheVariants as answer
use Rattle.moka_hist.specs.declared.replies.Reply.{Reply}
use Rattle.moka_hist.specs.declared.replies.Reply.TheVariants as reply
use Rattle.moka_polls.specs.Polls.{IsQuiet, IsBegun, PollGives, seen_in}
use Rattle.moka_polls.specs.Gets.{GetPoll}
use Rattle.moka_polls.proofs.Phases.{End, Ends, Steps, at_as_it, stops, poll_gives}
use Rattle.moka_polls.proofs.Looking.{Looks, Drains, looks_steps}

module _ {K V E : Type 0} (eq : K → K → Bool) (s : State K V E) (n : ℕ) (key : K)
    (quiet : IsQuiet s.world.desk) where
  abbrev Begun : Call K V E
  Begun = fresh_call s.world.table.division.parts s.world.desk.rules (start.Get key)

  abbrev end : End K V E
  end = record {
    reply = reply.Answer (answer.Found (seen_in s.world.table s.world.desk None key));
    left = None;
    table = s.world.table;
    desk = s.world.desk;
  }

  abbrev aim : Aim K V
  aim = plan.To_show plan.As_value

  abbrev Phase : World K V E → List (Item K V E) → Type 0
  Phase = Looks s.world.table s.world.desk aim key

  -- the reply to what is stored
  abbrev answers : Option V → Reply K V E
  answers value = reply.Answer (answer.Found value)

  steps : Steps Begun Phase (Ends end) eq n
  steps = looks_steps eq n Begun Phase (Ends end) s.world.table s.world.desk quiet.owes aim key
      (λ b there found. refl) (λ w p i. i)
      (λ w m p none at. stops Begun Phase (Ends end) _ _ (λ f. cc) (record {
        replies = ap answers (sym none);
        leaves = refl;
        found = at_as_it _ _ w at;
      }))
      (λ w m p there value some at. stops Begun Phase (Ends end) _ _ (λ f. cc) (record {
        replies = ap answers (sym some);
        leaves = refl;
        found = at;
      }))

  gives : (new : State K V E) (r : Reply K V E) → IsBegun s n (start.Get key) →
      Happens eq Any s (event.Poll n) r new →
      PollGives s n end.reply end.left end.table end.desk r new
  gives new r begun happens =
      poll_gives Begun Phase end eq n steps s new mode.Fresh (plan_of s.world.table.division.parts s.world.desk.rules (start.Get key)) r begun
      (subst (λ b. Phase s.world (get_plan b key)) (sym quiet.plain.stores) (Drains (record { table = refl; desk = refl }))) happens

module _ {K V E : Type 0} (eq : K → K → Bool) where
  pub gets : GetPoll K V E eq
  gets s new n key r quiet begun happens = gives eq s n key quiet new r begun happens
