-- The poll of an invalidation of all.
use Rattle.std.proofs.Common.{ℕ, Bool, List, [], ◌∷◌, None, refl, ap}
use Rattle.moka_hist.specs.State.{State, World, Call}
use Rattle.moka_hist.specs.Plan.{Item, plan_of}
use Rattle.moka_hist.specs.Plan as plan
use Rattle.moka_hist.specs.Visits.{invalidated_all}
use Rattle.moka_hist.specs.Run.{fresh_call}
use Rattle.moka_hist.specs.declared.events.Start.TheVariants as start
use Rattle.moka_hist.specs.declared.records.Mode.TheVariants as mode
use Rattle.moka_hist.specs.declared.replies.Answer.TheVariants as answer
use Rattle.moka_hist.specs.declared.replies.Reply.TheVariants as reply
use Rattle.moka_laws.proofs.Outcomes.{outcomes}
use Rattle.moka_polls.specs.Polls.{without_writes}
use Rattle.moka_polls.specs.Removals.{InvalidateAllPoll}
use Rattle.moka_polls.proofs.Phases.{IsAsIt, End, Ends, Goes, Steps, along, poll_gives, stops}

module _ {K V E : Type 0} (eq : K → K → Bool) (s : State K V E) (n : ℕ) where
  abbrev Begun : Call K V E
  Begun = fresh_call s.world.table.division.parts s.world.desk.rules start.InvalidateAll

  abbrev end : End K V E
  end = record {
    reply = reply.Answer answer.Done;
    left = None;
    table = s.world.table;
    desk = invalidated_all s.world.desk;
  }

  data Phase (w : World K V E) : List (Item K V E) → Type 0 where
    Hides : IsAsIt s.world.table s.world.desk w →
        Phase w (plan.Invalidate_all ∷ plan.Reply answer.Done ∷ [])

  steps : Steps Begun Phase (Ends end) eq n
  steps w m p (Hides at) =
      outcomes eq (Goes Begun Phase (Ends end)) w n (along Begun m p) plan.Invalidate_all
      (plan.Reply answer.Done ∷ []) (stops Begun Phase (Ends end) _ _ (λ f. cc) (record {
        replies = refl;
        leaves = refl;
        found = record {
          table = at.table;
          desk = ap (λ v. without_writes (invalidated_all v)) at.desk;
        };
      }))

module _ {K V E : Type 0} (eq : K → K → Bool) where
  pub hides_all : InvalidateAllPoll K V E eq
  hides_all s new n r begun happens =
      poll_gives (Begun eq s n) (Phase eq s n) (end eq s n) eq n (steps eq s n) s new mode.Fresh
      (plan_of s.world.table.division.parts s.world.desk.rules start.InvalidateAll) r begun
      (Hides (record { table = refl; desk = refl })) happens
