-- A run on a workload goes on by an event at its end.
use Rattle.std.proofs.Common.{◌≡◌, ℕ, List, [], ◌∷◌, ◌++◌, nat_eq, refl, sym, subst}
use Rattle.std.specs.declared.cmp.PartialEq as PartialEq
use Rattle.std.specs.declared.hash.Hash as Hash
use Rattle.moka_hist.specs.Places.{IsLawful}
use Rattle.moka_hist.specs.Run.{Run, IsReached}
use Rattle.moka_hist.specs.State.{State}
use Rattle.moka_hist.specs.declared.events.Event.{Event}
use Rattle.moka_hist.specs.declared.replies.Reply.{Reply}
use Rattle.moka_laws.specs.Lawful.{EventIsLawful, LawfulRunGoesOn, ReachedIsLawful}
use Rattle.moka_laws.specs.Reaching.{ReachedByEvent}
use Rattle.moka_machine.specs.Machine.{MachineIs, ServesEvent}
use Rattle.moka_machine.specs.NumberTest.{number_tests}
use Rattle.moka_machine.specs.declared.machine.Machine.{Machine}
use Rattle.moka_machine.specs.declared.number_tests.NumberTests.{NumberTests}
use Rattle.moka_summary.specs.Counts.{Counts, tally}
use Rattle.moka_make.specs.Running.{Ran}

module _ {same : PartialEq.Ghosts ℕ} {hash : Hash.Ghosts ℕ} where
  -- no event has run yet
  pub ran_none : (first : State ℕ ℕ ℕ) (events : List (Event ℕ ℕ ℕ)) (counts : Counts)
      (cache : Machine ℕ ℕ ℕ NumberTests same hash) → events ≡ [] → counts ≡ tally []
      → MachineIs nat_eq number_tests cache first → IsReached nat_eq first
      → Ran first events counts cache
  ran_none first events counts cache none fresh stands reached = record {
    replies = [];
    counted = fresh;
    final = first;
    run = subst (λ es. Run nat_eq (IsLawful nat_eq) first es [] first) (sym none) refl;
    stands = stands;
    reached = reached;
  }

  -- one event more was served, and its reply counted
  pub ran_next : ReachedByEvent ℕ ℕ ℕ nat_eq → EventIsLawful ℕ ℕ ℕ nat_eq
      → ReachedIsLawful ℕ ℕ ℕ nat_eq → LawfulRunGoesOn ℕ ℕ ℕ nat_eq
      → (first : State ℕ ℕ ℕ) (before : List (Event ℕ ℕ ℕ)) (e : Event ℕ ℕ ℕ) (r : Reply ℕ ℕ ℕ)
      (counts counts' : Counts) (old new : Machine ℕ ℕ ℕ NumberTests same hash)
      → ServesEvent nat_eq number_tests old e r new
      → ((rs : List (Reply ℕ ℕ ℕ)) → counts ≡ tally rs → counts' ≡ tally (rs ++ r ∷ []))
      → Ran first before counts old → Ran first (before ++ e ∷ []) counts' new
  ran_next reaches event_lawful state_lawful goes_on first before e r counts counts' old new serves counted ran =
      let served = serves ran.final ran.stands ran.reached in
      let there = reaches ran.final served.0 e r ran.reached served.1 in
      let lawful = (event_lawful ran.final served.0 e r ran.reached).0 served.1 in
      record {
        replies = ran.replies ++ r ∷ [];
        counted = counted ran.replies ran.counted;
        final = served.0;
        run = goes_on first ran.final served.0 before ran.replies e r ran.run lawful
            (state_lawful served.0 there);
        stands = served.2;
        reached = there;
      }
