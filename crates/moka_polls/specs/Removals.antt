-- What the polls of calls that take a record out do.
use Rattle.std.specs.Prelude.{ℕ, ◌==◌, Bool, false, cond, ◌&&◌, None}
use Rattle.std.specs.Option.{option_map_or}
use Rattle.moka_hist.specs.State.{State, TablePart}
use Rattle.moka_hist.specs.Causes.{chosen_holds}
use Rattle.moka_hist.specs.Visits.{invalidated_all, is_hit, times_at}
use Rattle.moka_hist.specs.Tables.{by_pair, removed}
use Rattle.moka_hist.specs.Run.{Any, Happens}
use Rattle.moka_hist.specs.declared.rules.Cause.{Cause}
use Rattle.moka_hist.specs.declared.events.Event.TheVariants as event
use Rattle.moka_hist.specs.declared.events.Start.TheVariants as start
use Rattle.moka_hist.specs.declared.replies.Answer.TheVariants as answer
use Rattle.moka_hist.specs.declared.replies.Reply.{Reply}
use Rattle.moka_hist.specs.declared.replies.Reply.TheVariants as reply
use Rattle.moka_polls.specs.Polls.{IsQuiet, IsBegun, value_at, PollGives}

module _ {K V E : Type 0} where
  -- the table once the call of this number has taken out what is stored under the key, if anything
  abbrev pub taken_out : (K → K → Bool) → State K V E → ℕ → K → TablePart K V
  taken_out eq s n key =
      by_pair (s.world.table.stored key) (removed eq n s.world.table key) s.world.table

  -- the record of this stamp stands under the key, and has still to leave for this cause
  abbrev pub has_to_leave : State K V E → K → ℕ → Cause → Bool
  has_to_leave s key stamp cause =
      option_map_or
      (λ p. p.1.stamp == stamp &&
      chosen_holds s.world.desk.rules (times_at s.world.desk p.1.stamp p.1.modified)
      (is_hit s.world.desk p.0 p.1) cause)
      (s.world.table.stored key) false

-- an invalidate is done, and is gone; nothing is stored under its key, and the desk stays
abbrev pub InvalidatePoll : (K V E : Type 0) → (K → K → Bool) → Type 0
InvalidatePoll K V E eq =
    (s new : State K V E) (n : ℕ) (key : K) (r : Reply K V E) →
    IsQuiet s.world.desk → IsBegun s n (start.Invalidate key) →
    Happens eq Any s (event.Poll n) r new →
    PollGives s n (reply.Answer answer.Done) None (taken_out eq s n key) s.world.desk r new

-- a remove answers the value that it takes out, and is gone
abbrev pub RemovePoll : (K V E : Type 0) → (K → K → Bool) → Type 0
RemovePoll K V E eq =
    (s new : State K V E) (n : ℕ) (key : K) (r : Reply K V E) →
    IsQuiet s.world.desk → IsBegun s n (start.Remove key) →
    Happens eq Any s (event.Poll n) r new →
    PollGives s n (reply.Answer (answer.Found (value_at s key))) None (taken_out eq s n key)
    s.world.desk r new

-- an invalidation of all is done, and is gone; what was written before the clock is hidden, and the
-- table stays
abbrev pub InvalidateAllPoll : (K V E : Type 0) → (K → K → Bool) → Type 0
InvalidateAllPoll K V E eq =
    (s new : State K V E) (n : ℕ) (r : Reply K V E) → IsBegun s n start.InvalidateAll →
    Happens eq Any s (event.Poll n) r new →
    PollGives s n (reply.Answer answer.Done) None s.world.table (invalidated_all s.world.desk) r new

-- an eviction takes the record out that it was started for, where that has still to leave, and is
-- gone; else table and desk stay
abbrev pub EvictPoll : (K V E : Type 0) → (K → K → Bool) → Type 0
EvictPoll K V E eq =
    (s new : State K V E) (n : ℕ) (key : K) (stamp : ℕ) (cause : Cause) (r : Reply K V E) →
    IsQuiet s.world.desk → IsBegun s n (start.Evict key stamp cause) →
    Happens eq Any s (event.Poll n) r new →
    PollGives s n
    (reply.Answer (cond (has_to_leave s key stamp cause) answer.Evicted answer.Kept)) None
    (cond (has_to_leave s key stamp cause) (removed eq n s.world.table key) s.world.table)
    s.world.desk r new
