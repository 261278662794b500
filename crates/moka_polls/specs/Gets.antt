-- What the poll of a get does.
use Rattle.std.specs.Prelude.{ℕ, Bool, None}
use Rattle.moka_hist.specs.State.{State}
use Rattle.moka_hist.specs.Run.{Any, Happens}
use Rattle.moka_hist.specs.declared.events.Event.TheVariants as event
use Rattle.moka_hist.specs.declared.events.Start.TheVariants as start
use Rattle.moka_hist.specs.declared.replies.Answer.TheVariants as answer
use Rattle.moka_hist.specs.declared.replies.Reply.{Reply}
use Rattle.moka_hist.specs.declared.replies.Reply.TheVariants as reply
use Rattle.moka_polls.specs.Polls.{IsQuiet, IsBegun, seen_in, PollGives}

-- a get answers the value that it sees under its key, and is gone; table and desk stay
abbrev pub GetPoll : (K V E : Type 0) → (K → K → Bool) → Type 0
GetPoll K V E eq =
    (s new : State K V E) (n : ℕ) (key : K) (r : Reply K V E) →
    IsQuiet s.world.desk → IsBegun s n (start.Get key) → Happens eq Any s (event.Poll n) r new →
    PollGives s n (reply.Answer (answer.Found (seen_in s.world.table s.world.desk None key))) None
    s.world.table s.world.desk r new
