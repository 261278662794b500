-- What the polls of calls that store a value do.
use Rattle.std.specs.Prelude.{◌≡◌, ℕ, Bool, true, false, Some, None}
use Rattle.moka_hist.specs.State.{State}
use Rattle.moka_hist.specs.Run.{Any, Happens}
use Rattle.moka_hist.specs.declared.events.Event.TheVariants as event
use Rattle.moka_hist.specs.declared.events.Start.TheVariants as start
use Rattle.moka_hist.specs.declared.replies.Answer.TheVariants as answer
use Rattle.moka_hist.specs.declared.replies.Reply.{Reply}
use Rattle.moka_hist.specs.declared.replies.Reply.TheVariants as reply
use Rattle.moka_polls.specs.Polls.{IsQuiet, IsBegun, seen_in, stored_now, PollGives}

-- an insert is done, and is gone; its value is stored under its key as of now, and the desk stays
abbrev pub InsertPoll : (K V E : Type 0) → (K → K → Bool) → Type 0
InsertPoll K V E eq =
    (s new : State K V E) (n : ℕ) (key : K) (value : V) (r : Reply K V E) →
    IsQuiet s.world.desk → IsBegun s n (start.Insert key value) →
    Happens eq Any s (event.Poll n) r new →
    PollGives s n (reply.Answer answer.Done) None (stored_now eq s n key value) s.world.desk r new

-- an insert of a value where none is seen: it answers the value that it sees, not fresh, and is gone;
-- table and desk stay
abbrev pub OrInsertHits : (K V E : Type 0) → (K → K → Bool) → Type 0
OrInsertHits K V E eq =
    (s new : State K V E) (n : ℕ) (key : K) (value there : V) (r : Reply K V E) →
    IsQuiet s.world.desk → IsBegun s n (start.OrInsert key value) →
    seen_in s.world.table s.world.desk None key ≡ Some there →
    Happens eq Any s (event.Poll n) r new →
    PollGives s n (reply.Answer (answer.Loaded there false)) None s.world.table s.world.desk r new

-- or, where it sees none, it stores its own, and answers that, fresh
abbrev pub OrInsertStores : (K V E : Type 0) → (K → K → Bool) → Type 0
OrInsertStores K V E eq =
    (s new : State K V E) (n : ℕ) (key : K) (value : V) (r : Reply K V E) →
    IsQuiet s.world.desk → IsBegun s n (start.OrInsert key value) →
    seen_in s.world.table s.world.desk None key ≡ None →
    Happens eq Any s (event.Poll n) r new →
    PollGives s n (reply.Answer (answer.Loaded value true)) None (stored_now eq s n key value)
    s.world.desk r new
