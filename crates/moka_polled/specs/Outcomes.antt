-- The outcome that a reply to a poll tells of.
use Rattle.std.specs.Prelude.{ℕ, Bool, true, false, Option, Some, None}
use Rattle.moka_hist.specs.declared.replies.Answer.{Answer}
use Rattle.moka_hist.specs.declared.replies.Answer.TheVariants as answer
use Rattle.moka_hist.specs.declared.replies.Reply.{Reply}
use Rattle.moka_hist.specs.declared.replies.Reply.TheVariants as reply
use Rattle.moka_small.specs.declared.outcome.Outcome.{Outcome}
use Rattle.moka_small.specs.declared.outcome.Outcome.TheVariants as outcome

-- the outcome of a poll that answered so: none where a compute answered, a call gave up, or a walk
-- ended
abbrev pub outcome_by : {K V E : Type 0} → Answer K V E → Option (Outcome V E)
outcome_by answer.Done = Some outcome.Done
outcome_by (answer.Found found) = Some (outcome.Found found)
outcome_by (answer.Loaded value fresh) = Some (outcome.Loaded value fresh)
outcome_by answer.Nothing = Some outcome.Nothing
outcome_by (answer.InitErr error) = Some (outcome.Failed error)
outcome_by (answer.Computed done) = None
outcome_by (answer.ComputeErr error) = None
outcome_by answer.RetriesExhausted = None
outcome_by answer.Evicted = Some outcome.Evicted
outcome_by answer.Kept = Some outcome.Kept
outcome_by answer.End = None
outcome_by (answer.Id id) = None
outcome_by answer.ClosuresDisabled = None
outcome_by answer.NoId = None

-- and of one that replied so: none where the reply is no poll's
abbrev pub outcome_in : {K V E : Type 0} → Reply K V E → Option (Outcome V E)
outcome_in reply.At = None
outcome_in (reply.Call number) = None
outcome_in reply.Going = None
outcome_in reply.Wait = Some outcome.Waits
outcome_in (reply.Ask asked) = Some outcome.Asks
outcome_in (reply.Answer answer) = outcome_by answer
outcome_in (reply.Item key value) = None
outcome_in reply.Told = None
outcome_in reply.Dropped = None
outcome_in (reply.Refused why) = None

-- the reply says that an answer was taken
abbrev pub says_told : {K V E : Type 0} → Reply K V E → Bool
says_told reply.At = false
says_told (reply.Call number) = false
says_told reply.Going = false
says_told reply.Wait = false
says_told (reply.Ask asked) = false
says_told (reply.Answer answer) = false
says_told (reply.Item key value) = false
says_told reply.Told = true
says_told reply.Dropped = false
says_told (reply.Refused why) = false

-- the number that a start gave: none where the reply says none
abbrev pub call_in : {K V E : Type 0} → Reply K V E → Option ℕ
call_in reply.At = None
call_in (reply.Call number) = Some number
call_in reply.Going = None
call_in reply.Wait = None
call_in (reply.Ask asked) = None
call_in (reply.Answer answer) = None
call_in (reply.Item key value) = None
call_in reply.Told = None
call_in reply.Dropped = None
call_in (reply.Refused why) = None
