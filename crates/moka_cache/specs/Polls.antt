-- How a turn of a poll leaves a call, and why a poll is pending.
use Rattle.std.specs.Prelude.{◌≡◌, ℕ, Bool, true, Option, Some, None, IsSome, Result, Ok, Err, ◌⊎◌}
use Rattle.futures.specs.declared.task.Poll.{Poll}
use Rattle.futures.specs.declared.task.Poll.TheVariants.{Ready, Pending}
use Rattle.moka_hist.specs.declared.replies.Answer.{Answer}
use Rattle.moka_hist.specs.declared.replies.Ask.TheVariants as ask
use Rattle.moka_init.specs.FlowPlan.{IsOver, call_of, tested_in}
use Rattle.moka_init.specs.Grounds.{access_at}
use Rattle.moka_init.specs.declared.flow.Flow.{Flow}
use Rattle.moka_kept.specs.Facts.{Facts}
use Rattle.moka_kept.specs.Stops.{AnswersFrom, CameTo, LeftAsking, Waits}
use Rattle.moka_kept.specs.Taking.{Taken, is_taking}
use Rattle.moka_cache.specs.Hearing.{StandsAtOne}
use Rattle.moka_cache.specs.declared.errors.PollError.{PollError}
use Rattle.moka_cache.specs.declared.errors.PollError.TheVariants as error

module _ {K V E : Type 0} where
  -- The poll's answer follows from the last of the accesses that the call made since, and nothing is
  -- left of that; or the call came to where its flow stands.
  abbrev pub PollIs : Facts K V → (Taken V E → Type 0) → Flow K V E
      → Poll (Result (Answer K V E) PollError) → Flow K V E → Type 0
  PollIs f such old (Ready (Ok answer)) new = AnswersFrom f such old answer × IsOver new
  PollIs f such old (Ready (Err e)) new = (e ≡ error.Memory) × CameTo f such old new
  PollIs f such old Pending new = CameTo f such old new

  -- the same of one turn of a poll, after which the call may go on
  abbrev pub TurnIs : Facts K V → (Taken V E → Type 0) → Flow K V E
      → Option (Poll (Result (Answer K V E) PollError)) → Flow K V E → Type 0
  TurnIs f such old None new = CameTo f such old new
  TurnIs f such old (Some poll) new = PollIs f such old poll new

  -- Why a poll is pending: the last access left its call waiting; or its own ask is open, and who
  -- is asked answered Pending, and is as that poll left it; or it stands at a notice, its own, that
  -- of an owed write or that which keeps its key's lock, whose poll the listener left pending.
  abbrev pub Pends : {Q : Type 0} → (K → K → Bool) → (Q → Q → Type 0) → (ℕ → Type 0) → Q
      → Flow K V E → Type 0
  Pends {Q} eq pends unheard asked flow =
      Waits eq flow
      ⊎ (((is_taking (access_at flow) ≡ true) × ((before : Q) × pends before asked))
      ⊎ StandsAtOne eq unheard flow)

  -- who is asked is to be asked where the flow stands: its own ask is open, which its next visit
  -- takes the answer to; or that judges a record by the replace test; or the last access of its
  -- call asked a compute, with what its look found
  abbrev pub IsToAsk : (K → K → Bool) → Flow K V E → Type 0
  IsToAsk eq flow =
      (is_taking (access_at flow) ≡ true)
      ⊎ (IsSome (tested_in (call_of flow).plan)
      ⊎ ((found : Option (K × V)) × LeftAsking eq flow (ask.Compute found)))

  -- the call came there from where the flow stands
  abbrev pub CameToAsk : Facts K V → (Taken V E → Type 0) → Flow K V E → Type 0
  CameToAsk f such old = (flow : Flow K V E) × CameTo f such old flow × IsToAsk f.eq flow
