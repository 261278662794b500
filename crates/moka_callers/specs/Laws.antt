-- What a caller concludes of a run, as one.
use Rattle.std.specs.Prelude.{Bool}
use Rattle.moka_callers.specs.Changing.{StepsChangeByWrites, TableChangesBySteps}
use Rattle.moka_callers.specs.Computing.{AsksComeFirst, ComputeErrorsWereTold, ComputesAnswerAsTold, NopsLeaveAll, OwnedUntilOver}
use Rattle.moka_callers.specs.Contents.{CommitsAreMade, GetsCommitNothing, QuietCommitNothing, RecordsAreOfCalls, RecordsStand}
use Rattle.moka_callers.specs.Inserting.{FreshIsPut, InsertsPutIn, InsertsStand}
use Rattle.moka_callers.specs.Listening.{NoticesAreLocked, NoticesStandAsOpened}
use Rattle.moka_callers.specs.Living.{LivesByReplies, ModesByReplies, NumbersGoUp}
use Rattle.moka_callers.specs.Loading.{AbortedGoesOn, ComputesBeginAnew, FreshWasTold, LoadsAnswerTold}
use Rattle.moka_callers.specs.Missing.{EvictsKeptSeen, KeptUnlessUndecided, RemovesFoundNone}
use Rattle.moka_callers.specs.Reading.{GetsAnswerStored, ReadsSeeWrites}
use Rattle.moka_callers.specs.Refusing.{RefusedByCause}
use Rattle.moka_callers.specs.Running.{PollsAreSteps, RepliesAreSteps, RunSplits, RunsJoin}
use Rattle.moka_callers.specs.Telling.{ToldWasTold}
use Rattle.moka_callers.specs.Undisturbed.{InsertedIsFound}

-- Every law of this crate: each field is the clause of the function of its name.
pub record LawsForCallers (K V E : Type 0) (eq : K → K → Bool) : Type 0 where
  -- what a run is made of
  pub run_splits : RunSplits K V E eq
  pub runs_join : RunsJoin K V E eq
  pub replies_are_steps : RepliesAreSteps K V E eq
  pub polls_are_steps : PollsAreSteps K V E eq
  -- which calls are live, and why an event is refused
  pub lives_by_replies : LivesByReplies K V E eq
  pub modes_by_replies : ModesByReplies K V E eq
  pub numbers_go_up : NumbersGoUp K V E eq
  pub refused_by_cause : RefusedByCause K V E eq
  -- what changes the table
  pub steps_change_by_writes : StepsChangeByWrites K V E eq
  pub table_changes_by_steps : TableChangesBySteps K V E eq
  -- what stands in it
  pub records_are_of_calls : RecordsAreOfCalls K V E eq
  pub commits_are_made : CommitsAreMade K V E eq
  pub quiet_commit_nothing : QuietCommitNothing K V E eq
  pub gets_commit_nothing : GetsCommitNothing K V E eq
  pub records_stand : RecordsStand K V E eq
  pub inserts_put_in : InsertsPutIn K V E eq
  pub inserts_stand : InsertsStand K V E eq
  pub fresh_is_put : FreshIsPut K V E eq
  -- what a get answers
  pub gets_answer_stored : GetsAnswerStored K V E eq
  pub reads_see_writes : ReadsSeeWrites K V E eq
  pub inserted_is_found : InsertedIsFound K V E eq
  -- what calls were told, and what comes of it
  pub told_was_told : ToldWasTold K V E eq
  pub loads_answer_told : LoadsAnswerTold K V E eq
  pub fresh_was_told : FreshWasTold K V E eq
  pub computes_answer_as_told : ComputesAnswerAsTold K V E eq
  pub compute_errors_were_told : ComputeErrorsWereTold K V E eq
  pub asks_come_first : AsksComeFirst K V E eq
  pub nops_leave_all : NopsLeaveAll K V E eq
  -- owners, and those that wait for one
  pub owned_until_over : OwnedUntilOver K V E eq
  pub aborted_goes_on : AbortedGoesOn K V E eq
  pub computes_begin_anew : ComputesBeginAnew K V E eq
  -- what a notice tells
  pub notices_stand_as_opened : NoticesStandAsOpened K V E eq
  pub notices_are_locked : NoticesAreLocked K V E eq
  -- what a removal has seen that took nothing out
  pub removes_found_none : RemovesFoundNone K V E eq
  pub evicts_kept_seen : EvictsKeptSeen K V E eq
  pub kept_unless_undecided : KeptUnlessUndecided K V E eq
