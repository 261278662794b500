-- The laws of every state that a run can reach, as one.
use Rattle.std.specs.Prelude.{Bool}
use Rattle.moka_laws.specs.Alone.{InsertThenGet}
use Rattle.moka_laws.specs.Answered.{AnsweredIsPosted, PostedStays, StoredIsCommitted}
use Rattle.moka_laws.specs.Bounded.{LogsHaveRoom, StepEventsAreBounded, StepsAreBounded}
use Rattle.moka_laws.specs.Computes.{ActingComputesOwn, AloneWaitsForNobody, AsksCarryFound}
use Rattle.moka_laws.specs.Computes.{ComputesAnswerTold, ComputesAreOne, NopsAnswerAsked}
use Rattle.moka_laws.specs.Computes.{NopsChangeNothing, OneComputeActs, OwnedUntilSettled}
use Rattle.moka_laws.specs.Computes.{WaitsAreApart}
use Rattle.moka_laws.specs.Given.{HandedIsGiven, SteppedIsGiven, StoredIsGiven}
use Rattle.moka_laws.specs.Held.{CallsMayLeave, DeskKnowsHeld}
use Rattle.moka_laws.specs.Lawful.{EventIsLawful, LawfulRunGoesOn, ReachedIsLawful, RunIsLawful}
use Rattle.moka_laws.specs.Lawful.{StepsAreLawful}
use Rattle.moka_laws.specs.Leaving.{NoticesAsk, RemovalsNameOld, ReplacedAreTold, TakenAreTold}
use Rattle.moka_laws.specs.Leaving.{UpsertsNameOld}
use Rattle.moka_laws.specs.Listening.{AsksAreLive, AsksAreOne, KeysAreLocked, LocksAreOne}
use Rattle.moka_laws.specs.Listening.{KeptAreTold, OffWasTold, ReachedLocksAreHeld, ReachedNoticesAreApart, ReachedNoticesAreInOrder}
use Rattle.moka_laws.specs.Listening.{ReachedNoticesAreSettled, RunningAreHeard}
use Rattle.moka_laws.specs.Loads.{AbortsAreCounted, AnswersFit, ErrorByCause, ExhaustedAtLast}
use Rattle.moka_laws.specs.Loads.{NothingByCause, OpenedByOwners, OwnEndsAreTold}
use Rattle.moka_laws.specs.Loads.{OwnersAnswerSettled, SettlementsFit, TestsAreTwo}
use Rattle.moka_laws.specs.Looks.{GetsMiss, GetsShow, InsertsShow, LoadsShow, OwnersShow}
use Rattle.moka_laws.specs.Maintaining.{MaintenanceDrains}
use Rattle.moka_laws.specs.Missing.{MissingCanCome, TurnIsHeld, WaitersHaveOwners}
use Rattle.moka_laws.specs.Moments.{AccessesAreInTime, AccessesAreSeen, InvalidatedStayUnseen}
use Rattle.moka_laws.specs.Moments.{InvalidationHides}
use Rattle.moka_laws.specs.Moving.{CallsAreSafe, MoveIsStep, MovesAreSteps, PolledIsPoll}
use Rattle.moka_laws.specs.OwnKeys.{ReachedByLawfulRun, ReachedIsUnderOwnKeys, StoredAreCounted}
use Rattle.moka_laws.specs.Predicates.{HiddenAreAhead, HitAreUnseen, HitStayHit, ItemsAreNotHit}
use Rattle.moka_laws.specs.Predicates.{LeavingAreSpent, MaintenanceTakesNothing, OthersLeavePredicates}
use Rattle.moka_laws.specs.Reaching.{FreshIsReached, LiveWasStarted, ReachedByEvent, ReachedByRun}
use Rattle.moka_laws.specs.Reaching.{ReachedByStep, ReachedBySteps, RunGoesOn, RunsAreWays}
use Rattle.moka_laws.specs.Readers.{NothingUnreadIsKept, ReadersAreCounted, WaitersAnswerSettled}
use Rattle.moka_laws.specs.Removals.{ChosenStands, DisabledStoresNothing, EvictedIsOut, KeptByCause}
use Rattle.moka_laws.specs.Removals.{MissedByCause, PlacesComeBack, RemovalsAnswer}
use Rattle.moka_laws.specs.Removals.{RemoveAnswersTaken, StampsAreOne}
use Rattle.moka_laws.specs.Shapes.{ShapesFit}
use Rattle.moka_laws.specs.Sound.{ClockKeepsSound, DecidingKeepsSound, EnteringKeepsSound}
use Rattle.moka_laws.specs.Sound.{FreshIsSound, LeavingKeepsSound, ReachedIsSound}
use Rattle.moka_laws.specs.Sound.{TellingKeepsSound, VisitsKeepSound}
use Rattle.moka_laws.specs.Waiting.{LiveCallsGoOn, WaitsByCause}
use Rattle.moka_laws.specs.Walks.{ItemsAreApart, ItemsAreFound, ItemsAreWalks, ListsAreStarted, LooksAreApart}
use Rattle.moka_laws.specs.Walks.{ScansShow, StoredAreFound, UndisturbedShow}

-- Every law of this crate: each field is the clause of the function of its name, or, where that has
-- several, of one of them.
pub record LawsOfReached (K V E : Type 0) (eq : K → K → Bool) : Type 0 where
  -- which states a run can reach, and how a run goes on
  pub fresh_is_reached : FreshIsReached K V E eq
  pub reached_by_event : ReachedByEvent K V E eq
  pub reached_by_step : ReachedByStep K V E eq
  pub reached_by_steps : ReachedBySteps K V E eq
  pub reached_by_run : ReachedByRun K V E eq
  pub live_was_started : LiveWasStarted K V E eq
  pub run_goes_on : RunGoesOn K V E eq
  pub runs_are_ways : RunsAreWays K V E eq
  -- the desk
  pub fresh_is_sound : FreshIsSound K V E eq
  pub visits_keep_sound : VisitsKeepSound K V E eq
  pub leaving_keeps_sound : LeavingKeepsSound K V E eq
  pub deciding_keeps_sound : DecidingKeepsSound K V E eq
  pub telling_keeps_sound : TellingKeepsSound K V E eq
  pub entering_keeps_sound : EnteringKeepsSound K V E eq
  pub clock_keeps_sound : ClockKeepsSound K V E eq
  pub reached_is_sound : ReachedIsSound K V E eq
  -- what holds in every state of a run
  pub reached_is_lawful : ReachedIsLawful K V E eq
  pub steps_are_lawful : StepsAreLawful K V E eq
  pub event_is_lawful : EventIsLawful K V E eq
  pub run_is_lawful : RunIsLawful K V E eq
  pub lawful_run_goes_on : LawfulRunGoesOn K V E eq
  -- what is stored
  pub stored_are_counted : StoredAreCounted K V E eq
  pub stored_under_own_keys : ReachedIsUnderOwnKeys K V E eq
  pub reached_by_lawful_run : ReachedByLawfulRun K V E eq
  -- the writes that calls hold
  pub held_are_known : DeskKnowsHeld K V E eq
  pub calls_may_leave : CallsMayLeave K V E eq
  pub writes_name_old-upsert : UpsertsNameOld K V E eq
  pub writes_name_old-remove : RemovalsNameOld K V E eq
  -- the values that were given to the cache
  pub stored_is_given : StoredIsGiven K V E eq
  pub handed_is_given-given : HandedIsGiven K V E eq
  pub handed_is_given-stepped : SteppedIsGiven K V E eq
  -- the write of a call that has answered
  pub stored_is_committed : StoredIsCommitted K V E eq
  pub answered_is_posted : AnsweredIsPosted K V E eq
  pub posted_stays : PostedStays K V E eq
  -- a call that is stepped alone
  pub insert_then_get : InsertThenGet K V E eq
  -- what a live call does by itself
  pub move_is_step : MoveIsStep K V E eq
  pub moves_are_steps : MovesAreSteps K V E eq
  pub polled_is_poll : PolledIsPoll K V E eq
  pub calls_are_safe : CallsAreSafe K V E eq
  -- when a step waits
  pub live_calls_go_on : LiveCallsGoOn K V E eq
  pub waits_by_cause : WaitsByCause K V E eq
  -- what a call may have to wait for
  pub turn_is_held : TurnIsHeld K V E eq
  pub waiters_have_owners : WaitersHaveOwners K V E eq
  pub missing_can_come : MissingCanCome K V E eq
  -- how long a call goes on by itself
  pub logs_have_room : LogsHaveRoom K V E eq
  pub steps_are_bounded : StepsAreBounded K V E eq
  pub step_events_are_bounded : StepEventsAreBounded K V E eq
  -- those that wait for an owner
  pub readers_are_counted : ReadersAreCounted K V E eq
  pub nothing_unread_is_kept : NothingUnreadIsKept K V E eq
  pub waiters_answer_settled : WaitersAnswerSettled K V E eq
  -- what loads come to
  pub owners_answer_settled : OwnersAnswerSettled K V E eq
  pub nothing_by_cause : NothingByCause K V E eq
  pub error_by_cause : ErrorByCause K V E eq
  pub exhausted_at_last : ExhaustedAtLast K V E eq
  pub own_ends_are_told : OwnEndsAreTold K V E eq
  pub opened_by_owners : OpenedByOwners K V E eq
  pub aborts_are_counted : AbortsAreCounted K V E eq
  pub tests_are_two : TestsAreTwo K V E eq
  pub settlements_fit : SettlementsFit K V E eq
  pub answers_fit : AnswersFit K V E eq
  pub shapes_fit : ShapesFit K V E eq
  -- what looks show by time, when records are accessed, and what is hidden
  pub gets_by_time-shows : GetsShow K V E eq
  pub gets_by_time-misses : GetsMiss K V E eq
  pub loads_by_time-shows : LoadsShow K V E eq
  pub loads_by_time-inserts : InsertsShow K V E eq
  pub loads_by_time-owners : OwnersShow K V E eq
  pub accesses_are_seen-between : AccessesAreInTime K V E eq
  pub accesses_are_seen-seen : AccessesAreSeen K V E eq
  pub invalidated_are_unseen-hides : InvalidationHides K V E eq
  pub invalidated_are_unseen-unseen : InvalidatedStayUnseen K V E eq
  -- computes
  pub computes_are_one : ComputesAreOne K V E eq
  pub acting_computes_own : ActingComputesOwn K V E eq
  pub one_compute_acts : OneComputeActs K V E eq
  pub owned_until_settled : OwnedUntilSettled K V E eq
  pub waits_are_apart : WaitsAreApart K V E eq
  pub alone_waits_for_nobody : AloneWaitsForNobody K V E eq
  pub asks_carry_found : AsksCarryFound K V E eq
  pub nops_change_nothing : NopsChangeNothing K V E eq
  pub nops_answer_asked : NopsAnswerAsked K V E eq
  pub computes_answer_told : ComputesAnswerTold K V E eq
  -- what is taken out, and what is kept
  pub disabled_stores_nothing : DisabledStoresNothing K V E eq
  pub places_come_back : PlacesComeBack K V E eq
  pub removals_answer : RemovalsAnswer K V E eq
  pub remove_answers_taken : RemoveAnswersTaken K V E eq
  pub evicted_is_out : EvictedIsOut K V E eq
  pub kept_by_cause : KeptByCause K V E eq
  pub missed_by_cause : MissedByCause K V E eq
  pub chosen_stands : ChosenStands K V E eq
  pub stamps_are_one : StampsAreOne K V E eq
  -- key locks, notices and open asks
  pub notices_are_settled : ReachedNoticesAreSettled K V E eq
  pub locks_are_held : ReachedLocksAreHeld K V E eq
  pub keys_are_locked : KeysAreLocked K V E eq
  pub keys_are_locked-kept : KeptAreTold K V E eq
  pub locks_are_one : LocksAreOne K V E eq
  pub notices_are_in_order : ReachedNoticesAreInOrder K V E eq
  pub notices_are_apart : ReachedNoticesAreApart K V E eq
  pub asks_are_one : AsksAreOne K V E eq
  pub notices_tell_left-replaced : ReplacedAreTold K V E eq
  pub notices_tell_left-taken : TakenAreTold K V E eq
  pub notices_tell_left-asked : NoticesAsk K V E eq
  pub asks_are_live-live : AsksAreLive K V E eq
  pub asks_are_live-heard : RunningAreHeard K V E eq
  pub off_was_told : OffWasTold K V E eq
  -- what a walk gives
  pub items_are_walks : ItemsAreWalks K V E eq
  pub scans_show : ScansShow K V E eq
  pub items_are_found : ItemsAreFound K V E eq
  pub items_are_apart : ItemsAreApart K V E eq
  pub lists_are_started : ListsAreStarted K V E eq
  pub looks_are_apart : LooksAreApart K V E eq
  pub stored_are_found : StoredAreFound K V E eq
  pub undisturbed_show : UndisturbedShow K V E eq
  -- what predicates hide, which of them leave, and what maintenance does
  pub hit_are_unseen-unseen : HitAreUnseen K V E eq
  pub hit_are_unseen-items : ItemsAreNotHit K V E eq
  pub hidden_are_ahead : HiddenAreAhead K V E eq
  pub leaving_are_spent-spent : LeavingAreSpent K V E eq
  pub leaving_are_spent-others : OthersLeavePredicates K V E eq
  pub hit_stay_hit : HitStayHit K V E eq
  pub maintenance_takes_nothing : MaintenanceTakesNothing K V E eq
  pub maintenance_drains : MaintenanceDrains K V E eq
