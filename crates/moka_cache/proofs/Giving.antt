-- What a state may answer after a poll, it could answer before.
use Rattle.std.proofs.Common.{◌≡◌, Bool, Option, Result, Ok, Err, OnErr, ap, ◌∙◌, subst}
use Rattle.futures.specs.Poll.{IfReady, OnPending}
use Rattle.futures.specs.declared.task.Poll.{Poll}
use Rattle.futures.specs.declared.task.Poll.TheVariants.{Ready, Pending}
use Rattle.moka_hist.specs.Next.{answers}
use Rattle.moka_hist.specs.State.{Call}
use Rattle.moka_hist.specs.declared.events.Start.{Start}
use Rattle.moka_hist.specs.declared.events.Told.{Told}
use Rattle.moka_hist.specs.declared.replies.Answer.{Answer}
use Rattle.moka_hist.specs.declared.rules.Rules.{Rules}
use Rattle.moka_init.specs.FlowPlan.{call_of}
use Rattle.moka_kept.specs.Facts.{Facts, facts}
use Rattle.moka_kept.specs.Paths.{EndedWith}
use Rattle.moka_kept.specs.Taking.{Answered, Taken, Tested}
use Rattle.moka_kept.proofs.Ways.{ended_on, ended_weaker}
use Rattle.moka_cache.specs.Asked.{Accords}
use Rattle.moka_cache.specs.Stages.{AnswersWith, CameOnWith, IsNamed, name_in}
use Rattle.moka_cache.specs.Starts.{called}
use Rattle.moka_cache.specs.Suits.{StateAnswers, Suits}
use Rattle.moka_cache.specs.declared.stage.Stage.{Stage}
use Rattle.moka_cache.specs.declared.stage.Stage.TheVariants as stage

-- who is asked may give less, and its test answer less
pub accords_weaker : {V E : Type 0} (told other : Told V E → Type 0) (tests may : V → Bool → Type 0) → ((t : Told V E) → told t → other t) → ((value : V) (replaced : Bool) → tests value replaced → may value replaced)
    → (taken : Taken V E) → Accords told tests taken → Accords other may taken
accords_weaker told other tests may weaker fewer (Answered t) h = weaker t h
accords_weaker told other tests may weaker fewer (Tested value replaced) h = fewer value replaced h

module _ {A K V E : Type 0} (f : Facts K V) (later such : Taken V E → Type 0) (weaker : (taken : Taken V E) → later taken → such taken) (begins : A → Call K V E) where
  -- an answer that follows from where a poll came follows from where it began
  answers_on : (old new : Stage A K V E) (answer : Answer K V E) → CameOnWith f such begins old new → AnswersWith f later begins new answer → AnswersWith f such begins old answer
  answers_on (stage.Fresh begin) (stage.Fresh kept) answer came by =
      (by.0, subst (λ b. EndedWith f such by.0 (begins b) (answers answer)) came (ended_weaker f later such weaker by.0 (begins kept) (answers answer) by.1))
  answers_on (stage.Fresh begin) (stage.Running flow) answer came by =
      (flow.call, ended_on f such flow.call (begins begin) (call_of flow) (answers answer) came (ended_weaker f later such weaker flow.call (call_of flow) (answers answer) by))
  answers_on (stage.Running old) (stage.Running new) answer came by =
      ended_on f such old.call (call_of old) (call_of new) (answers answer) came.1
      (ended_weaker f later such weaker old.call (call_of new) (answers answer) (subst (λ n. EndedWith f later n (call_of new) (answers answer)) came.0 by))
  answers_on (stage.Running old) (stage.Fresh kept) answer came by = absurd came
  answers_on stage.Spent (stage.Fresh kept) answer came by = absurd came
  answers_on stage.Spent (stage.Running new) answer came by = absurd came
  answers_on stage.Answered (stage.Fresh kept) answer came by = absurd came
  answers_on stage.Answered (stage.Running new) answer came by = absurd came
  answers_on old stage.Spent answer came by = absurd by
  answers_on old stage.Answered answer came by = absurd by

  -- the key by which it is told stays
  name_on : (names : A → Option K) (old new : Stage A K V E) (before after : Option K) (answer : Answer K V E) → IsNamed names old before new after → AnswersWith f later begins new answer
      → name_in names new after ≡ name_in names old before
  name_on names old (stage.Fresh kept) before after answer named by = named
  name_on names old (stage.Running flow) before after answer named by = named
  name_on names old stage.Spent before after answer named by = absurd by
  name_on names old stage.Answered before after answer named by = absurd by

module _ {A K V E O : Type 0} (eq : K → K → Bool) (holds : K → V → Type 0) (later such : Taken V E → Type 0) (weaker : (taken : Taken V E) → later taken → such taken) (start : A → Start K V) (names : A → Option K)
    (output : Option K → Answer K V E → Option O) where
  answers_so : (rules : Rules) (old new : Stage A K V E) (before after : Option K) → CameOnWith (facts eq holds) such (called rules start) old new → (Suits eq start old → Suits eq start new) → IsNamed names old before new after
      → (told : O) → StateAnswers eq holds later rules start names output new after told → StateAnswers eq holds such rules start names output old before told
  answers_so rules old new before after came suits named told by = (
    by.0,
    answers_on (facts eq holds) later such weaker (called rules start) old new by.0 came by.1,
    λ so. by.2 (suits so),
    by.3 ∙ ap (λ name. output name by.0) (name_on (facts eq holds) later such weaker (called rules start) names old new before after by.0 named by.1),
  )

  -- the rules of the cache stay too
  pub gives_on : (rules ruled : Rules) → ruled ≡ rules → (old new : Stage A K V E) (before after : Option K) → CameOnWith (facts eq holds) such (called rules start) old new → (Suits eq start old → Suits eq start new)
      → IsNamed names old before new after → (told : O) → StateAnswers eq holds later ruled start names output new after told → StateAnswers eq holds such rules start names output old before told
  gives_on rules ruled is old new before after came suits named told by =
      answers_so rules old new before after came suits named told (subst (λ r. StateAnswers eq holds later r start names output new after told) is by)

  module _ (rules ruled : Rules) (is : ruled ≡ rules) (old new : Stage A K V E) (before after : Option K) (suits : Suits eq start old → Suits eq start new) where
    -- so it is after a poll that is pending
    pub gives_pending : {T : Type 0} (poll : Poll T) → OnPending poll (CameOnWith (facts eq holds) such (called rules start) old new) → OnPending poll (IsNamed names old before new after)
        → OnPending poll ((told : O) → StateAnswers eq holds later ruled start names output new after told → StateAnswers eq holds such rules start names output old before told)
    gives_pending (Ready r) came named = tt
    gives_pending Pending came named = gives_on rules ruled is old new before after came suits named

    -- and after one that fails
    pub gives_failed : {T F : Type 0} (poll : Poll (Result T F)) → IfReady poll (λ r. OnErr r (CameOnWith (facts eq holds) such (called rules start) old new)) → IfReady poll (λ r. OnErr r (IsNamed names old before new after))
        → IfReady poll (λ r. OnErr r ((told : O) → StateAnswers eq holds later ruled start names output new after told → StateAnswers eq holds such rules start names output old before told))
    gives_failed Pending came named = tt
    gives_failed (Ready (Ok told)) came named = tt
    gives_failed (Ready (Err e)) came named = gives_on rules ruled is old new before after came suits named
