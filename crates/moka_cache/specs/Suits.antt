-- What a state may answer, by what it was started for.
use Rattle.std.specs.Prelude.{◌≡◌, Bool, true, Option, Some, IsSome}
use Rattle.moka_hist.specs.State.{Call}
use Rattle.moka_hist.specs.declared.events.Start.{Start}
use Rattle.moka_hist.specs.declared.events.Told.{Told}
use Rattle.moka_hist.specs.declared.replies.Answer.{Answer}
use Rattle.moka_init.specs.FlowPlan.{call_of}
use Rattle.moka_hist.specs.declared.rules.Rules.{Rules}
use Rattle.moka_laws.specs.Starts.{asks_nobody, may_answer}
use Rattle.moka_laws.specs.Shapes.{Fits}
use Rattle.moka_cache.specs.Asked.{ToldSuch}
use Rattle.moka_kept.specs.Facts.{facts, plain}
use Rattle.moka_kept.specs.Taking.{Taken}
use Rattle.moka_cache.specs.Stages.{AnswersWith, name_in}
use Rattle.moka_cache.specs.Starts.{called}
use Rattle.moka_cache.specs.declared.stage.Stage.{Stage}
use Rattle.moka_cache.specs.declared.stage.Stage.TheVariants as stage

module _ {A K V E : Type 0} where
  -- The state starts for something that asks its caller for nothing; from where its call stands it
  -- answers as one that was started so may.
  abbrev pub Suits : (K → K → Bool) → (A → Start K V) → Stage A K V E → Type 0
  Suits eq start (stage.Fresh begin) = asks_nobody (start begin) ≡ true
  Suits eq start (stage.Running flow) =
      (begin : A) × Fits eq flow.call (start begin) (call_of flow)
  Suits eq start stage.Spent = Unit {0}
  Suits eq start stage.Answered = Unit {0}

  -- a state that starts so may answer this
  abbrev pub IsAnswerOf : (A → Start K V) → Answer K V E → Type 0
  IsAnswerOf start answer = (begin : A) × (may_answer (start begin) answer ≡ true)

-- Of each answer that the state's call may come to, where what it is told is such, it is stated
-- what the state answers by any key.
abbrev pub Tells : {A K V E O : Type 0} → (K → K → Bool) → (Told V E → Type 0)
    → (A → Call K V E) → (Option K → Answer K V E → Option O) → Stage A K V E → Type 0
Tells {A} {K} {V} {E} eq such begins output stage =
    (named : Option K) (answer : Answer K V E)
    → AnswersWith (plain V eq) (ToldSuch such) begins stage answer → IsSome (output named answer)

-- What a state may answer that starts so, in a cache of these rules: an answer of its call follows
-- from accesses by which it took nothing of who is asked but what is such, each given by a world that
-- meets the fact, and is one that its start may have; and the state tells it by the key that it keeps.
abbrev pub StateAnswers : {A K V E O : Type 0} → (K → K → Bool) → (K → V → Type 0)
    → (Taken V E → Type 0) → Rules → (A → Start K V) → (A → Option K)
    → (Option K → Answer K V E → Option O) → Stage A K V E → Option K → O → Type 0
StateAnswers {A} {K} {V} {E} eq holds such rules start names output stage kept told =
    (answer : Answer K V E)
    × AnswersWith (facts eq holds) such (called rules start) stage answer
    × (Suits eq start stage → IsAnswerOf start answer)
    × (Some told ≡ output (name_in names stage kept) answer)
