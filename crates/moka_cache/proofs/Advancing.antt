-- How a state goes on whose call was begun, by how its flow does.
use Rattle.std.proofs.Common.{◌≡◌, ◌⊎◌, ◌↔◌, Option, Result, Ok, Err, IfErr, OnErr, inl, inr, refl, sym, ◌∙◌, subst}
use Rattle.futures.specs.declared.task.Poll.TheVariants.{Ready}
use Rattle.moka_hist.specs.State.{Call}
use Rattle.moka_hist.specs.declared.replies.Answer.{Answer}
use Rattle.moka_init.specs.FlowPlan.{IsOver}
use Rattle.moka_init.specs.declared.flow.Flow.{Flow}
use Rattle.moka_kept.specs.Facts.{Facts}
use Rattle.moka_kept.specs.Meets.{FlowMeets}
use Rattle.moka_kept.specs.Rests.{Rests}
use Rattle.moka_kept.specs.Stops.{CameTo}
use Rattle.moka_kept.specs.Taking.{Taken}
use Rattle.moka_cache.specs.Polls.{CameToAsk, PollIs}
use Rattle.moka_cache.specs.Stages.{AnswersWith, CameOnWith, IsNamed, MayPoll, RunsSo, StageAsks, name_in}
use Rattle.moka_cache.specs.declared.errors.PollError.{PollError}
use Rattle.moka_cache.specs.declared.errors.PollError.TheVariants as error
use Rattle.moka_cache.specs.declared.stage.Stage.{Stage}
use Rattle.moka_cache.specs.declared.stage.Stage.TheVariants as stage

module _ {A K V E : Type 0} (f : Facts K V) (such : Taken V E → Type 0) (s : Stage A K V E) (old : Flow K V E) (at : s ≡ stage.Running old) where
  -- it answers as its call does
  pub answers_at : (new : Flow K V E) (r : Result (Answer K V E) PollError) (answer : Answer K V E) → r ≡ Ok answer → PollIs f such old (Ready r) new
      → (begins : A → Call K V E) → AnswersWith f such begins s answer
  answers_at new r answer is polled begins =
      subst (λ (x : Stage A K V E). AnswersWith f such begins x answer) (sym at)
      (subst (λ (x : Result (Answer K V E) PollError). PollIs f such old (Ready x) new) is polled).0

  -- it came on as its call did
  pub came_at : (new : Flow K V E) → CameTo f such old new → (begins : A → Call K V E) → CameOnWith f such begins s (stage.Running new)
  came_at new came begins = subst (λ (x : Stage A K V E). CameOnWith f such begins x (stage.Running new)) (sym at) (came.number, came.came)

  -- who is asked is asked only where its call came to that
  pub unasked_at : {Q : Type 0} (first after : Q) → (after ≡ first) ⊎ CameToAsk f such old → (after ≡ first) ⊎ StageAsks f such s
  unasked_at first after (inl same) = inl same
  unasked_at first after (inr asks) = inr (subst (λ (x : Stage A K V E). StageAsks f such x) (sym at) asks)

module _ {A K V E : Type 0} (s : Stage A K V E) (old : Flow K V E) (at : s ≡ stage.Running old) where
  -- the key that its answer needs stays
  pub named_at : (names : A → Option K) (kept : Option K) → name_in names s kept ≡ kept
  named_at names kept = subst (λ (x : Stage A K V E). name_in names x kept ≡ kept) (sym at) refl

  pub names_at : (new : Flow K V E) (names : A → Option K) (kept : Option K) → IsNamed names s kept (stage.Running new) kept
  names_at new names kept = sym (named_at names kept)

  -- it rests, where the state may be polled
  pub rests_at : MayPoll s → Rests old
  rests_at may = subst (λ (x : Stage A K V E). MayPoll x) at may

  -- what it stores and tells is so, where that of the state is
  pub runs_at : (f : Facts K V) (own : Option K) (such : Taken V E → Type 0) → RunsSo f own such s → FlowMeets f own such old
  runs_at f own such so = subst (λ (x : Stage A K V E). RunsSo f own such x) at so

-- nothing is left of it once it has answered
pub over_at : {K V E : Type 0} (f : Facts K V) (such : Taken V E → Type 0) (old new : Flow K V E) (r : Result (Answer K V E) PollError) (answer : Answer K V E) → r ≡ Ok answer
    → PollIs f such old (Ready r) new → IsOver new
over_at {K} {V} {E} f such old new r answer is polled = (subst (λ (x : Result (Answer K V E) PollError). PollIs f such old (Ready x) new) is polled).1

-- also where its poll failed
pub failed_at : {K V E : Type 0} (f : Facts K V) (such : Taken V E → Type 0) (old new : Flow K V E) (r : Result (Answer K V E) PollError) (e : PollError) → r ≡ Err e
    → PollIs f such old (Ready r) new → (e ≡ error.Memory) × CameTo f such old new
failed_at {K} {V} {E} f such old new r e is polled = subst (λ (x : Result (Answer K V E) PollError). PollIs f such old (Ready x) new) is polled

-- a call that goes on has a number, and it is memory that it wants
abbrev StillThere : {A K V E : Type 0} → Stage A K V E → Type 0
StillThere stage.Spent = ⊥
StillThere _ = Unit {0}

abbrev MayBeAgain : PollError → Type 0
MayBeAgain error.CallsSpent = ⊥
MayBeAgain error.Memory = Unit {0}

abbrev IsSpent : (A K V E : Type 0) → Stage A K V E → Type 0
IsSpent A K V E s = s ≡ stage.Spent

pub unspent : {A K V E : Type 0} (e : PollError) (flow : Flow K V E) → e ≡ error.Memory → (e ≡ error.CallsSpent) ↔ IsSpent A K V E (stage.Running flow)
unspent {A} {K} {V} {E} e flow is = (
  λ spent. absurd (subst (λ (x : PollError). MayBeAgain x) (sym is ∙ spent) tt),
  λ spent. absurd (subst (λ (x : Stage A K V E). StillThere x) spent tt),
)

-- what holds of an error
pub when_err : {A F : Type 0} (P : Type 0) (r : Result A F) (e : F) → r ≡ Err e → OnErr r P → P
when_err P r e is h = subst (λ x. OnErr x P) is h

pub if_err : {A F : Type 0} (P : F → Type 0) (r : Result A F) (e : F) → r ≡ Err e → IfErr r P → P e
if_err P r e is h = subst (λ x. IfErr x P) is h
