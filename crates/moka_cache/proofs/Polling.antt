-- How polls leave a state.
use Rattle.std.proofs.Common.{◌≡◌, ◌⊎◌, ◌↔◌, ◌<◌, ℕ, Bool, Option, Result, Ok, Err, IfOk, IfErr, OnOk, OnErr, inl, inr, refl, sym, ap, subst}
use Rattle.futures.specs.Poll.{IfReady, OnPending}
use Rattle.futures.specs.declared.task.Poll.{Poll}
use Rattle.futures.specs.declared.task.Poll.TheVariants.{Ready, Pending}
use Rattle.moka_hist.specs.Next.{answers}
use Rattle.moka_hist.specs.State.{Call}
use Rattle.moka_hist.specs.declared.replies.Answer.{Answer}
use Rattle.moka_init.specs.FlowPlan.{IsOver, call_of}
use Rattle.moka_init.specs.declared.flow.Flow.{Flow}
use Rattle.moka_kept.specs.Facts.{Facts}
use Rattle.moka_kept.specs.Meets.{CallMeets}
use Rattle.moka_kept.specs.Paths.{CameWith, EndedWith}
use Rattle.moka_kept.specs.Rests.{Rests}
use Rattle.moka_kept.specs.Stops.{CameTo, StopIs}
use Rattle.moka_kept.specs.Taking.{NoAnswer, Taken}
use Rattle.moka_kept.specs.declared.stop.Stop.{Stop}
use Rattle.moka_cache.specs.Meets.{StageMeets}
use Rattle.moka_cache.specs.Polled.{FirstIs, KeepsName, StagePollIs, kept_as}
use Rattle.moka_cache.specs.Polls.{CameToAsk, Pends, PollIs}
use Rattle.moka_cache.specs.Stages.{AnswersWith, CameOnWith, IsNamed, MayPoll, RunsSo, StagePends, name_in}
use Rattle.moka_cache.specs.declared.errors.PollError.{PollError}
use Rattle.moka_cache.specs.declared.errors.PollError.TheVariants as error
use Rattle.moka_cache.specs.declared.stage.Stage.{Stage}
use Rattle.moka_cache.specs.declared.stage.Stage.TheVariants as stage
use Rattle.moka_cache.proofs.Advancing.{unspent}
use Rattle.moka_cache.proofs.Meeting.{running_meets}

-- a want of memory is none of numbers, and a fresh state had no want of one
abbrev IsMemory : PollError → Type 0
IsMemory error.CallsSpent = ⊥
IsMemory error.Memory = Unit {0}

abbrev IsFresh : {A K V E : Type 0} → Stage A K V E → Type 0
IsFresh (stage.Fresh a) = Unit {0}
IsFresh _ = ⊥

-- ---- the first poll of a call

-- a call that begins so came to where its flow did
came_first : {K V E : Type 0} (f : Facts K V) (such : Taken V E → Type 0) (c : Call K V E) (fresh new : Flow K V E) → call_of fresh ≡ c → CameTo f such fresh new → CameWith f such new.call c (call_of new)
came_first {K} {V} {E} f such c fresh new is came =
    subst (λ (x : Call K V E). CameWith f such new.call x (call_of new)) is
    (subst (λ n. CameWith f such n (call_of fresh) (call_of new)) (sym came.number) came.came)

module _ {A K V E : Type 0} (f : Facts K V) (such : Taken V E → Type 0) (c : Call K V E) where
  -- no number was left
  pub first_spent : (new : Stage A K V E) → new ≡ stage.Spent → FirstIs f such c (Ready (Err error.CallsSpent)) new
  first_spent new is = subst (λ (s : Stage A K V E). FirstIs f such c (Ready (Err error.CallsSpent)) s) (sym is) (tt, tt, (λ spent. refl, λ spent. refl))

  -- it has answered
  pub first_answered : (answer : Answer K V E) (new : Stage A K V E) → new ≡ stage.Answered → (n : ℕ) → EndedWith f such n c (answers answer) → FirstIs f such c (Ready (Ok answer)) new
  first_answered answer new is n end = ((n, end), is)

-- it was left as its flow was
module _ (A : Type 0) {K V E : Type 0} (f : Facts K V) (such : Taken V E → Type 0) (c : Call K V E) where
  pub first_kept : (fresh new : Flow K V E) → call_of fresh ≡ c → (poll : Poll (Result (Answer K V E) PollError)) → PollIs f such fresh poll new → FirstIs {A = A} f such c poll (kept_as new poll)
  first_kept fresh new is (Ready (Ok answer)) polled = ((fresh.call, subst (λ (x : Call K V E). EndedWith f such fresh.call x (answers answer)) is polled.0), refl)
  first_kept fresh new is (Ready (Err e)) polled = (came_first f such c fresh new is polled.1, polled.1.rests, unspent e new polled.0)
  first_kept fresh new is Pending polled = (came_first f such c fresh new is polled, polled.rests)

-- the first hold left the call that begins so where this flow stands
abbrev pub GoesFrom : {K V E : Type 0} → Facts K V → Call K V E → Flow K V E → Stop K V E → Type 0
GoesFrom {K} {V} {E} f c flow stop = (fresh : Flow K V E) × (call_of fresh ≡ c) × (0 < fresh.call) × Rests fresh × StopIs f NoAnswer fresh stop flow

-- what is answered and left is the same by any other names
pub first_as : {A K V E : Type 0} (f : Facts K V) (such : Taken V E → Type 0) (c : Call K V E) (poll answered : Poll (Result (Answer K V E) PollError)) (kept new : Stage A K V E) → answered ≡ poll → new ≡ kept
    → FirstIs f such c poll kept → FirstIs f such c answered new
first_as {A} {K} {V} {E} f such c poll answered kept new told left first =
    subst (λ (p : Poll (Result (Answer K V E) PollError)). FirstIs f such c p new) (sym told) (subst (λ (s : Stage A K V E). FirstIs f such c poll s) (sym left) first)

pub pends_as : {A K V E Q : Type 0} (eq : K → K → Bool) (pends : Q → Q → Type 0) (unheard : ℕ → Type 0) (asked : Q) (poll answered : Poll (Result (Answer K V E) PollError)) (kept new : Stage A K V E)
    → answered ≡ poll → new ≡ kept → OnPending poll (StagePends eq pends unheard asked kept) → OnPending answered (StagePends eq pends unheard asked new)
pends_as {A} {K} {V} {E} eq pends unheard asked poll answered kept new told left cause =
    subst (λ (p : Poll (Result (Answer K V E) PollError)). OnPending p (StagePends eq pends unheard asked new)) (sym told)
    (subst (λ (s : Stage A K V E). OnPending poll (StagePends eq pends unheard asked s)) (sym left) cause)

-- who is asked is asked only where that call came to it
pub asks_from : {K V E : Type 0} (f : Facts K V) (such : Taken V E → Type 0) (fresh : Flow K V E) (c : Call K V E) → call_of fresh ≡ c → (T : Type 0) → T ⊎ CameToAsk f such fresh
    → T ⊎ ((flow : Flow K V E) × (call_of flow ≡ c) × CameToAsk f such flow)
asks_from f such fresh c is T (inl same) = inl same
asks_from f such fresh c is T (inr asks) = inr (fresh, is, asks)

-- where it has answered nothing is left of it
pub over_polled : {K V E : Type 0} (f : Facts K V) (such : Taken V E → Type 0) (old new : Flow K V E) (poll : Poll (Result (Answer K V E) PollError)) → PollIs f such old poll new
    → IfReady poll (λ r. OnOk r (IsOver new))
over_polled f such old new (Ready (Ok answer)) polled = polled.1
over_polled f such old new (Ready (Err e)) polled = tt
over_polled f such old new Pending polled = tt

-- why it is pending
pub pends_kept : (A : Type 0) {K V E Q : Type 0} (eq : K → K → Bool) (pends : Q → Q → Type 0) (unheard : ℕ → Type 0) (asked : Q) (flow : Flow K V E) (poll : Poll (Result (Answer K V E) PollError))
    → OnPending poll (Pends eq pends unheard asked flow) → OnPending poll (StagePends {A = A} eq pends unheard asked (kept_as flow poll))
pends_kept A eq pends unheard asked flow (Ready r) cause = tt
pends_kept A eq pends unheard asked flow Pending cause = cause

-- ---- the poll of a state

module _ {A K V E : Type 0} (f : Facts K V) (such : Taken V E → Type 0) (begins : A → Call K V E) where
  -- one whose call was begun by it
  pub first_polled : (begin : A) (poll : Poll (Result (Answer K V E) PollError)) (new : Stage A K V E) → FirstIs f such (begins begin) poll new → StagePollIs f such begins (stage.Fresh begin) poll new
  first_polled begin (Ready (Ok answer)) new first = first
  first_polled begin (Ready (Err e)) (stage.Running flow) first = first
  first_polled begin (Ready (Err e)) stage.Spent first = first
  first_polled begin (Ready (Err e)) (stage.Fresh kept) first = absurd first.0
  first_polled begin (Ready (Err e)) stage.Answered first = absurd first.0
  first_polled begin Pending (stage.Running flow) first = first
  first_polled begin Pending stage.Spent first = first
  first_polled begin Pending (stage.Fresh kept) first = absurd first.0
  first_polled begin Pending stage.Answered first = absurd first.0

  -- one for whose key there was no memory
  pub unbegun_polled : (begin kept : A) (new : Stage A K V E) → kept ≡ begin → new ≡ stage.Fresh kept → StagePollIs f such begins (stage.Fresh begin) (Ready (Err error.Memory)) new
  unbegun_polled begin kept new same is =
      subst (λ (s : Stage A K V E). StagePollIs f such begins (stage.Fresh begin) (Ready (Err error.Memory)) s) (sym is) (
        same,
        tt,
        (λ spent. absurd (subst (λ (x : PollError). IsMemory x) spent tt), λ spent. absurd (subst (λ (s : Stage A K V E). IsFresh s) spent tt)),
      )

  -- one for which no number was left
  pub spent_polled : (old : Stage A K V E) → old ≡ stage.Spent → StagePollIs f such begins old (Ready (Err error.CallsSpent)) old
  spent_polled old is = subst (λ (s : Stage A K V E). StagePollIs f such begins s (Ready (Err error.CallsSpent)) s) (sym is) (tt, tt, (λ spent. refl, λ spent. refl))

  -- one whose call was begun before
  pub polled_on : (old new : Stage A K V E) (poll : Poll (Result (Answer K V E) PollError))
      → IfReady poll (λ r. IfOk r (λ answer. (starts : A → Call K V E) → AnswersWith f such starts old answer))
      → IfReady poll (λ r. OnErr r ((starts : A → Call K V E) → CameOnWith f such starts old new))
      → OnPending poll ((starts : A → Call K V E) → CameOnWith f such starts old new)
      → IfReady poll (λ r. IfErr r (λ e. (e ≡ error.CallsSpent) ↔ (new ≡ stage.Spent)))
      → OnPending poll (MayPoll new) → IfReady poll (λ r. OnErr r (MayPoll new)) → IfReady poll (λ r. OnOk r (new ≡ stage.Answered))
      → StagePollIs f such begins old poll new
  polled_on old new (Ready (Ok answer)) answered failed came spent pending again over = (answered begins, over)
  polled_on old new (Ready (Err e)) answered failed came spent pending again over = (failed begins, again, spent)
  polled_on old new Pending answered failed came spent pending again over = (came begins, pending)

  -- what it is polled for
  pub answered_by : (old new : Stage A K V E) (r : Result (Answer K V E) PollError) (answer : Answer K V E) → r ≡ Ok answer → StagePollIs f such begins old (Ready r) new
      → AnswersWith f such begins old answer × (new ≡ stage.Answered)
  answered_by old new r answer is polled = subst (λ (x : Result (Answer K V E) PollError). StagePollIs f such begins old (Ready x) new) is polled

  pub failed_by : (old new : Stage A K V E) (r : Result (Answer K V E) PollError) (e : PollError) → r ≡ Err e → StagePollIs f such begins old (Ready r) new
      → CameOnWith f such begins old new × MayPoll new × ((e ≡ error.CallsSpent) ↔ (new ≡ stage.Spent))
  failed_by old new r e is polled = subst (λ (x : Result (Answer K V E) PollError). StagePollIs f such begins old (Ready x) new) is polled

  -- what it stores and tells is so, where that of the state is
  pub runs_now : (names : A → Option K) (s : Stage A K V E) (kept : Option K) → StageMeets f (name_in names s kept) such begins s → RunsSo f kept such s
  runs_now names (stage.Fresh begin) kept meets = tt
  runs_now names (stage.Running flow) kept meets = running_meets f kept such begins flow meets
  runs_now names stage.Spent kept meets = tt
  runs_now names stage.Answered kept meets = tt

  -- whatever number its call is given
  pub begun_meets : (own key : Option K) (begin : A) (c : Call K V E) → key ≡ own → c ≡ begins begin → StageMeets f own such begins (stage.Fresh begin) → (n : ℕ) → CallMeets f key such n c
  begun_meets own key begin c named is meets n =
      subst (λ o. CallMeets f o such n c) (sym named)
      (subst (λ (x : Call K V E). CallMeets f own such n x) (sym is) (λ d way. meets.0 n d way, λ next end. meets.1 n next end))

module _ {A K V E : Type 0} (names : A → Option K) where
  -- the key is kept with which the call is begun
  pub named_first : (f : Facts K V) (such : Taken V E → Type 0) (c : Call K V E) (begin : A) (before key : Option K) (poll : Poll (Result (Answer K V E) PollError)) (new : Stage A K V E)
      → key ≡ names begin → FirstIs f such c poll new → KeepsName names (stage.Fresh begin) before poll new key
  named_first f such c begin before key (Ready (Ok answer)) new is first = is
  named_first f such c begin before key (Ready (Err e)) (stage.Running flow) is first = is
  named_first f such c begin before key (Ready (Err e)) stage.Spent is first = tt
  named_first f such c begin before key (Ready (Err e)) (stage.Fresh kept) is first = absurd first.0
  named_first f such c begin before key (Ready (Err e)) stage.Answered is first = absurd first.0
  named_first f such c begin before key Pending (stage.Running flow) is first = is
  named_first f such c begin before key Pending stage.Spent is first = tt
  named_first f such c begin before key Pending (stage.Fresh kept) is first = absurd first.0
  named_first f such c begin before key Pending stage.Answered is first = absurd first.0

  -- it is still to be kept
  pub named_unbegun : (begin kept : A) (before : Option K) (new : Stage A K V E) → kept ≡ begin → new ≡ stage.Fresh kept → IsNamed names (stage.Fresh begin) before new before
  named_unbegun begin kept before new same is = subst (λ (s : Stage A K V E). IsNamed names (stage.Fresh begin) before s before) (sym is) (ap names same)

  -- it stays
  pub named_on : (old new : Stage A K V E) (kept : Option K) (poll : Poll (Result (Answer K V E) PollError))
      → OnPending poll ((keys : A → Option K) (key : Option K) → IsNamed keys old key new key)
      → IfReady poll (λ r. OnErr r ((keys : A → Option K) (key : Option K) → IsNamed keys old key new key))
      → IfReady poll (λ r. OnOk r ((keys : A → Option K) (key : Option K) → name_in keys old key ≡ key))
      → KeepsName names old kept poll new kept
  named_on old new kept (Ready (Ok answer)) pending failed answered = sym (answered names kept)
  named_on old new kept (Ready (Err e)) pending failed answered = failed names kept
  named_on old new kept Pending pending failed answered = pending names kept

  -- what the poll keeps of it
  pub named_answered : (old new : Stage A K V E) (before after : Option K) (r : Result (Answer K V E) PollError) (answer : Answer K V E) → r ≡ Ok answer
      → KeepsName names old before (Ready r) new after → after ≡ name_in names old before
  named_answered old new before after r answer is keeps = subst (λ (x : Result (Answer K V E) PollError). KeepsName names old before (Ready x) new after) is keeps

  pub named_failed : (old new : Stage A K V E) (before after : Option K) (r : Result (Answer K V E) PollError) (e : PollError) → r ≡ Err e
      → KeepsName names old before (Ready r) new after → IsNamed names old before new after
  named_failed old new before after r e is keeps = subst (λ (x : Result (Answer K V E) PollError). KeepsName names old before (Ready x) new after) is keeps
