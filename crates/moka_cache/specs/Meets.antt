-- That a state's call stores, tells and answers what meets the fact of its cache.
use Rattle.std.specs.Prelude.{◌≡◌, ℕ, Bool, Option, Some}
use Rattle.moka_hist.specs.Next.{Next}
use Rattle.moka_hist.specs.State.{Call}
use Rattle.moka_hist.specs.Step.{access_of}
use Rattle.moka_hist.specs.declared.events.Start.{Start}
use Rattle.moka_hist.specs.declared.events.Told.{Told}
use Rattle.moka_hist.specs.declared.replies.Answer.{Answer}
use Rattle.moka_hist.specs.declared.rules.Rules.{Rules}
use Rattle.moka_init.specs.FlowPlan.{call_of}
use Rattle.moka_laws.specs.Given.{value_in, value_of}
use Rattle.moka_laws.specs.Starts.{brought, key_started}
use Rattle.moka_kept.specs.Facts.{Facts, MakesSo, TellsSo, facts}
use Rattle.moka_kept.specs.Paths.{CameWith, EndedWith}
use Rattle.moka_kept.specs.Taking.{Taken}
use Rattle.moka_cache.specs.Asked.{Accords}
use Rattle.moka_cache.specs.Stages.{AnswersWith, name_in}
use Rattle.moka_cache.specs.Suits.{StateAnswers}
use Rattle.moka_cache.specs.declared.stage.Stage.{Stage}
use Rattle.moka_cache.specs.declared.stage.Stage.TheVariants as stage

module _ {A K V E : Type 0} where
  -- the state's call, under this number, comes to be so
  abbrev pub CameIn : Facts K V → (Taken V E → Type 0) → (A → Call K V E) → Stage A K V E → ℕ
      → Call K V E → Type 0
  CameIn f such begins (stage.Fresh begin) n d = CameWith f such n (begins begin) d
  CameIn f such begins (stage.Running flow) n d = (n ≡ flow.call) × CameWith f such n (call_of flow) d
  CameIn f such begins stage.Spent n d = ⊥
  CameIn f such begins stage.Answered n d = ⊥

  -- it comes to an access after which this follows
  abbrev pub EndsIn : Facts K V → (Taken V E → Type 0) → (A → Call K V E) → Stage A K V E → ℕ
      → Next K V E → Type 0
  EndsIn f such begins (stage.Fresh begin) n next = EndedWith f such n (begins begin) next
  EndsIn f such begins (stage.Running flow) n next =
      (n ≡ flow.call) × EndedWith f such n (call_of flow) next
  EndsIn f such begins stage.Spent n next = ⊥
  EndsIn f such begins stage.Answered n next = ⊥

  -- whatever the state's call comes to by such accesses, it stores, and tells a compute and the
  -- listener, what is so
  abbrev pub StageMeets : Facts K V → Option K → (Taken V E → Type 0) → (A → Call K V E)
      → Stage A K V E → Type 0
  StageMeets f own such begins state =
      ((n : ℕ) (d : Call K V E) → CameIn f such begins state n d → MakesSo f own (access_of n d))
      × ((n : ℕ) (next : Next K V E) → EndsIn f such begins state n next → TellsSo f next.turn)

-- the same of a state that keeps this key, of whose call nothing is asked but what may be given, and
-- whose replace test answers so
abbrev pub MeetsFact : {A K V E : Type 0} → (K → K → Bool) → (K → V → Type 0) → (A → Option K)
    → (Told V E → Type 0) → (V → Bool → Type 0) → (A → Call K V E) → Stage A K V E → Option K → Type 0
MeetsFact eq holds names gives tests begins state kept =
    StageMeets (facts eq holds) (name_in names state kept) (Accords gives tests) begins state

-- what such a state may answer that starts for a key: values that are so of that key
abbrev pub AnswersSo : {A K V E : Type 0} → (K → K → Bool) → (K → V → Type 0)
    → (Told V E → Type 0) → (V → Bool → Type 0) → Start K V → (A → Call K V E) → Stage A K V E
    → Type 0
AnswersSo {A} {K} {V} {E} eq holds gives tests start begins state =
    (key : K) (answer : Answer K V E) (value : V) → key_started start ≡ Some key
    → AnswersWith (facts eq holds) (Accords gives tests) begins state answer
    → value_of answer ≡ Some value → holds key value

module _ {K V : Type 0} where
  -- what a call is started with is so
  abbrev pub BringsSo : (K → V → Type 0) → Start K V → Type 0
  BringsSo holds start =
      (key : K) (value : V) → brought start ≡ Some (key, value) → holds key value

  -- the key that its state keeps, if it keeps one, is that for which it is started
  abbrev pub IsOwnKey : Start K V → Option K → Type 0
  IsOwnKey start named = (key : K) → named ≡ Some key → key_started start ≡ Some key

  -- each value that may be told is so of the key for which the call is started
  abbrev pub TellsKey : {E : Type 0} → (K → V → Type 0) → Start K V → (Told V E → Type 0) → Type 0
  TellsKey {E} holds start gives =
      (told : Told V E) (key : K) (value : V) → gives told → key_started start ≡ Some key
      → value_in told ≡ Some value → holds key value

-- whatever such a state may answer is so
abbrev pub GivesSo : {A K V E O : Type 0} → (K → K → Bool) → (K → V → Type 0)
    → (Taken V E → Type 0) → Rules → (A → Start K V) → (A → Option K)
    → (Option K → Answer K V E → Option O) → Stage A K V E → Option K → (O → Type 0) → Type 0
GivesSo {A} {K} {V} {E} {O} eq holds such rules start names output stage kept so =
    (told : O) → StateAnswers eq holds such rules start names output stage kept told → so told
