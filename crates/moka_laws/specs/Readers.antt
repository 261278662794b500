-- Those that wait for an owner, and what is kept for them.
use Rattle.std.specs.Prelude.{◌≡◌, ℕ, zero, suc, ◌+◌, ◌≤◌, Bool, false, cond, List, [], ◌∷◌, Some, IsSome}
use Rattle.moka_hist.specs.State.{Call, State}
use Rattle.moka_hist.specs.Plan.{Item}
use Rattle.moka_hist.specs.Plan as plan
use Rattle.moka_hist.specs.Step.{Step}
use Rattle.moka_hist.specs.Places.{IsLawful}
use Rattle.moka_hist.specs.Visits.{is_reader_of}
use Rattle.moka_hist.specs.Run.{Run, IsReached}
use Rattle.moka_hist.specs.declared.accesses.Turn.{Turn}
use Rattle.moka_hist.specs.declared.accesses.Turn.TheVariants as turn
use Rattle.moka_hist.specs.declared.events.Event.{Event}
use Rattle.moka_hist.specs.declared.loads.Sought.{Sought}
use Rattle.moka_hist.specs.declared.replies.Answer.{Answer}
use Rattle.moka_hist.specs.declared.replies.Reply.{Reply}
use Rattle.moka_hist.specs.declared.visits.Settled.{Settled}
use Rattle.moka_laws.specs.Loads.{said_of}

-- how many of the numbers up to the last pass the test
abbrev pub how_many : ℕ → (ℕ → Bool) → ℕ
how_many zero test = cond (test 0) 1 0
how_many (suc k) test = how_many k test + cond (test (suc k)) 1 0

-- `readers` counts the calls that wait for the owner, each of which is live and has a number that
-- was given out.
pub record AreCounted {K V E : Type 0} (s : State K V E) (owner : ℕ) : Type 0 where
  pub count :
      s.world.desk.readers owner
      ≡ how_many s.world.desk.last (λ n. is_reader_of s.world.desk n owner)
  pub live : (n : ℕ) → s.world.desk.joined n ≡ Some owner → IsSome (s.calls n)
  pub numbered : (n : ℕ) → s.world.desk.joined n ≡ Some owner → n ≤ s.world.desk.last

-- in every reached state `readers` counts exactly those that wait
abbrev pub ReadersAreCounted : (K V E : Type 0) → (K → K → Bool) → Type 0
ReadersAreCounted K V E eq = (s : State K V E) (owner : ℕ) → IsReached eq s → AreCounted s owner

-- in every reached state how an owner ended is kept only where a call has still to read it
abbrev pub NothingUnreadIsKept : (K V E : Type 0) → (K → K → Bool) → Type 0
NothingUnreadIsKept K V E eq =
    (s : State K V E) (owner : ℕ) → IsReached eq s → IsSome (s.world.desk.settled owner) →
    (n : ℕ) × (s.world.desk.joined n ≡ Some owner)

-- the step by which a live call ends its load so
pub record Settles {K V E : Type 0} (eq : K → K → Bool) (s : State K V E) (owner : ℕ)
    (with : Settled V E) (t : State K V E) : Type 0 where
  pub call : Call K V E
  pub rest : List (Item K V E)
  pub live : s.calls owner ≡ Some call
  pub settling : call.plan ≡ plan.Settle with ∷ rest
  pub turn : Turn K V E
  pub step : Step eq s owner turn t

-- the live call waits for this owner of a load, which is no compute
pub record WaitsForLoad {K V E : Type 0} (s : State K V E) (n owner : ℕ) : Type 0 where
  pub call : Call K V E
  pub live : s.calls n ≡ Some call
  pub sought : Sought K
  pub reading : call.plan ≡ plan.Read sought ∷ []
  pub joined : s.world.desk.joined n ≡ Some owner

-- a call that waits for the owner of a load as that ends it with a value, an error or nothing
-- answers that with its next step, whatever other calls do before: a value as not fresh
abbrev pub WaitersAnswerSettled : (K V E : Type 0) → (K → K → Bool) → Type 0
WaitersAnswerSettled K V E eq =
    (s t u v : State K V E) (es : List (Event K V E)) (rs : List (Reply K V E)) (owner n : ℕ)
    (with : Settled V E) (said : Answer K V E) (reply : Turn K V E) →
    IsReached eq s → s.world.desk.joined n ≡ Some owner → Settles eq s owner with t →
    said_of with false ≡ Some said → Run eq (IsLawful eq) t es rs u →
    WaitsForLoad u n owner → Step eq u n reply v → reply ≡ turn.Answer said
