-- The calls of a list, while they are told what their upstream request brought.
use Rattle.std.specs.Prelude.{◌≡◌, ◌≢◌, ◌⊎◌, ℕ, List, Option, Some, None, IsSome, nat_eq}
use Rattle.std.specs.declared.result.Result.{Result}
use Rattle.std.specs.declared.result.Result.TheVariants.{Ok, Err}
use Rattle.moka_small.specs.declared.outcome.Outcome.{Outcome}
use Rattle.moka_small.specs.declared.outcome.Outcome.TheVariants as outcome
use Rattle.moka_small.specs.Small.{Asks, Begun, End, Stand, Waits, Was_told, With_error, With_value}
use Rattle.moka_small.specs.Polled.{polled, value_under}
use Rattle.moka_collapsing.specs.declared.answer.Answer.{Answer}
use Rattle.moka_collapsing.specs.declared.answer.Answer.TheVariants as answer
use Rattle.moka_collapsing.specs.Upstream.{Waiter, answer_of, keeps}
use Rattle.moka_collapsing.specs.Waiting.{place_of}
use Rattle.moka_collapsing.specs.Standing.{AreDistinct, Cache, Each, WaitsOn}

-- how the load ends of which this was brought
abbrev pub end_of : Result ℕ ℕ → End ℕ ℕ
end_of (Ok value) = With_value value
end_of (Err error) = With_error error

-- the answer of a call that came to this, if its load has ended
abbrev pub answer_in : Outcome ℕ ℕ → Option Answer
answer_in outcome.Waits = None
answer_in outcome.Asks = None
answer_in (outcome.Loaded value fresh) = Some (answer.Value value)
answer_in outcome.Nothing = None
answer_in (outcome.Failed error) = Some (answer.Error error)
answer_in (outcome.Found found) = None
answer_in outcome.Done = None
answer_in outcome.Evicted = None
answer_in outcome.Kept = None

-- a poll of the call comes to this answer
pub record HasAnswer (call : ℕ) (given : Answer) (m : Cache) : Type 0 where
  pub stand : Stand ℕ ℕ ℕ
  pub stands : m.stands call ≡ Some stand
  pub gives : answer_in (polled nat_eq m call stand).0 ≡ Some given

-- the key for whose value a call asks or waits
abbrev pub key_at : Stand ℕ ℕ ℕ → Option ℕ
key_at (Begun start) = None
key_at (Asks load) = Some load.key
key_at (Was_told load end) = Some load.key
key_at (Waits owner load) = Some load.key

-- The list of the key is answered: the call that asked has ended so and is gone, and of the others
-- these are left. The calls of other keys stay as they were.
pub record IsAnswered (m0 m : Cache) (key asking : ℕ) (brought : Result ℕ ℕ) (rest : List Waiter)
    : Type 0 where
  pub last : m.last ≡ m0.last
  pub values : (k : ℕ) → value_under m k ≡ keeps (value_under m0) key (answer_of brought) k
  pub others : (n : ℕ) (s : Stand ℕ ℕ ℕ) → m0.stands n ≡ Some s → key_at s ≢ Some key →
      m.stands n ≡ Some s
  pub only : (n : ℕ) (s : Stand ℕ ℕ ℕ) → m.stands n ≡ Some s →
      (m0.stands n ≡ Some s × key_at s ≢ Some key) ⊎ IsSome (place_of rest n)
  pub gone : m.stands asking ≡ None
  pub ends : (end : End ℕ ℕ) → m.ends asking ≡ Some end → end ≡ end_of brought
  pub distinct : AreDistinct rest
  pub waits : Each (λ waiter. WaitsOn m asking key waiter.0) rest

-- a poll of the call comes to some answer
abbrev pub AnswersNow : ℕ → Cache → Type 0
AnswersNow call m = (given : Answer) × HasAnswer call given m
