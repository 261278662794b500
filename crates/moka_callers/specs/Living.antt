-- Which calls are live, by the replies so far.
use Rattle.std.specs.Prelude.{◌≡◌, ℕ, ◌+◌, ◌==◌, suc, zero, Bool, false, not, ◌&&◌, ◌||◌, List, [], ◌∷◌, length, Option, Some, None, is_some}
use Rattle.std.specs.Option.{option_map}
use Rattle.moka_hist.specs.State.{Call, State}
use Rattle.moka_hist.specs.Step.{Step}
use Rattle.moka_hist.specs.Run.{Any, Run}
use Rattle.moka_hist.specs.declared.accesses.Turn.{Turn}
use Rattle.moka_hist.specs.declared.accesses.Turn.TheVariants as turn
use Rattle.moka_hist.specs.declared.events.Event.{Event}
use Rattle.moka_hist.specs.declared.events.Event.TheVariants as event
use Rattle.moka_hist.specs.declared.records.Mode.{Mode}
use Rattle.moka_hist.specs.declared.records.Mode.TheVariants as mode
use Rattle.moka_hist.specs.declared.replies.Reply.{Reply}
use Rattle.moka_hist.specs.declared.replies.Reply.TheVariants as reply

module _ {K V E : Type 0} where
  -- the reply gives a call this number
  abbrev pub begins : ℕ → Reply K V E → Bool
  begins n (reply.Call m) = m == n
  begins n r = false

  -- by this reply to the event the call of this number is over: it answers, or is dropped
  abbrev pub ends : ℕ → Event K V E → Reply K V E → Bool
  ends n (event.Step m) (reply.Answer answer) = m == n
  ends n (event.Poll m) (reply.Answer answer) = m == n
  ends n (event.Drop m) reply.Dropped = m == n
  ends n e r = false

  -- a call that was live, or wasn't, is live after these events with their replies
  abbrev pub is_live_after : ℕ → Bool → List (Event K V E) → List (Reply K V E) → Bool
  is_live_after n live (e ∷ es) (r ∷ rs) =
      is_live_after n ((live || begins n r) && not (ends n e r)) es rs
  is_live_after n live es rs = live

  -- the numbers that these replies give to calls, in order
  abbrev pub numbers_in : List (Reply K V E) → List ℕ
  numbers_in [] = []
  numbers_in (reply.Call n ∷ rs) = n ∷ numbers_in rs
  numbers_in (r ∷ rs) = numbers_in rs

-- so many numbers, one after the other, after this one
abbrev pub numbers_after : ℕ → ℕ → List ℕ
numbers_after last zero = []
numbers_after last (suc many) = (last + 1) ∷ numbers_after (last + 1) many

-- a call is live exactly from its number's reply on, until it answers or is dropped
abbrev pub LivesByReplies : (K V E : Type 0) → (K → K → Bool) → Type 0
LivesByReplies K V E eq =
    (s t : State K V E) (n : ℕ) (es : List (Event K V E)) (rs : List (Reply K V E)) →
    Run eq Any s es rs t → is_some (t.calls n) ≡ is_live_after n (is_some (s.calls n)) es rs

-- a run gives the numbers after the last one, in order, and then the last is the last of them
pub record GivesNext {K V E : Type 0} (s : State K V E) (rs : List (Reply K V E)) (t : State K V E)
    : Type 0 where
  pub in_order : numbers_in rs ≡ numbers_after s.world.desk.last (length (numbers_in rs))
  pub last : t.world.desk.last ≡ s.world.desk.last + length (numbers_in rs)

abbrev pub NumbersGoUp : (K V E : Type 0) → (K → K → Bool) → Type 0
NumbersGoUp K V E eq =
    (s t : State K V E) (es : List (Event K V E)) (rs : List (Reply K V E)) →
    Run eq Any s es rs t → GivesNext s rs t

module _ {K V E : Type 0} where
  -- how far a call is, if it is live
  abbrev pub mode_of : Option (Call K V E) → Option Mode
  mode_of o = option_map (λ c. c.mode) o

  -- how a step that replies so leaves its call: between two steps, parked, or no longer live
  abbrev pub mode_left : Turn K V E → Option Mode
  mode_left turn.Going = Some mode.Mid
  mode_left turn.Wait = Some mode.Parked
  mode_left (turn.Ask ask) = Some mode.Parked
  mode_left (turn.Item key value) = Some mode.Parked
  mode_left (turn.Answer answer) = None

-- how far a call is after its step goes by what that replies
abbrev pub ModesByReplies : (K V E : Type 0) → (K → K → Bool) → Type 0
ModesByReplies K V E eq =
    (s t : State K V E) (n : ℕ) (turn : Turn K V E) → Step eq s n turn t →
    mode_of (t.calls n) ≡ mode_left turn
