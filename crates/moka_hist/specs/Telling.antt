-- Telling an answer to an open ask.
use Rattle.std.specs.Prelude.{◌≡◌, ℕ, Bool, ◌||◌, true, false, cond, Option, Some, None, IsSomeAnd}
use Rattle.std.specs.Option.{option_map, option_map_or}
use Rattle.moka_hist.specs.Finite.{put_at}
use Rattle.moka_hist.specs.State.{DeskPart}
use Rattle.moka_hist.specs.Visits.{is_keeping, is_running, locks_without}
use Rattle.moka_hist.specs.declared.notices.Notice.{Notice}
use Rattle.moka_hist.specs.declared.notices.NoticeState.{NoticeState}
use Rattle.moka_hist.specs.declared.notices.NoticeState.TheVariants as notice
use Rattle.moka_hist.specs.declared.events.Told.{Told}
use Rattle.moka_hist.specs.declared.events.Told.TheVariants as answer
use Rattle.moka_hist.specs.declared.visits.Takes.{Takes}
use Rattle.moka_hist.specs.declared.visits.Takes.TheVariants as takes

-- the ask takes a value, that there is none, an error, or what is to be done
abbrev pub takes_value : Takes → Bool
takes_value takes.Value = true
takes_value takes.Optional = true
takes_value takes.Try = true
takes_value takes.Op = false
takes_value takes.TryOp = false

abbrev pub takes_nothing : Takes → Bool
takes_nothing takes.Value = false
takes_nothing takes.Optional = true
takes_nothing takes.Try = false
takes_nothing takes.Op = false
takes_nothing takes.TryOp = false

abbrev pub takes_error : Takes → Bool
takes_error takes.Value = false
takes_error takes.Optional = false
takes_error takes.Try = true
takes_error takes.Op = false
takes_error takes.TryOp = true

abbrev pub takes_op : Takes → Bool
takes_op takes.Value = false
takes_op takes.Optional = false
takes_op takes.Try = false
takes_op takes.Op = true
takes_op takes.TryOp = true

module _ {V E : Type 0} where
  -- the ask takes answers of this shape: no ask of a call takes what a listener answers
  abbrev pub does_take : Takes → Told V E → Bool
  does_take asked (answer.Value value) = takes_value asked
  does_take asked answer.Nothing = takes_nothing asked
  does_take asked (answer.Err error) = takes_error asked
  does_take asked (answer.Op op) = takes_op asked
  does_take asked answer.Done = false
  does_take asked answer.Off = false

-- the listener was asked by a notice in this state
abbrev pub was_asked : NoticeState → Bool
was_asked notice.Waiting = false
was_asked notice.Running = true
was_asked notice.Ended = true
was_asked notice.Skipped = false

module _ {K V : Type 0} where
  -- a notice that may end: the listener was asked
  abbrev pub MayEnd : Option (Notice K V) → Type 0
  MayEnd told = IsSomeAnd told (λ x. was_asked x.state ≡ true)

  -- the notice has ended
  abbrev pub with_end : Notice K V → Notice K V
  with_end x = record x { state = notice.Ended }

module _ {K V E : Type 0} where
  -- the call of this number has an open ask that takes the answer
  abbrev pub is_taken : DeskPart K V E → ℕ → Told V E → Bool
  is_taken w number told = option_map_or (λ asked. does_take asked told) (w.asks number) false

  -- The number has an open ask that takes the answer: Done and Off are for the listener, which is
  -- asked as long as the notice runs, and the others for a call's initializer.
  abbrev pub is_asked : DeskPart K V E → ℕ → Told V E → Bool
  is_asked w number (answer.Value value) = is_taken w number (answer.Value value)
  is_asked w number answer.Nothing = is_taken w number answer.Nothing
  is_asked w number (answer.Err error) = is_taken w number (answer.Err error)
  is_asked w number (answer.Op op) = is_taken w number (answer.Op op)
  is_asked w number answer.Done = is_running w number
  is_asked w number answer.Off = is_running w number

  -- the listener has answered: the notice of this number has ended, and a lock that it kept is
  -- free; that of a live call is not
  abbrev pub ended : DeskPart K V E → ℕ → DeskPart K V E
  ended w number = record w {
    notices = put_at w.notices number (option_map with_end (w.notices number));
    locks = cond (is_keeping w number) (locks_without w number) w.locks;
    kept = put_at w.kept number None;
  }

  -- the listener has answered, and hears of no further record, if `off`
  abbrev pub heard : DeskPart K V E → ℕ → Bool → DeskPart K V E
  heard w number off = record (ended w number) { off = w.off || off }

  -- the call's ask is closed, and the answer is there to be taken by the call
  abbrev pub told_call : DeskPart K V E → ℕ → Told V E → DeskPart K V E
  told_call w number told =
      record w {
        asks = put_at w.asks number None;
        told = put_at w.told number (Some told);
      }

  -- The ask is closed. What an initializer gives is there to be taken by its call; a listener's
  -- answer ends its notice, and Off turns the listener off.
  abbrev pub told : DeskPart K V E → ℕ → Told V E → DeskPart K V E
  told w number (answer.Value value) = told_call w number (answer.Value value)
  told w number answer.Nothing = told_call w number answer.Nothing
  told w number (answer.Err error) = told_call w number (answer.Err error)
  told w number (answer.Op op) = told_call w number (answer.Op op)
  told w number answer.Done = heard w number false
  told w number answer.Off = heard w number true
