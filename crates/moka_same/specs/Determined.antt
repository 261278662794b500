-- What a run is determined by.
use Rattle.std.specs.Prelude.{◌≡◌, Bool, List}
use Rattle.std.specs.List.{AllByRecursion}
use Rattle.moka_hist.specs.State.{State}
use Rattle.moka_hist.specs.Run.{Any, IsReached, Run}
use Rattle.moka_hist.specs.declared.events.Event.{Event}
use Rattle.moka_hist.specs.declared.replies.Reply.{Reply}
use Rattle.moka_same.specs.Alike.{Alike, HasNoWalk, IsWhole}

-- Both runs reply the same, and end in states that are alike.
pub record EndsAlike {K V E : Type 0} (rs : List (Reply K V E)) (t : State K V E)
    (qs : List (Reply K V E)) (u : State K V E) : Type 0 where
  pub replies : qs ≡ rs
  pub states : Alike t u

-- so do any two from a reached state without a live walk, on the same events, none of which is a
-- single step or starts a walk
abbrev pub RunsAreDetermined : (K V E : Type 0) → (K → K → Bool) → Type 0
RunsAreDetermined K V E eq =
    (s t u : State K V E) (es : List (Event K V E)) (rs qs : List (Reply K V E)) →
    IsReached eq s → HasNoWalk eq s → AllByRecursion IsWhole es →
    Run eq Any s es rs t → Run eq Any s es qs u → EndsAlike rs t qs u
