-- A turn of a workload: what its word decides, and its events.
use Rattle.std.specs.Prelude.{ℕ, ◌+◌, ◌*◌, ◌/◌, ◌%◌, ◌^◌, ◌==◌, nat_lt, if◌then◌else◌, List, [], ◌∷◌, ◌++◌, None}
use Rattle.moka_hist.specs.declared.events.Event.{Event}
use Rattle.moka_hist.specs.declared.events.Event.TheVariants.{At, Drop, Poll, Start, Tell}
use Rattle.moka_hist.specs.declared.events.Op.TheVariants as op
use Rattle.moka_hist.specs.declared.events.Start.TheVariants as start
use Rattle.moka_hist.specs.declared.events.Told.TheVariants as told
use Rattle.moka_workload.specs.declared.action.Action.{Action}
use Rattle.moka_workload.specs.declared.action.Action.TheVariants as action
use Rattle.moka_workload.specs.declared.turn.Turn.{Turn}

-- the key that a word gives
abbrev pub key_of : ℕ → ℕ
key_of word = word % 1000

-- the value that it gives
abbrev pub value_of : ℕ → ℕ
value_of word = word / 2 ^ 16 % 1000

-- the number below 100 that decides what is done
abbrev pub percent_of : ℕ → ℕ
percent_of word = word / 2 ^ 32 % 100

-- what such a number decides: of a hundred turns fifty look a key up, twenty insert, ten drop an
-- insert, ten load by two calls, five remove and five compute
abbrev pub action_of : ℕ → Action
action_of p =
    if nat_lt p 50 then action.Get
    else if nat_lt p 70 then action.Insert
    else if nat_lt p 80 then action.DroppedInsert
    else if nat_lt p 90 then action.TwoLoads
    else if nat_lt p 95 then action.Remove
    else action.Compute

-- the events of an action on the key k, with the value v, whose first call has the number c
abbrev pub events_of : Action → ℕ → ℕ → ℕ → List (Event ℕ ℕ ℕ)
events_of action.Get k v c = Start (start.Get k) ∷ Poll c ∷ []
events_of action.Insert k v c =
    Start (start.Insert k v) ∷ Poll c ∷ Tell c told.Done ∷ Poll c ∷ []
events_of action.DroppedInsert k v c =
    Start (start.Insert k v) ∷ Poll c ∷ Drop c ∷ Tell c told.Done ∷ []
events_of action.TwoLoads k v c =
    Start (start.GetWith k None) ∷ Start (start.GetWith k None) ∷ Poll c ∷ Poll (c + 1) ∷ Drop c
    ∷ Poll (c + 1) ∷ Tell (c + 1) (told.Value v) ∷ Poll (c + 1) ∷ Tell (c + 1) told.Done
    ∷ Poll (c + 1) ∷ []
events_of action.Remove k v c = Start (start.Remove k) ∷ Poll c ∷ Tell c told.Done ∷ Poll c ∷ []
events_of action.Compute k v c =
    Start (start.Compute k) ∷ Poll c ∷ Tell c (told.Op (op.Put v)) ∷ Poll c ∷ Tell c told.Done
    ∷ Poll c ∷ []

-- how many calls an event starts
abbrev pub started_by : Event ℕ ℕ ℕ → ℕ
started_by (Start _) = 1
started_by _ = 0

-- how many calls events start
abbrev pub calls_in : List (Event ℕ ℕ ℕ) → ℕ
calls_in [] = 0
calls_in (e ∷ es) = started_by e + calls_in es

-- the events of maintenance, by a call of this number
abbrev pub maintenance : ℕ → List (Event ℕ ℕ ℕ)
maintenance c = Start start.Pending ∷ Poll c ∷ []

-- the events of a turn: the clock moves on, its action is done, and after each hundredth turn comes
-- maintenance, by the next call
abbrev pub events_in : Turn → List (Event ℕ ℕ ℕ)
events_in t =
    let done : List (Event ℕ ℕ ℕ) = events_of t.action t.key t.value t.call in
    At (10 * t.number) ∷ done
    ++ (if t.number % 100 == 0 then maintenance (t.call + calls_in done) else [])

-- the turn of this number that the word decides, where c is the next call's number
abbrev pub turn_by : ℕ → ℕ → ℕ → Turn
turn_by number word c =
    record {
      number = number;
      action = action_of (percent_of word);
      key = key_of word;
      value = value_of word;
      call = c;
    }
