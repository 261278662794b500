-- The text of a schedule: how its lines are spelled, and what a whole text says.
use Rattle.std.specs.Prelude.{◌≡◌, ℕ, ◌+◌, ◌^◌, ◌<◌, ◌≤◌, ◌⊎◌, Bool, List, [], ◌∷◌, ◌++◌, map, length, Option, Some, None, IfSome, codes, decimal, if◌then◌else◌}
use Rattle.std.specs.Option.{option_map, unwrap_or}
use Rattle.std.specs.List.{AllByRecursion}
use Rattle.moka_lines.specs.Lines.{lines}
use Rattle.moka_hist.specs.declared.events.Start.{Start}
use Rattle.moka_hist.specs.declared.events.Start.TheVariants as start
use Rattle.moka_hist.specs.declared.events.Op.TheVariants as op
use Rattle.moka_hist.specs.declared.events.Told.{Told}
use Rattle.moka_hist.specs.declared.events.Told.TheVariants as told
use Rattle.moka_hist.specs.declared.events.Event.{Event}
use Rattle.moka_hist.specs.declared.events.Event.TheVariants as event
use Rattle.moka_hist.specs.declared.rules.Cause.{Cause}
use Rattle.moka_hist.specs.Settings.{AreRulesOf, refusal_of}
use Rattle.moka_hist.specs.declared.rules.Rules.{Rules}
use Rattle.moka_hist.specs.declared.settings.Settings.{Settings}
use Rattle.moka_text.specs.Words.{cause_word}

-- the stamp of a record that was chosen to leave, and the cause
abbrev pub chosen_words : ℕ → Cause → List ℕ
chosen_words stamp cause = decimal stamp ++ 32 ∷ cause_word cause

-- the replace test of a load, where it has one
abbrev pub replace_words : Option ℕ → List ℕ
replace_words None = []
replace_words (Some test) = codes " if " ++ decimal test

-- what a call is started for
abbrev pub start_words : Start ℕ ℕ → List ℕ
start_words (start.Get key) = codes "get " ++ decimal key
start_words (start.Insert key value) = codes "insert " ++ (decimal key ++ 32 ∷ decimal value)
start_words (start.GetWith key replace) = codes "get_with " ++ (decimal key ++ replace_words replace)
start_words (start.Optional key) = codes "optional " ++ decimal key
start_words (start.Try key) = codes "try " ++ decimal key
start_words (start.OrInsert key value) = codes "or_insert " ++ (decimal key ++ 32 ∷ decimal value)
start_words (start.Compute key) = codes "compute " ++ decimal key
start_words (start.TryCompute key) = codes "try_compute " ++ decimal key
start_words (start.ComputeAlone key) = codes "compute_alone " ++ decimal key
start_words (start.Upsert key) = codes "upsert " ++ decimal key
start_words (start.Invalidate key) = codes "invalidate " ++ decimal key
start_words (start.Remove key) = codes "remove " ++ decimal key
start_words (start.Evict key stamp cause) =
    codes "evict " ++ (decimal key ++ 32 ∷ chosen_words stamp cause)
start_words start.InvalidateAll = codes "invalidate_all"
start_words (start.InvalidateIf test) = codes "invalidate_if " ++ decimal test
start_words start.Iter = codes "iter"
start_words start.Pending = codes "pending"

-- what an ask is told
abbrev pub told_words : Told ℕ ℕ → List ℕ
told_words (told.Value value) = codes "value " ++ decimal value
told_words told.Nothing = codes "nothing"
told_words (told.Err error) = codes "error " ++ decimal error
told_words (told.Op op.Nop) = codes "nop"
told_words (told.Op (op.Put value)) = codes "put " ++ decimal value
told_words (told.Op op.Remove) = codes "remove"
told_words told.Done = codes "done"
told_words told.Off = codes "off"

-- the one spelling of an event
abbrev pub event_line : Event ℕ ℕ ℕ → List ℕ
event_line (event.At moment) = codes "at " ++ decimal moment
event_line (event.Start start) = codes "start " ++ start_words start
event_line (event.Step call) = codes "step " ++ decimal call
event_line (event.Poll call) = codes "poll " ++ decimal call
event_line (event.Tell call answer) = codes "tell " ++ (decimal call ++ 32 ∷ told_words answer)
event_line (event.Drop call) = codes "drop " ++ decimal call

-- keys and values are of 32 bits, and tests and stamps of 64
abbrev pub StartFits : Start ℕ ℕ → Type 0
StartFits (start.Get key) = key < 2 ^ 32
StartFits (start.Insert key value) = (key < 2 ^ 32) × (value < 2 ^ 32)
StartFits (start.GetWith key replace) = (key < 2 ^ 32) × IfSome replace (λ test. test < 2 ^ 64)
StartFits (start.Optional key) = key < 2 ^ 32
StartFits (start.Try key) = key < 2 ^ 32
StartFits (start.OrInsert key value) = (key < 2 ^ 32) × (value < 2 ^ 32)
StartFits (start.Compute key) = key < 2 ^ 32
StartFits (start.TryCompute key) = key < 2 ^ 32
StartFits (start.ComputeAlone key) = key < 2 ^ 32
StartFits (start.Upsert key) = key < 2 ^ 32
StartFits (start.Invalidate key) = key < 2 ^ 32
StartFits (start.Remove key) = key < 2 ^ 32
StartFits (start.Evict key stamp cause) = (key < 2 ^ 32) × (stamp < 2 ^ 64)
StartFits start.InvalidateAll = Unit {0}
StartFits (start.InvalidateIf test) = test < 2 ^ 64
StartFits start.Iter = Unit {0}
StartFits start.Pending = Unit {0}

-- errors are of 32 bits, as values are
abbrev pub ToldFits : Told ℕ ℕ → Type 0
ToldFits (told.Value value) = value < 2 ^ 32
ToldFits told.Nothing = Unit {0}
ToldFits (told.Err error) = error < 2 ^ 32
ToldFits (told.Op op.Nop) = Unit {0}
ToldFits (told.Op (op.Put value)) = value < 2 ^ 32
ToldFits (told.Op op.Remove) = Unit {0}
ToldFits told.Done = Unit {0}
ToldFits told.Off = Unit {0}

-- the event's numbers are in their ranges: moments and numbers of calls are of 64 bits
abbrev pub EventFits : Event ℕ ℕ ℕ → Type 0
EventFits (event.At moment) = moment < 2 ^ 64
EventFits (event.Start start) = StartFits start
EventFits (event.Step call) = call < 2 ^ 64
EventFits (event.Poll call) = call < 2 ^ 64
EventFits (event.Tell call answer) = (call < 2 ^ 64) × ToldFits answer
EventFits (event.Drop call) = call < 2 ^ 64

-- an option of the first line, where it is set: its name after a space, and what is said of it
abbrev pub option_words : List ℕ → Option (List ℕ) → List ℕ
option_words name None = []
option_words name (Some said) = 32 ∷ name ++ said

-- a switch that is set stands by its name alone
abbrev pub switch : Bool → Option (List ℕ)
switch set = if set then Some [] else None

-- the one spelling of a first line that says the size of the write log, or doesn't, and these
-- settings
abbrev pub cache_line : Option ℕ → Settings → List ℕ
cache_line log settings =
    codes "cache"
    ++ (option_words (codes "cap=") (option_map decimal settings.max_capacity)
    ++ (option_words (codes "log=") (option_map decimal log)
    ++ (option_words (codes "seed=") (option_map decimal settings.seed)
    ++ (option_words (codes "ttl=") (option_map decimal settings.time_to_live)
    ++ (option_words (codes "tti=") (option_map decimal settings.time_to_idle)
    ++ (option_words (codes "listener") (switch settings.listener)
    ++ option_words (codes "closures") (switch settings.closures)))))))

-- the numbers that are set are of 64 bits
pub record SettingsFit (settings : Settings) : Type 0 where
  pub capacity : IfSome settings.max_capacity (λ most. most < 2 ^ 64)
  pub seed : IfSome settings.seed (λ seed. seed < 2 ^ 64)
  pub live : IfSome settings.time_to_live (λ nanos. nanos < 2 ^ 64)
  pub idle : IfSome settings.time_to_idle (λ nanos. nanos < 2 ^ 64)

-- rules of settings whose numbers are of 64 bits are never refused: so many nanoseconds are fewer
-- than those of a thousand years
abbrev pub AreNeverRefused : Type 0
AreNeverRefused =
    (settings : Settings) (rules : Rules) → SettingsFit settings → AreRulesOf settings rules
    → refusal_of rules ≡ None

-- the first line makes a cache of these settings, with a log of this size: 384 where it isn't said
pub record IsCacheLine (line : List ℕ) (log : ℕ) (settings : Settings) : Type 0 where
  pub said : Option ℕ
  pub spelled : line ≡ cache_line said settings
  pub size : log ≡ unwrap_or said 384
  pub range : (1 ≤ log) × (log ≤ 65536)
  pub fit : SettingsFit settings

-- the text is the first line and a line for each event
pub record Says (text : List ℕ) (log : ℕ) (settings : Settings)
    (events : List (Event ℕ ℕ ℕ)) : Type 0 where
  pub first : List ℕ
  pub cache : IsCacheLine first log settings
  pub split : lines text ≡ first ∷ map event_line events
  pub fit : AllByRecursion EventFits events

-- the first line is none of a cache, or there is no line
abbrev pub BeginsBadly : List ℕ → Type 0
BeginsBadly text =
    (first : List ℕ) (rest : List (List ℕ)) (log : ℕ) (settings : Settings) →
    lines text ≡ first ∷ rest → IsCacheLine first log settings → ⊥

-- the line spells no event
abbrev pub SpellsNone : List ℕ → Type 0
SpellsNone line = (e : Event ℕ ℕ ℕ) → EventFits e → line ≡ event_line e → ⊥

-- after the first line and these events stands a line that spells none
pub record GoesBad (text : List ℕ) (events : List (Event ℕ ℕ ℕ)) : Type 0 where
  pub first : List ℕ
  pub log : ℕ
  pub settings : Settings
  pub cache : IsCacheLine first log settings
  pub line : List ℕ
  pub rest : List (List ℕ)
  pub split : lines text ≡ first ∷ (map event_line events ++ line ∷ rest)
  pub fit : AllByRecursion EventFits events
  pub none : SpellsNone line

-- this is the number, from 1, of the first line that is not in the grammar
abbrev pub IsFirstBad : List ℕ → ℕ → Type 0
IsFirstBad text number =
    ((number ≡ 1) × BeginsBadly text)
    ⊎ ((events : List (Event ℕ ℕ ℕ)) × GoesBad text events × (number ≡ length events + 2))
