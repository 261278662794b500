-- Reading the text of a schedule, line by line.
use Rattle.std.specs.Prelude.{◌≡◌, ℕ, suc, ◌<◌, ◌&&◌, Bool, true, false, length, List, [], ◌∷◌, ◌++◌, Option, Some, None, Result, Ok, Err, nat_le, codes, bytes_eq, if◌then◌else◌}
use Rattle.std.specs.Option.{option_map, option_and_then}
use Rattle.moka_hist.specs.declared.events.Start.{Start}
use Rattle.moka_hist.specs.declared.events.Start.TheVariants as start
use Rattle.moka_hist.specs.declared.events.Op.TheVariants as op
use Rattle.moka_hist.specs.declared.events.Told.{Told}
use Rattle.moka_hist.specs.declared.events.Told.TheVariants as told
use Rattle.moka_hist.specs.declared.events.Event.{Event}
use Rattle.moka_hist.specs.declared.events.Event.TheVariants as event
use Rattle.moka_hist.specs.declared.rules.Cause.{Cause}
use Rattle.moka_hist.specs.declared.rules.Cause.TheVariants as cause
use Rattle.moka_hist.specs.declared.settings.Settings.{Settings}
use Rattle.moka_text.specs.declared.schedules.Schedule.{Schedule}
use Rattle.moka_text.specs.declared.schedules.ScheduleError.{ScheduleError}
use Rattle.moka_text.specs.declared.schedules.ScheduleError.TheVariants as errors
use Rattle.moka_lines.specs.Words.{u64_in, u32_in, after, before_byte, after_byte}
use Rattle.moka_text.specs.Words.{from_byte}
use Rattle.moka_lines.specs.Lines.{lines}
use Rattle.moka_text.specs.ScheduleText.{event_line, EventFits, Says, IsFirstBad}

infixl 10 ◌>>=◌
abbrev pub ◌>>=◌ : {A B : Type 0} → Option A → (A → Option B) → Option B
o >>= f = option_and_then f o

-- a key and a value with a space between them
unfoldable pub pair_of : List ℕ → Option (ℕ × ℕ)
pair_of bytes = do
  key ← u32_in (before_byte 32 bytes)
  value ← u32_in (after_byte 32 bytes)
  Some (key, value)

-- why a record that was chosen has to leave
unfoldable pub cause_of : List ℕ → Option Cause
cause_of word =
    if bytes_eq word (codes "Expired") then Some cause.Expired
    else if bytes_eq word (codes "Explicit") then Some cause.Explicit
    else if bytes_eq word (codes "Replaced") then Some cause.Replaced
    else if bytes_eq word (codes "Size") then Some cause.Size
    else None

-- a stamp and a cause with a space between them
unfoldable pub chosen_of : List ℕ → Option (ℕ × Cause)
chosen_of bytes = do
  stamp ← u64_in (before_byte 32 bytes)
  cause ← cause_of (after_byte 32 bytes)
  Some (stamp, cause)

-- a key, and after a space the record that was chosen
unfoldable pub evict_of : List ℕ → Option (ℕ × (ℕ × Cause))
evict_of bytes = do
  key ← u32_in (before_byte 32 bytes)
  chosen ← chosen_of (after_byte 32 bytes)
  Some (key, chosen)

-- the replace test of a load: none where no bytes are left
unfoldable pub replace_in : List ℕ → Option (Option ℕ)
replace_in [] = Some None
replace_in (b ∷ bytes) = option_map Some (after (codes " if ") (b ∷ bytes) >>= u64_in)

-- a key, and after it the replace test, where there is one
unfoldable pub load_of : List ℕ → Option (ℕ × Option ℕ)
load_of bytes = do
  key ← u32_in (before_byte 32 bytes)
  replace ← replace_in (from_byte 32 bytes)
  Some (key, replace)

-- what a call is started for, by a word and what stands after its space
unfoldable pub start_by : List ℕ → List ℕ → Option (Start ℕ ℕ)
start_by word rest =
    if bytes_eq word (codes "get") then option_map start.Get (u32_in rest)
    else if bytes_eq word (codes "insert") then
    option_map (λ p. start.Insert p.0 p.1) (pair_of rest)
    else if bytes_eq word (codes "get_with") then
    option_map (λ l. start.GetWith l.0 l.1) (load_of rest)
    else if bytes_eq word (codes "optional") then option_map start.Optional (u32_in rest)
    else if bytes_eq word (codes "try") then option_map start.Try (u32_in rest)
    else if bytes_eq word (codes "or_insert") then
    option_map (λ p. start.OrInsert p.0 p.1) (pair_of rest)
    else if bytes_eq word (codes "compute") then option_map start.Compute (u32_in rest)
    else if bytes_eq word (codes "try_compute") then option_map start.TryCompute (u32_in rest)
    else if bytes_eq word (codes "compute_alone") then option_map start.ComputeAlone (u32_in rest)
    else if bytes_eq word (codes "upsert") then option_map start.Upsert (u32_in rest)
    else if bytes_eq word (codes "invalidate") then option_map start.Invalidate (u32_in rest)
    else if bytes_eq word (codes "remove") then option_map start.Remove (u32_in rest)
    else if bytes_eq word (codes "evict") then
    option_map (λ e. start.Evict e.0 e.1.0 e.1.1) (evict_of rest)
    else if bytes_eq word (codes "invalidate_if") then option_map start.InvalidateIf (u64_in rest)
    else None

-- what a call is started for: without a key by all of what stands there, and else by its first word
abbrev pub start_of : List ℕ → Option (Start ℕ ℕ)
start_of bytes =
    if bytes_eq bytes (codes "invalidate_all") then Some start.InvalidateAll
    else if bytes_eq bytes (codes "iter") then Some start.Iter
    else if bytes_eq bytes (codes "pending") then Some start.Pending
    else start_by (before_byte 32 bytes) (after_byte 32 bytes)

-- what an ask is told by a word alone
unfoldable pub told_alone : List ℕ → Option (Told ℕ ℕ)
told_alone bytes =
    if bytes_eq bytes (codes "nothing") then Some told.Nothing
    else if bytes_eq bytes (codes "nop") then Some (told.Op op.Nop)
    else if bytes_eq bytes (codes "remove") then Some (told.Op op.Remove)
    else if bytes_eq bytes (codes "done") then Some told.Done
    else if bytes_eq bytes (codes "off") then Some told.Off
    else None

-- what an ask is told, by the first word and what stands after its space
unfoldable pub told_of : List ℕ → Option (Told ℕ ℕ)
told_of bytes =
    if bytes_eq (before_byte 32 bytes) (codes "value") then
    option_map told.Value (u32_in (after_byte 32 bytes))
    else if bytes_eq (before_byte 32 bytes) (codes "error") then
    option_map told.Err (u32_in (after_byte 32 bytes))
    else if bytes_eq (before_byte 32 bytes) (codes "put") then
    option_map (λ value. told.Op (op.Put value)) (u32_in (after_byte 32 bytes))
    else told_alone bytes

-- a call, and after a space what it is told
unfoldable pub tell_of : List ℕ → Option (ℕ × Told ℕ ℕ)
tell_of bytes = do
  call ← u64_in (before_byte 32 bytes)
  answer ← told_of (after_byte 32 bytes)
  Some (call, answer)

-- the event of a line, by its first word and what stands after its space
unfoldable pub event_by : List ℕ → List ℕ → Option (Event ℕ ℕ ℕ)
event_by word rest =
    if bytes_eq word (codes "at") then option_map event.At (u64_in rest)
    else if bytes_eq word (codes "start") then option_map event.Start (start_of rest)
    else if bytes_eq word (codes "step") then option_map event.Step (u64_in rest)
    else if bytes_eq word (codes "poll") then option_map event.Poll (u64_in rest)
    else if bytes_eq word (codes "tell") then
    option_map (λ t. event.Tell t.0 t.1) (tell_of rest)
    else if bytes_eq word (codes "drop") then option_map event.Drop (u64_in rest)
    else None

-- the event that a line spells
abbrev pub event_of : List ℕ → Option (Event ℕ ℕ ℕ)
event_of line = event_by (before_byte 32 line) (after_byte 32 line)

-- what is said of an option that these bytes follow, up to a space, and what follows
abbrev pub said_in : List ℕ → Option (List ℕ) → Option (List ℕ) × List ℕ
said_in bytes None = (None, bytes)
said_in bytes (Some rest) = (Some (before_byte 32 rest), from_byte 32 rest)

-- what is said of the option of this name, where it stands at the front, and what follows
abbrev pub cut_option : List ℕ → List ℕ → Option (List ℕ) × List ℕ
cut_option name bytes = said_in bytes (after name bytes)

-- the number, where it is one from the least to the greatest
abbrev pub within : ℕ → ℕ → ℕ → Option ℕ
within least greatest n = if nat_le least n && nat_le n greatest then Some n else None

-- the capacity or the time of an option, where one is said
unfoldable pub number_of : Option (List ℕ) → Option (Option ℕ)
number_of None = Some None
number_of (Some said) = option_map Some (u64_in said)

-- the size of the write log
unfoldable pub log_of : Option (List ℕ) → Option ℕ
log_of None = Some 384
log_of (Some said) = u64_in said >>= within 1 65536

-- whether a switch is set, of which nothing more may be said
unfoldable pub switch_of : Option (List ℕ) → Option Bool
switch_of None = Some false
switch_of (Some []) = Some true
switch_of (Some (b ∷ bytes)) = None

-- the value, unless bytes are left over
abbrev pub unless_left : {A : Type 0} → List ℕ → Option A → Option A
unless_left [] value = value
unless_left (b ∷ bytes) value = None

-- the settings of this capacity, this seed, these times and these switches
abbrev pub settings_from : Option ℕ → Option ℕ → Option ℕ → Option ℕ → Bool → Bool → Settings
settings_from capacity seed live idle heard closures =
    record {
      max_capacity = capacity;
      time_to_live = live;
      time_to_idle = idle;
      listener = heard;
      closures = closures;
      seed = seed;
    }

-- the size of the write log and the settings, from what is said of each option
unfoldable pub made_of :
    Option (List ℕ) → Option (List ℕ) → Option (List ℕ) → Option (List ℕ) → Option (List ℕ)
    → Option (List ℕ) → Option (List ℕ) → Option (ℕ × Settings)
made_of cap log seed ttl tti listener closures = do
  capacity ← number_of cap
  size ← log_of log
  seeded ← number_of seed
  live ← number_of ttl
  idle ← number_of tti
  heard ← switch_of listener
  closed ← switch_of closures
  Some (size, settings_from capacity seeded live idle heard closed)

-- the size of the write log and the settings that the options say, one after the other
abbrev pub options_of : List ℕ → Option (ℕ × Settings)
options_of bytes =
    let cap : Option (List ℕ) × List ℕ = cut_option (codes " cap=") bytes in
    let log : Option (List ℕ) × List ℕ = cut_option (codes " log=") cap.1 in
    let seed : Option (List ℕ) × List ℕ = cut_option (codes " seed=") log.1 in
    let ttl : Option (List ℕ) × List ℕ = cut_option (codes " ttl=") seed.1 in
    let tti : Option (List ℕ) × List ℕ = cut_option (codes " tti=") ttl.1 in
    let listener : Option (List ℕ) × List ℕ = cut_option (codes " listener") tti.1 in
    let closures : Option (List ℕ) × List ℕ = cut_option (codes " closures") listener.1 in
    unless_left closures.1 (made_of cap.0 log.0 seed.0 ttl.0 tti.0 listener.0 closures.0)

-- the size of the write log and the settings that the first line says
abbrev pub cache_of : List ℕ → Option (ℕ × Settings)
cache_of line = after (codes "cache") line >>= options_of

-- what was read goes before what is read
abbrev pub with_front : List (Event ℕ ℕ ℕ) → Result (List (Event ℕ ℕ ℕ)) ℕ → Result (List (Event ℕ ℕ ℕ)) ℕ
with_front front (Ok events) = Ok (front ++ events)
with_front front (Err number) = Err number

-- the event of the line of this number goes before the others
abbrev pub event_then :
    ℕ → Option (Event ℕ ℕ ℕ) → Result (List (Event ℕ ℕ ℕ)) ℕ → Result (List (Event ℕ ℕ ℕ)) ℕ
event_then number None others = Err number
event_then number (Some e) others = with_front (e ∷ []) others

-- the events of lines that are numbered from here on, or the first bad line's number
abbrev pub events_from : ℕ → List (List ℕ) → Result (List (Event ℕ ℕ ℕ)) ℕ
events_from number [] = Ok []
events_from number (line ∷ rest) = event_then number (event_of line) (events_from (suc number) rest)

-- the log's size and the settings beside the events
abbrev pub with_cache :
    ℕ × Settings → Result (List (Event ℕ ℕ ℕ)) ℕ → Result (ℕ × Settings × List (Event ℕ ℕ ℕ)) ℕ
with_cache cache (Ok events) = Ok (cache.0, cache.1, events)
with_cache cache (Err number) = Err number

abbrev pub cache_then :
    Option (ℕ × Settings) → Result (List (Event ℕ ℕ ℕ)) ℕ → Result (ℕ × Settings × List (Event ℕ ℕ ℕ)) ℕ
cache_then None events = Err 1
cache_then (Some cache) events = with_cache cache events

abbrev pub schedule_of : List (List ℕ) → Result (ℕ × Settings × List (Event ℕ ℕ ℕ)) ℕ
schedule_of [] = Err 1
schedule_of (first ∷ rest) = cache_then (cache_of first) (events_from 2 rest)

-- the log's size, the settings and the events of a schedule, or the number of the first bad line
unfoldable pub schedule : List ℕ → Result (ℕ × Settings × List (Event ℕ ℕ ℕ)) ℕ
schedule text = schedule_of (lines text)

-- this error was returned for this bad line, or for want of memory, whatever is read
abbrev pub Fails : {Y : Type 0} → ScheduleError → Result Y ℕ → Type 0
Fails (errors.BadLine line) read = read ≡ Err line
Fails errors.Memory read = Unit {0}

-- what was returned, seen by view, is what is read, unless memory ran out
abbrev pub Gives : {X Y : Type 0} → (X → Y) → Result X ScheduleError → Result Y ℕ → Type 0
Gives view (Ok x) read = read ≡ Ok (view x)
Gives view (Err e) read = Fails e read

-- reading the events takes memory: there is one, or the bad line is past the second
abbrev pub EventsMayWantMemory : Result (List (Event ℕ ℕ ℕ)) ℕ → Type 0
EventsMayWantMemory (Ok events) = 0 < length events
EventsMayWantMemory (Err number) = 2 < number

-- reading the schedule takes memory: it has an event, or its bad line is past the second
abbrev pub MayWantMemory : Result (ℕ × Settings × List (Event ℕ ℕ ℕ)) ℕ → Type 0
MayWantMemory (Ok s) = 0 < length s.2
MayWantMemory (Err number) = 2 < number

-- a schedule without where it lies in memory
abbrev pub parts : Schedule → ℕ × Settings × List (Event ℕ ℕ ℕ)
parts s = (s.log, s.settings, s.events.items)

-- each event's own line is read as that event
abbrev pub LinesAreRead : Type 0
LinesAreRead = (e : Event ℕ ℕ ℕ) → EventFits e → event_of (event_line e) ≡ Some e

-- each text that says a schedule is read as that schedule
abbrev pub TextsAreRead : Type 0
TextsAreRead =
    (text : List ℕ) (log : ℕ) (settings : Settings) (events : List (Event ℕ ℕ ℕ)) →
    Says text log settings events → schedule text ≡ Ok (log, settings, events)

-- each text with a bad line is read as the number of the first
abbrev pub BadLinesAreRead : Type 0
BadLinesAreRead = (text : List ℕ) (number : ℕ) → IsFirstBad text number → schedule text ≡ Err number
