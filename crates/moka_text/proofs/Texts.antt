-- Whole texts: what is read is said, and what is said is read.
use Rattle.std.proofs.Common.{◌≡◌, ℕ, suc, ◌+◌, ◌⊎◌, List, [], ◌∷◌, ◌++◌, length, map, Option, Some, None, IfSome, IfOk, Result, Ok, Err, refl, sym, ap, ◌∙◌, subst, inl, inr, arith}
use Rattle.std.specs.List.{AllByRecursion}
use Rattle.std.proofs.lemmas.Option.{same_Some, none-some}
use Rattle.moka_hist.specs.declared.events.Event.{Event}
use Rattle.moka_hist.specs.declared.settings.Settings.{Settings}
use Rattle.moka_text.specs.declared.schedules.Schedule.{Schedule}
use Rattle.moka_text.specs.declared.schedules.ScheduleError.{ScheduleError}
use Rattle.moka_text.specs.declared.schedules.ScheduleError.TheVariants as errors
use Rattle.moka_lines.specs.Lines.{lines}
use Rattle.moka_text.specs.ScheduleText.{event_line, EventFits, IsCacheLine, SpellsNone, Says, BeginsBadly, IsFirstBad}
use Rattle.moka_text.specs.ScheduleReading.{event_of, event_then, events_from, with_front, with_cache, cache_of, cache_then, schedule_of, schedule, Gives, parts}
use Rattle.moka_text.proofs.Spelled.{event_is, event_read, event_none}
use Rattle.moka_text.proofs.CacheLine.{cache_is, cache_read}

-- a value that is there has what each value there has
value_has : {X : Type 0} (P : X → Type 0) (o : Option X) (x : X) → IfSome o P → o ≡ Some x → P x
value_has P (Some y) x h e = subst P (same_Some y x e) h
value_has P None x h e = absurd (none-some x e)

joined : {X : Type 0} {a b : X} {xs ys : List X} → a ≡ b → xs ≡ ys → a ∷ xs ≡ b ∷ ys
joined {X} {a} {b} {xs} {ys} e f = cc

head_of : {X : Type 0} {a b : X} {xs ys : List X} → a ∷ xs ≡ b ∷ ys → a ≡ b
head_of {X} {a} {b} {xs} {ys} e = cc

-- the first line's event, and the others
record Splits (o : Option (Event ℕ ℕ ℕ)) (r : Result (List (Event ℕ ℕ ℕ)) ℕ) (events : List (Event ℕ ℕ ℕ)) : Type 0 where
  first : Event ℕ ℕ ℕ
  rest : List (Event ℕ ℕ ℕ)
  is : o ≡ Some first
  others : r ≡ Ok rest
  whole : first ∷ rest ≡ events

splits : (number : ℕ) (o : Option (Event ℕ ℕ ℕ)) (r : Result (List (Event ℕ ℕ ℕ)) ℕ) (events : List (Event ℕ ℕ ℕ)) → event_then number o r ≡ Ok events → Splits o r events
splits number (Some e) (Ok rest) events h = record { first = e; rest = rest; is = refl; others = refl; whole = cc }
splits number (Some e) (Err k) events h = absurd cc
splits number None r events h = absurd cc

-- what is read of lines are the events that they spell
events_said : (number : ℕ) (ls : List (List ℕ)) (events : List (Event ℕ ℕ ℕ)) → events_from number ls ≡ Ok events → (ls ≡ map event_line events) × AllByRecursion EventFits events
events_said number [] [] h = (refl, tt)
events_said number [] (e ∷ events) h = absurd cc
events_said number (l ∷ ls) events h =
    let s = splits number (event_of l) (events_from (suc number) ls) events h in
    let line = value_has (λ e. (l ≡ event_line e) × EventFits e) (event_of l) s.first (event_is l) s.is in
    let rest = events_said (suc number) ls s.rest s.others in
    let both : l ∷ ls ≡ map event_line (s.first ∷ s.rest) = joined line.0 rest.0 in
    subst (λ es. (l ∷ ls ≡ map event_line es) × AllByRecursion EventFits es) s.whole (both, (line.1, rest.1))

-- lines that spell events are read as those
events_read : (number : ℕ) (events : List (Event ℕ ℕ ℕ)) → AllByRecursion EventFits events → events_from number (map event_line events) ≡ Ok events
events_read number [] fit = refl
events_read number (e ∷ events) fit =
    ap (λ o. event_then number o (events_from (suc number) (map event_line events))) (event_read e fit.0) ∙ ap (with_front (e ∷ [])) (events_read (suc number) events fit.1)

-- lines that spell events, and then one that spells none, whose number this is
record Stops (number : ℕ) (ls : List (List ℕ)) (bad : ℕ) : Type 0 where
  events : List (Event ℕ ℕ ℕ)
  line : List ℕ
  rest : List (List ℕ)
  split : ls ≡ map event_line events ++ line ∷ rest
  fit : AllByRecursion EventFits events
  none : SpellsNone line
  place : bad ≡ length events + number

stops : (number : ℕ) (o : Option (Event ℕ ℕ ℕ)) (r : Result (List (Event ℕ ℕ ℕ)) ℕ) (bad : ℕ) → event_then number o r ≡ Err bad → ((o ≡ None) × (bad ≡ number)) ⊎ ((e : Event ℕ ℕ ℕ) × (o ≡ Some e) × (r ≡ Err bad))
stops number None r bad h = inl (refl, cc)
stops number (Some e) (Ok rest) bad h = absurd cc
stops number (Some e) (Err k) bad h = inr (e, refl, cc)

bad_at : (number : ℕ) (l : List ℕ) (ls : List (List ℕ)) (bad : ℕ) → (events_from (suc number) ls ≡ Err bad → Stops (suc number) ls bad) → ((event_of l ≡ None) × (bad ≡ number)) ⊎ ((e : Event ℕ ℕ ℕ) × (event_of l ≡ Some e) × (events_from (suc number) ls ≡ Err bad)) → Stops number (l ∷ ls) bad
bad_at number l ls bad later (inl h) =
    record { events = []; line = l; rest = ls; split = refl; fit = tt; none = event_none l h.0; place = omega (arith, h.1) }
bad_at number l ls bad later (inr h) =
    let r = later h.2 in
    let line = value_has (λ e. (l ≡ event_line e) × EventFits e) (event_of l) h.0 (event_is l) h.1 in
    record {
      events = h.0 ∷ r.events;
      line = r.line;
      rest = r.rest;
      split = joined line.0 r.split;
      fit = (line.1, r.fit);
      none = r.none;
      place = omega (arith, r.place);
    }

-- the first bad line of what is read
events_bad : (number : ℕ) (ls : List (List ℕ)) (bad : ℕ) → events_from number ls ≡ Err bad → Stops number ls bad
events_bad number [] bad h = absurd cc
events_bad number (l ∷ ls) bad h = bad_at number l ls bad (events_bad (suc number) ls bad) (stops number (event_of l) (events_from (suc number) ls) bad h)

-- the cache and the events of what is read
cache_and_events : (o : Option (ℕ × Settings)) (r : Result (List (Event ℕ ℕ ℕ)) ℕ) (log : ℕ) (settings : Settings) (events : List (Event ℕ ℕ ℕ)) → cache_then o r ≡ Ok (log, settings, events) → (o ≡ Some (log, settings)) × (r ≡ Ok events)
cache_and_events None r log settings events h = absurd cc
cache_and_events (Some c) (Err bad) log settings events h = absurd cc
cache_and_events (Some c) (Ok es) log settings events h =
    let p : ◌≡◌ {A = ℕ × Settings × List (Event ℕ ℕ ℕ)} (c.0, c.1, es) (log, settings, events) = cc in
    (ap (λ q. Some (q.0, q.1)) p, ap (λ q. Ok q.2) p)

said_of : (text : List ℕ) (ls : List (List ℕ)) (log : ℕ) (settings : Settings) (events : List (Event ℕ ℕ ℕ)) → lines text ≡ ls → schedule_of ls ≡ Ok (log, settings, events) → Says text log settings events
said_of text [] log settings events split h = absurd cc
said_of text (first ∷ rest) log settings events split h =
    let p = cache_and_events (cache_of first) (events_from 2 rest) log settings events h in
    let said = events_said 2 rest events p.1 in
    record {
      first = first;
      cache = value_has (λ c. IsCacheLine first c.0 c.1) (cache_of first) (log, settings) (cache_is first) p.0;
      split = split ∙ ap (λ ls. first ∷ ls) said.0;
      fit = said.1;
    }

-- what is read of a text is what it says
pub schedule_said : (text : List ℕ) (log : ℕ) (settings : Settings) (events : List (Event ℕ ℕ ℕ)) → schedule text ≡ Ok (log, settings, events) → Says text log settings events
unfolding schedule
schedule_said text log settings events h = said_of text (lines text) log settings events refl h

-- what a text says is read
pub says_read : (text : List ℕ) (log : ℕ) (settings : Settings) (events : List (Event ℕ ℕ ℕ)) → Says text log settings events → schedule text ≡ Ok (log, settings, events)
unfolding schedule
says_read text log settings events s =
    ap schedule_of s.split
    ∙ ap (λ o. cache_then o (events_from 2 (map event_line events))) (cache_read s.first log settings s.cache) ∙ ap (with_cache (log, settings)) (events_read 2 events s.fit)

first_or_later : (o : Option (ℕ × Settings)) (r : Result (List (Event ℕ ℕ ℕ)) ℕ) (bad : ℕ) → cache_then o r ≡ Err bad → ((o ≡ None) × (bad ≡ 1)) ⊎ ((c : ℕ × Settings) × (o ≡ Some c) × (r ≡ Err bad))
first_or_later None r bad h = inl (refl, cc)
first_or_later (Some c) (Ok events) bad h = absurd cc
first_or_later (Some c) (Err k) bad h = inr (c, refl, cc)

bad_of_lines : (text first : List ℕ) (rest : List (List ℕ)) (bad : ℕ) → lines text ≡ first ∷ rest → ((cache_of first ≡ None) × (bad ≡ 1)) ⊎ ((c : ℕ × Settings) × (cache_of first ≡ Some c) × (events_from 2 rest ≡ Err bad)) → IsFirstBad text bad
bad_of_lines text first rest bad split (inl h) =
    inl (
      h.1,
      λ other more log settings same cache.
          let one : other ≡ first = head_of (sym same ∙ split) in
          none-some (log, settings) (sym h.0 ∙ ap cache_of (sym one) ∙ cache_read other log settings cache),
    )
bad_of_lines text first rest bad split (inr h) =
    let r = events_bad 2 rest bad h.2 in
    inr (
      r.events,
      record {
        first = first;
        log = h.0.0;
        settings = h.0.1;
        cache = value_has (λ c. IsCacheLine first c.0 c.1) (cache_of first) h.0 (cache_is first) h.1;
        line = r.line;
        rest = r.rest;
        split = split ∙ ap (λ ls. first ∷ ls) r.split;
        fit = r.fit;
        none = r.none;
      },
      r.place,
    )

bad_of : (text : List ℕ) (ls : List (List ℕ)) (bad : ℕ) → lines text ≡ ls → schedule_of ls ≡ Err bad → IsFirstBad text bad
bad_of text [] bad split h = inl (cc, λ first rest log settings same cache. absurd cc)
bad_of text (first ∷ rest) bad split h = bad_of_lines text first rest bad split (first_or_later (cache_of first) (events_from 2 rest) bad h)

-- a bad line that is read is the first
pub schedule_bad : (text : List ℕ) (bad : ℕ) → schedule text ≡ Err bad → IsFirstBad text bad
unfolding schedule
schedule_bad text bad h = bad_of text (lines text) bad refl h

-- what was returned is what the text says
pub found_said : (text : List ℕ) (r : Result Schedule ScheduleError) → Gives parts r (schedule text) → IfOk r (λ s. Says text s.log s.settings s.events.items)
found_said text (Ok s) h = schedule_said text s.log s.settings s.events.items h
found_said text (Err e) h = tt

-- and the bad line that was returned is the first
pub returned_bad : (text : List ℕ) (r : Result Schedule ScheduleError) → Gives parts r (schedule text) → (bad : ℕ) → r ≡ Err (errors.BadLine bad) → IsFirstBad text bad
returned_bad text r h bad e = schedule_bad text bad (subst (λ q. Gives parts q (schedule text)) e h)

-- where no value has what each value there has, there is none
no_value : {X : Type 0} (P : X → Type 0) (o : Option X) → IfSome o P → ((x : X) → P x → ⊥) → o ≡ None
no_value P (Some x) h none = absurd (none x h)
no_value P None h none = refl

-- events, and then a line that spells none
read_stops : (number : ℕ) (events : List (Event ℕ ℕ ℕ)) (line : List ℕ) (rest : List (List ℕ)) → AllByRecursion EventFits events → SpellsNone line → events_from number (map event_line events ++ line ∷ rest) ≡ Err (length events + number)
read_stops number [] line rest fit none =
    ap (λ o. event_then number o (events_from (suc number) rest)) (no_value _ (event_of line) (event_is line) (λ e h. none e h.1 h.0)) ∙ ap Err (omega arith)
read_stops number (e ∷ events) line rest fit none =
    ap (λ o. event_then number o (events_from (suc number) (map event_line events ++ line ∷ rest))) (event_read e fit.0)
    ∙ ap (with_front (e ∷ [])) (read_stops (suc number) events line rest fit.1 none) ∙ ap Err (omega arith)

bad_first : (text : List ℕ) (ls : List (List ℕ)) → lines text ≡ ls → BeginsBadly text → schedule_of ls ≡ Err 1
bad_first text [] split bad = refl
bad_first text (first ∷ rest) split bad =
    ap (λ o. cache_then o (events_from 2 rest)) (no_value (λ c. IsCacheLine first c.0 c.1) (cache_of first) (cache_is first) (λ c cache. bad first rest c.0 c.1 split cache))

-- the first bad line is read
pub bad_read : (text : List ℕ) (number : ℕ) → IsFirstBad text number → schedule text ≡ Err number
unfolding schedule
bad_read text number (inl h) = bad_first text (lines text) refl h.1 ∙ ap Err (sym h.0)
bad_read text number (inr h) =
    let g = h.1 in
    ap schedule_of g.split
    ∙ ap (λ o. cache_then o (events_from 2 (map event_line h.0 ++ g.line ∷ g.rest))) (cache_read g.first g.log g.settings g.cache)
    ∙ ap (with_cache (g.log, g.settings)) (read_stops 2 h.0 g.line g.rest g.fit g.none) ∙ ap Err (sym h.2)
