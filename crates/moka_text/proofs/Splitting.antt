-- The lines of a text, taken off one by one.
use Rattle.std.proofs.Common.{◌≡◌, ℕ, suc, ◌+◌, ◌<◌, ◌≤◌, Option, subst, length-append, true, false, eqb, List, [], ◌∷◌, ◌++◌, length, drop, Some, None, Result, Ok, Err, refl, sym, ap, ◌∙◌, append_assoc, append-nil, add-one, arith}
use Rattle.std.proofs.lemmas.Option.{none-some}
use Rattle.moka_hist.specs.declared.events.Event.{Event}
use Rattle.moka_hist.specs.declared.settings.Settings.{Settings}
use Rattle.moka_text.specs.declared.schedules.ScheduleError.{ScheduleError}
use Rattle.moka_text.specs.declared.schedules.ScheduleError.TheVariants as errors
use Rattle.moka_lines.specs.Words.{before_byte, after_byte}
use Rattle.moka_text.specs.Words.{from_byte}
use Rattle.moka_lines.specs.Lines.{lines}
use Rattle.moka_lines.proofs.Splitting.{place_here, place_later, lines_cut}
use Rattle.moka_text.specs.ScheduleReading.{event_of, event_then, events_from, with_front, with_cache, cache_of, cache_then, schedule_of, schedule, Fails, EventsMayWantMemory, MayWantMemory}

-- the mark stands first
pub from_here : (m b : ℕ) (bs : List ℕ) → eqb b m ≡ true → from_byte m (b ∷ bs) ≡ b ∷ bs
from_here m b bs e = ap (λ n. drop n (b ∷ bs)) (place_here m b bs e)

-- another byte stands first
pub from_later : (m b : ℕ) (bs : List ℕ) → eqb b m ≡ false → from_byte m (b ∷ bs) ≡ from_byte m bs
from_later m b bs e = ap (λ n. drop n (b ∷ bs)) (place_later m b bs e)

-- what is read goes after what was read
pub front_front : (done more : List (Event ℕ ℕ ℕ)) (r : Result (List (Event ℕ ℕ ℕ)) ℕ) → with_front done (with_front more r) ≡ with_front (done ++ more) r
front_front done more (Ok events) = ap Ok (sym (append_assoc done more events))
front_front done more (Err number) = refl

-- a line that spells an event
pub read_one : (done : List (Event ℕ ℕ ℕ)) (number : ℕ) (rest : List ℕ) (e : Event ℕ ℕ ℕ) → 0 < length rest → Some e ≡ event_of (before_byte 10 rest) → with_front (done ++ e ∷ []) (events_from (number + 1) (lines (after_byte 10 rest))) ≡ with_front done (events_from number (lines rest))
read_one done number rest e some is =
    sym (front_front done (e ∷ []) (events_from (number + 1) (lines (after_byte 10 rest))))
    ∙ ap (with_front done) (ap (λ n. with_front (e ∷ []) (events_from n (lines (after_byte 10 rest)))) (add-one number)
    ∙ ap (λ o. event_then number o (events_from (suc number) (lines (after_byte 10 rest)))) is
    ∙ ap (events_from number) (sym (lines_cut rest some)))

-- a line that spells none
pub read_none : (done : List (Event ℕ ℕ ℕ)) (number : ℕ) (rest : List ℕ) → 0 < length rest → None ≡ event_of (before_byte 10 rest) → with_front done (events_from number (lines rest)) ≡ Err number
read_none done number rest some is =
    ap (with_front done) (ap (events_from number) (lines_cut rest some)
    ∙ ap (λ o. event_then number o (events_from (suc number) (lines (after_byte 10 rest)))) (sym is))

-- the front of what is read leaves a bad line's number as it is
with_front_bad : (done : List (Event ℕ ℕ ℕ)) (r : Result (List (Event ℕ ℕ ℕ)) ℕ) (bad : ℕ) → with_front done r ≡ Err bad → r ≡ Err bad
with_front_bad done (Ok events) bad e = absurd cc
with_front_bad done (Err number) bad e = e

-- a bad line is none before the first
bad_later : (number : ℕ) (ls : List (List ℕ)) (bad : ℕ) → events_from number ls ≡ Err bad → number ≤ bad
bad_later number [] bad e = absurd cc
bad_later number (l ∷ ls) bad e = by (event_of l) (λ f. bad_later (suc number) ls bad f) e where
  by : (o : Option (Event ℕ ℕ ℕ)) → (events_from (suc number) ls ≡ Err bad → suc number ≤ bad) → event_then number o (events_from (suc number) ls) ≡ Err bad → number ≤ bad
  by None later f = let same : number ≡ bad = cc in omega (arith, same)
  by (Some x) later f = let less = later (with_front_bad (x ∷ []) (events_from (suc number) ls) bad f) in omega (arith, less)

-- what is read past an event takes memory
pub takes_memory : (done : List (Event ℕ ℕ ℕ)) (e : Event ℕ ℕ ℕ) (number : ℕ) (ls : List (List ℕ)) (whole : Result (List (Event ℕ ℕ ℕ)) ℕ) → 2 ≤ number → with_front (done ++ e ∷ []) (events_from (number + 1) ls) ≡ whole → EventsMayWantMemory whole
takes_memory done e number ls whole two is = subst EventsMayWantMemory is (by (events_from (number + 1) ls) refl) where
  by : (r : Result (List (Event ℕ ℕ ℕ)) ℕ) → events_from (number + 1) ls ≡ r → EventsMayWantMemory (with_front (done ++ e ∷ []) r)
  by (Ok events) f = grind (arith, length-append)
  by (Err bad) f = let less = bad_later (number + 1) ls bad f in omega (arith, two, less)

-- errors are the same, whatever was to be returned
pub same_error : {X Y : Type 0} (e f : ScheduleError) (r : Result X ScheduleError) → r ≡ Err e → r ≡ Err f → (q : Result Y ScheduleError) → q ≡ Err e → q ≡ Err f
same_error e f r h m q g = let same : e ≡ f = cc in g ∙ ap Err same

-- the whole takes memory where its events do
pub whole_takes_memory : (cache : ℕ × Settings) (whole : Result (ℕ × Settings × List (Event ℕ ℕ ℕ)) ℕ) (events : Result (List (Event ℕ ℕ ℕ)) ℕ) → whole ≡ with_cache cache events → EventsMayWantMemory events → MayWantMemory whole
whole_takes_memory cache whole events e h = subst MayWantMemory (sym e) (by events h) where
  by : (r : Result (List (Event ℕ ℕ ℕ)) ℕ) → EventsMayWantMemory r → MayWantMemory (with_cache cache r)
  by (Ok xs) g = g
  by (Err n) g = g

-- no line is left
pub read_end : (done : List (Event ℕ ℕ ℕ)) (number : ℕ) (rest : List ℕ) → length rest ≡ 0 → with_front done (events_from number (lines rest)) ≡ Ok done
read_end done number [] h = ap Ok (append-nil done)
read_end done number (b ∷ bs) h = absurd (omega arith)

-- a first line that says no cache
pub no_cache : (text : List ℕ) → None ≡ cache_of (before_byte 10 text) → schedule text ≡ Err 1
unfolding schedule
no_cache [] h = refl
no_cache (b ∷ bs) h = ap schedule_of (lines_cut (b ∷ bs) (omega arith)) ∙ ap (λ o. cache_then o (events_from 2 (lines (after_byte 10 (b ∷ bs))))) (sym h)

no_cache_of_nothing : cache_of [] ≡ None
no_cache_of_nothing = refl

-- a first line that says one
pub with_rest : (text : List ℕ) (cache : ℕ × Settings) → Some cache ≡ cache_of (before_byte 10 text) → schedule text ≡ with_cache cache (events_from 2 (lines (after_byte 10 text)))
unfolding schedule
with_rest [] cache h = absurd (none-some cache (sym (h ∙ no_cache_of_nothing)))
with_rest (b ∷ bs) cache h = ap schedule_of (lines_cut (b ∷ bs) (omega arith)) ∙ ap (λ o. cache_then o (events_from 2 (lines (after_byte 10 (b ∷ bs))))) (sym h)

-- an error of the events is one of the whole
pub passed_on : (e : ScheduleError) (cache : ℕ × Settings) (whole : Result (ℕ × Settings × List (Event ℕ ℕ ℕ)) ℕ) (events : Result (List (Event ℕ ℕ ℕ)) ℕ) → whole ≡ with_cache cache events → Fails e events → Fails e whole
passed_on (errors.BadLine line) cache whole events e h = e ∙ ap (with_cache cache) h
passed_on errors.Memory cache whole events e h = tt
