-- A workload goes on by a turn.
use Rattle.std.proofs.Common.{◌≡◌, ◌≤◌, ℕ, ◌+◌, List, [], ◌∷◌, ◌++◌, ap, ◌∙◌, refl, sym, arith, add-one}
use Rattle.moka_hist.specs.declared.events.Event.{Event}
use Rattle.rand_pcg.specs.Lcg.{Lcg}
use Rattle.rand_pcg.specs.Pcg.{pcg64}
use Rattle.moka_workload.specs.declared.turn.Turn.{Turn}
use Rattle.moka_workload.specs.Made.{GoesBy}
use Rattle.moka_workload.specs.Turns.{calls_in, events_in, started_by, turn_by}
use Rattle.moka_workload.specs.Words.{after_words}
use Rattle.moka_workload.specs.Workload.{turn_after, workload}

pub calls_in-append : (xs ys : List (Event ℕ ℕ ℕ)) → calls_in (xs ++ ys) ≡ calls_in xs + calls_in ys
calls_in-append [] ys = omega arith
calls_in-append (x ∷ xs) ys =
    ap (λ n. started_by x + n) (calls_in-append xs ys) ∙ omega arith

-- the generator has given one word more
pub words_next : (seed n : ℕ) → after_words seed (n + 1) ≡ (pcg64 (after_words seed n)).1
unfolding after_words
words_next seed n = ap (after_words seed) (add-one n)

-- no turn has events
pub workload_none : (seed : ℕ) → workload 0 seed ≡ []
unfolding workload
workload_none seed = refl

pub workload_next : (n seed : ℕ)
    → workload (n + 1) seed ≡ workload n seed ++ events_in (turn_after n seed (workload n seed))
unfolding workload
workload_next n seed = ap (λ m. workload m seed) (add-one n)

-- the calls of one turn more
pub calls_next : (n seed : ℕ) → calls_in (workload (n + 1) seed)
    ≡ calls_in (workload n seed) + calls_in (events_in (turn_after n seed (workload n seed)))
calls_next n seed =
    ap calls_in (workload_next n seed)
    ∙ calls_in-append (workload n seed) (events_in (turn_after n seed (workload n seed)))

-- the turn that the generator's next word decides is the workload's next one
pub turn_next : (seed turns word call : ℕ) (words after : Lcg) → GoesBy seed turns words call
    → (word, after) ≡ pcg64 words
    → turn_by (turns + 1) word call ≡ turn_after turns seed (workload turns seed)
turn_next seed turns word call words after goes drawn =
    let same : word ≡ (pcg64 (after_words seed turns)).0 =
    ap (λ d. d.0) drawn ∙ ap (λ g. (pcg64 g).0) goes.drawn
    in
    λ i. turn_by (turns + 1) (same i) (goes.counted i)

-- one turn more was made
pub goes_next : (seed turns word call calls : ℕ) (words after : Lcg) (turn : Turn)
    → GoesBy seed turns words call → (word, after) ≡ pcg64 words
    → turn ≡ turn_by (turns + 1) word call → calls ≡ calls_in (events_in turn) → calls ≤ 3
    → GoesBy seed (turns + 1) after (call + calls)
goes_next seed turns word call calls words after turn goes drawn is counted few =
    let next : calls ≡ calls_in (events_in (turn_after turns seed (workload turns seed))) =
    counted
    ∙ ap (λ t. calls_in (events_in t)) (is ∙ turn_next seed turns word call words after goes drawn)
    in
    record {
      drawn =
          ap (λ d. d.1) drawn ∙ ap (λ g. (pcg64 g).1) goes.drawn ∙ sym (words_next seed turns);
      counted = omega (arith, next, goes.counted, calls_next turns seed);
      few = omega (arith, goes.few, few);
    }
