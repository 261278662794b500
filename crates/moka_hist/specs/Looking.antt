-- Looking a key up.
use Rattle.std.specs.Prelude.{ℕ, ◌==◌, Bool, true, false, List, [], ◌∷◌, Option, Some, None}
use Rattle.std.specs.Option.{option_map}
use Rattle.moka_hist.specs.State.{Call}
use Rattle.moka_hist.specs.Plan.{Item, Aim, Shown, put, end_load}
use Rattle.moka_hist.specs.Plan as plan
use Rattle.moka_hist.specs.Next.{Next, goes, stays, waits}
use Rattle.moka_hist.specs.Entries.{unchanged}
use Rattle.moka_hist.specs.declared.records.Stored.{Stored}
use Rattle.moka_hist.specs.declared.rules.Cause.{Cause}
use Rattle.moka_hist.specs.declared.replies.Answer.{Answer}
use Rattle.moka_hist.specs.declared.replies.Answer.TheVariants as answer
use Rattle.moka_hist.specs.declared.tables.TableTurn.{TableTurn}
use Rattle.moka_hist.specs.declared.tables.TableTurn.TheVariants as turn
use Rattle.moka_hist.specs.declared.tables.TableAnswer.TheVariants as table
use Rattle.moka_hist.specs.declared.visits.Found.{Found}
use Rattle.moka_hist.specs.declared.visits.Found.TheVariants as found
use Rattle.moka_hist.specs.declared.visits.Settled.TheVariants as settled

module _ {K V E : Type 0} where
  -- the chosen record stays: the lock is freed, where one is held
  abbrev pub kept_rest : Bool → List (Item K V E)
  kept_rest false = plan.Reply answer.Kept ∷ []
  kept_rest true = plan.Unlock false ∷ plan.Reply answer.Kept ∷ []

  abbrev pub keeps : Call K V E → Next K V E
  keeps c = goes c (kept_rest c.rules.listener)

  -- what a look that only answers says of the pair that the call sees, if it sees one
  abbrev pub shown : Shown K → Option (K × V) → Answer K V E
  shown plan.As_value pair = answer.Found (option_map (λ p. p.1) pair)
  shown (plan.As_report key) pair = unchanged key pair

  -- nothing that the call sees: a get answers so, a load is to be owned, its owner asks, and a
  -- value that was to be stored where nothing is, is stored
  abbrev pub misses : Call K V E → Aim K V → Next K V E
  misses c (plan.To_show form) = goes c (plan.Reply (shown form None) ∷ [])
  misses c (plan.To_load sought) = goes c (plan.Own sought ∷ [])
  misses c (plan.To_own sought) = goes c (plan.Ask sought.load ∷ [])
  misses c (plan.To_insert key value) =
      goes c (put c.rules key value (plan.Reply (answer.Loaded value true) ∷ []))
  misses c (plan.To_compute compute) = goes c (plan.Ask_op compute None ∷ [])
  misses c (plan.To_evict key stamp cause) = keeps c

  -- the value answers; an owner tells it first to those that wait
  abbrev pub hits : Call K V E → Aim K V → K → V → Next K V E
  hits c (plan.To_show form) there value =
      goes c (plan.Reply (shown form (Some (there, value))) ∷ [])
  hits c (plan.To_load sought) there value = goes c (plan.Reply (answer.Loaded value false) ∷ [])
  hits c (plan.To_own sought) there value =
      goes c (end_load (settled.Ready value) (answer.Loaded value false))
  hits c (plan.To_insert key unused) there value =
      goes c (plan.Reply (answer.Loaded value false) ∷ [])
  hits c (plan.To_compute compute) there value =
      goes c (plan.Ask_op compute (Some (there, value)) ∷ [])
  hits c (plan.To_evict key stamp cause) there value = waits c

  -- what is to be done with the pair that was found: it is judged whether it may be seen, or, where
  -- it was chosen to leave and is the record that was chosen, whether it has still to
  abbrev pub chosen_or_not : Call K V E → Bool → K → ℕ → Cause → K → Stored V → Next K V E
  chosen_or_not c false key stamp cause there found = keeps c
  chosen_or_not c true key stamp cause there found =
      goes c (plan.Holds key stamp cause there found ∷ [])

  abbrev pub finds_pair : Call K V E → Aim K V → K → Stored V → Next K V E
  finds_pair c (plan.To_show form) there found =
      goes c (plan.Judge (plan.To_show form) there found ∷ [])
  finds_pair c (plan.To_load sought) there found =
      goes c (plan.Judge (plan.To_load sought) there found ∷ [])
  finds_pair c (plan.To_own sought) there found =
      goes c (plan.Judge (plan.To_own sought) there found ∷ [])
  finds_pair c (plan.To_insert key value) there found =
      goes c (plan.Judge (plan.To_insert key value) there found ∷ [])
  finds_pair c (plan.To_compute compute) there found =
      goes c (plan.Judge (plan.To_compute compute) there found ∷ [])
  finds_pair c (plan.To_evict key stamp cause) there found =
      chosen_or_not c (found.stamp == stamp) key stamp cause there found

  abbrev pub after_get : Call K V E → Aim K V → TableTurn K V → Next K V E
  after_get c aim turn.Going = stays c
  after_get c aim (turn.Decided table.None) = misses c aim
  after_get c aim (turn.Decided (table.Some there found)) = finds_pair c aim there found
  after_get c aim (turn.Decided (table.Keys keys)) = waits c

  abbrev pub after_judge : Call K V E → Aim K V → K → Stored V → Found V E → Next K V E
  after_judge c aim there stored (found.Judge true) = hits c aim there stored.value
  after_judge c aim there stored (found.Judge false) = misses c aim
  after_judge c aim there stored _ = waits c

  -- where the cause holds the record is taken out
  abbrev pub after_holds : Call K V E → K → ℕ → Cause → Found V E → Next K V E
  after_holds c key stamp cause (found.Holds true) =
      goes c (plan.Moment (plan.To_take_out (plan.To_evict_chosen stamp cause) key) ∷ [])
  after_holds c key stamp cause (found.Holds false) = keeps c
  after_holds c key stamp cause _ = waits c
