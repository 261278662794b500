-- Walking over the records.
use Rattle.std.specs.Prelude.{ℕ, true, false, List, ◌∷◌, ◌++◌, map, Option, Some, None}
use Rattle.moka_hist.specs.State.{Call}
use Rattle.moka_hist.specs.Plan.{Item}
use Rattle.moka_hist.specs.Plan as plan
use Rattle.moka_hist.specs.Next.{Next, gives, goes, stays, waits}
use Rattle.moka_hist.specs.declared.records.Stored.{Stored}
use Rattle.moka_hist.specs.declared.tables.TableTurn.{TableTurn}
use Rattle.moka_hist.specs.declared.tables.TableTurn.TheVariants as turn
use Rattle.moka_hist.specs.declared.tables.TableAnswer.TheVariants as table
use Rattle.moka_hist.specs.declared.visits.Found.{Found}
use Rattle.moka_hist.specs.declared.visits.Found.TheVariants as found

module _ {K V E : Type 0} where
  -- the listed keys are looked up, one after the other
  abbrev pub after_list : Call K V E → List (Item K V E) → TableTurn K V → Next K V E
  after_list c rest turn.Going = stays c
  after_list c rest (turn.Decided (table.Keys keys)) = goes c (map plan.Find keys ++ rest)
  after_list c rest (turn.Decided table.None) = waits c
  after_list c rest (turn.Decided (table.Some there found)) = waits c

  -- what is done with a record that is found: it is judged, or the predicates are struck that hide
  -- it, where the call carries some
  abbrev pub judging : Option (List (ℕ × ℕ)) → K → Stored V → Item K V E
  judging None there found = plan.Scan there found
  judging (Some ids) there found = plan.Strike there found

  -- a key whose record has left is passed over
  abbrev pub after_find : Call K V E → List (Item K V E) → TableTurn K V → Next K V E
  after_find c rest turn.Going = stays c
  after_find c rest (turn.Decided table.None) = goes c rest
  after_find c rest (turn.Decided (table.Some there found)) =
      goes c (judging c.carried there found ∷ rest)
  after_find c rest (turn.Decided (table.Keys keys)) = waits c

  -- a visible record is given, and another is passed over
  abbrev pub after_scan : Call K V E → K → Stored V → List (Item K V E) → Found V E → Next K V E
  after_scan c there stored rest (found.Scan true) = gives c there stored.value rest
  after_scan c there stored rest (found.Scan false) = goes c rest
  after_scan c there stored rest _ = waits c
