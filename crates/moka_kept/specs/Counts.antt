-- What a caller is told who looks under the lock.
use Rattle.std.specs.Prelude.{ℕ, Bool, false, Option, None, Some}
use Rattle.std.specs.Option.{option_map_or}
use Rattle.moka_hist.specs.State.{DeskPart, World}
use Rattle.moka_hist.specs.Visits.{is_seen}
use Rattle.moka_desk.specs.Moments.{is_shown}
use Rattle.moka_hist.specs.declared.records.Stored.{Stored}
use Rattle.moka_hist.specs.declared.tables.TableAnswer.TheVariants as answer
use Rattle.moka_hist.specs.declared.tables.TableTurn.{TableTurn}
use Rattle.moka_hist.specs.declared.tables.TableTurn.TheVariants as turn

module _ {K V E : Type 0} where
  -- a get of the key would find a record: there is one, and a call without a replace test sees it
  -- by the clock
  abbrev pub sees : World K V E → K → Bool
  sees w key =
      option_map_or (λ pair. is_seen w.desk None pair.0 pair.1) (w.table.stored key) false

-- a record's mark: its stamp, and the moment of its write
abbrev pub mark_of : {V : Type 0} → Stored V → ℕ × ℕ
mark_of stored = (stored.stamp, stored.modified)

-- a record of this mark, if there is one, is visible by the clock, where no predicate hits it
abbrev pub shows : {K V E : Type 0} → DeskPart K V E → Option (ℕ × ℕ) → Bool
shows w mark = option_map_or (λ m. is_shown w false m.0 m.1) mark false

-- the mark of the record that a look found, where it has decided and found one
abbrev pub mark_found : {K V : Type 0} → TableTurn K V → Option (ℕ × ℕ)
mark_found turn.Going = None
mark_found (turn.Decided answer.None) = None
mark_found (turn.Decided (answer.Some key stored)) = Some (mark_of stored)
mark_found (turn.Decided (answer.Keys keys)) = None
