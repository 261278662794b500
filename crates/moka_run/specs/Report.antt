-- What a report tells of a state.
use Rattle.std.specs.Prelude.{◌≡◌, ℕ, Bool, List}
use Rattle.moka_hist.specs.State.{State}
use Rattle.moka_hist.specs.declared.notices.Notice.{Notice}
use Rattle.moka_hist.specs.declared.records.Stored.{Stored}
use Rattle.moka_hist.specs.declared.writes.Place.{Place}
use Rattle.moka_machine.specs.Listed.{AreNotices, ArePlaces, tests_in}
use Rattle.moka_table.specs.Map.{ListsPairs}

module _ {K V E : Type 0} where
  -- the lists of a report are those of the state
  pub record Reports (eq : K → K → Bool) (stored : List (K × Stored V)) (writes : List (ℕ × Place))
      (told : List (Notice K V)) (registered : List (ℕ × ℕ)) (s : State K V E) : Type 0 where
    pub entries : ListsPairs eq stored s.world.table.stored
    pub places : ArePlaces writes s
    pub notices : AreNotices told s
    pub tests : registered ≡ tests_in s.world.desk
