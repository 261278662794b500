-- What the desk stands for.
use Rattle.std.specs.Prelude.{◌≡◌, ℕ, Bool, true, Option, nat_eq}
use Rattle.std.specs.HashMap.{get}
use Rattle.std.specs.declared.cmp.PartialEq as PartialEq
use Rattle.std.specs.declared.hash.Hash as Hash
use Rattle.std.specs.declared.hash.Hasher as Hasher
use Rattle.std.specs.declared.hash.BuildHasher as BuildHasher
use Rattle.moka_hist.specs.State.{DeskPart}
use Rattle.moka_hist.specs.Visits.{finds, makes}
use Rattle.moka_hist.specs.Conditions.{MayVisit, MayLeave}
use Rattle.moka_hist.specs.declared.visits.Visit.{Visit}
use Rattle.moka_hist.specs.declared.visits.Found.{Found}
use Rattle.moka_hist.specs.declared.writes.Write.{Write}
use Rattle.moka_desk.specs.History.{keeps_moments}
use Rattle.moka_desk.specs.Writes.{write_part, WritesAre}
use Rattle.moka_desk.specs.Loads.{load_part, LoadsAre}
use Rattle.moka_desk.specs.Locks.{lock_part, LocksAre}
use Rattle.moka_desk.specs.Notices.{notice_part, NoticesAre}
use Rattle.moka_desk.specs.Asks.{ask_part, AsksAre}
use Rattle.moka_desk.specs.Predicates.{predicate_part, PredicatesAre}
use Rattle.moka_desk.specs.Waits.{WaitersAreListed}
use Rattle.moka_desk.specs.declared.state.Desk.{Desk}

-- The desk has what the reference's desk has, part by part. Of the past it has with a history all,
-- and without one what its parts say. When records were seen it has where that is kept. Calls that
-- wait for an owner are on its list.
pub record StandsFor {K V E S H : Type 0} {same : PartialEq.Ghosts K} {hash : Hash.Ghosts K}
    {build : BuildHasher.Ghosts S H} {hasher : Hasher.Ghosts H}
    (eq : K → K → Bool) (desk : Desk K V E S H same hash build hasher)
    (w : DeskPart K V E) : Type 0 where
  pub rules : desk.rules ≡ w.rules
  pub clock : desk.clock ≡ w.clock
  pub valid_after : desk.valid_after ≡ w.valid_after
  pub predicates : PredicatesAre desk.predicates (predicate_part w)
  pub accessed : keeps_moments desk ≡ true → (n : ℕ) → get nat_eq desk.accessed n ≡ w.accessed n
  pub turn : desk.turn ≡ w.turn
  pub published : desk.published ≡ w.published
  pub last : desk.last ≡ w.last
  pub writes : WritesAre desk.writes (write_part w)
  pub loads : LoadsAre eq desk.loads (load_part w)
  pub locks : LocksAre eq desk.locks (lock_part w)
  pub notices : NoticesAre desk.notices (notice_part w)
  pub asks : AsksAre desk.asks (ask_part w)
  pub listed : WaitersAreListed desk w

module _ {K V E S H : Type 0} {same : PartialEq.Ghosts K} {hash : Hash.Ghosts K}
    {build : BuildHasher.Ghosts S H} {hasher : Hasher.Ghosts H} (eq : K → K → Bool)
  where
    -- the desk stands for a state that allows the visit
    abbrev pub Can : Desk K V E S H same hash build hasher → Visit K V E → Type 0
    Can desk visit = (w : DeskPart K V E) × StandsFor eq desk w × MayVisit w visit

    -- the visit finds this, in each state that the desk stands for and that allows it
    abbrev pub Finds : Desk K V E S H same hash build hasher → Visit K V E → Found V E → Type 0
    Finds desk visit found =
        (w : DeskPart K V E) → StandsFor eq desk w → MayVisit w visit → found ≡ finds w visit

    -- the visit was made, and nothing else, in each such state
    abbrev pub Makes : Desk K V E S H same hash build hasher → Visit K V E →
        Desk K V E S H same hash build hasher → Type 0
    Makes old visit new =
        (w : DeskPart K V E) → StandsFor eq old w → MayVisit w visit →
        StandsFor eq new (makes eq w visit)

    -- the desk changes as the state does, whatever it stands for
    abbrev pub Becomes : Desk K V E S H same hash build hasher → (DeskPart K V E → DeskPart K V E) →
        Desk K V E S H same hash build hasher → Type 0
    Becomes old change new = (w : DeskPart K V E) → StandsFor eq old w → StandsFor eq new (change w)

    -- nothing has changed of what the desk stands for
    abbrev pub Stays : Desk K V E S H same hash build hasher →
        Desk K V E S H same hash build hasher → Type 0
    Stays old new = Becomes old (λ w. w) new

    -- the call may leave this write, if any: the desk stands for a state that allows it
    abbrev pub CanLeave : Desk K V E S H same hash build hasher → ℕ → Option Write → Type 0
    CanLeave desk call write = (w : DeskPart K V E) × StandsFor eq desk w × MayLeave w call write
