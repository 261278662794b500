-- Who is listed at the desk misses what it waits for.
use Rattle.std.specs.Prelude.{◌≡◌, ◌≢◌, ℕ, Bool, true, List, Some, IsSome, IsNone}
use Rattle.std.specs.declared.cmp.PartialEq as PartialEq
use Rattle.std.specs.declared.hash.Hash as Hash
use Rattle.std.specs.declared.hash.Hasher as Hasher
use Rattle.std.specs.declared.hash.BuildHasher as BuildHasher
use Rattle.moka_hist.specs.State.{DeskPart}
use Rattle.moka_hist.specs.Conditions.{MayVisit}
use Rattle.moka_hist.specs.Visits.{is_running, key_under, makes}
use Rattle.moka_hist.specs.declared.visits.Visit.{Visit}
use Rattle.moka_sync.specs.Waiting.{waits}
use Rattle.moka_desk.specs.StandsFor.{StandsFor}
use Rattle.moka_desk.specs.Waits.{turn_line, settlement_line, lock_line, notice_line, answer_line}
use Rattle.moka_desk.specs.declared.state.Desk.{Desk}

-- each call on one of these lists is so to the number of that list
abbrev pub EachListed : (ℕ → List ℕ) → (ℕ → ℕ → Type 0) → Type 0
EachListed line Is = (number call : ℕ) → waits call (line number) ≡ true → Is number call

-- Each call that is listed misses that thing: another has the turn; it waits for an owner that has
-- not settled; its ask is open; a lock is held under another number; the notice runs.
pub record ListedMiss {K V E S H : Type 0} {same : PartialEq.Ghosts K} {hash : Hash.Ghosts K}
    {build : BuildHasher.Ghosts S H} {hasher : Hasher.Ghosts H}
    (desk : Desk K V E S H same hash build hasher) (w : DeskPart K V E) : Type 0 where
  pub turns : EachListed (turn_line desk) (λ n call. (w.turn ≡ Some n) × (n ≢ call))
  pub settlements : EachListed (settlement_line desk)
      (λ n call. (w.joined call ≡ Some n) × IsNone (w.settled n))
  pub answers : EachListed (answer_line desk) (λ n call. (n ≡ call) × IsSome (w.asks n))
  pub locks : EachListed (lock_line desk) (λ n call. IsSome (key_under w n) × (n ≢ call))
  pub notices : EachListed (notice_line desk) (λ n call. is_running w n ≡ true)

module _ {K V E S H : Type 0} {same : PartialEq.Ghosts K} {hash : Hash.Ghosts K}
    {build : BuildHasher.Ghosts S H} {hasher : Hasher.Ghosts H} (eq : K → K → Bool)
  where
    -- where those that were listed missed their things, they do so once the state has changed like
    -- this
    abbrev pub MissWith : Desk K V E S H same hash build hasher →
        (DeskPart K V E → DeskPart K V E) →
        Desk K V E S H same hash build hasher → Type 0
    MissWith old change new =
        (w : DeskPart K V E) → StandsFor eq old w → ListedMiss old w → ListedMiss new (change w)

    -- and once the visit was made, in each state that allows it
    abbrev pub MissAfter : Desk K V E S H same hash build hasher → Visit K V E →
        Desk K V E S H same hash build hasher → Type 0
    MissAfter old visit new =
        (w : DeskPart K V E) → StandsFor eq old w → MayVisit w visit → ListedMiss old w →
        ListedMiss new (makes eq w visit)
