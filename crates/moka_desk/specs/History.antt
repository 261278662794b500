-- What a desk keeps of the past.
use Rattle.std.specs.Prelude.{◌≡◌, Bool, ◌&&◌, ◌||◌}
use Rattle.std.specs.declared.cmp.PartialEq as PartialEq
use Rattle.std.specs.declared.hash.Hash as Hash
use Rattle.std.specs.declared.hash.Hasher as Hasher
use Rattle.std.specs.declared.hash.BuildHasher as BuildHasher
use Rattle.moka_desk.specs.Moments.{reads_moments}
use Rattle.moka_desk.specs.declared.state.Desk.{Desk}

module _ {K V E S H : Type 0} {same : PartialEq.Ghosts K} {hash : Hash.Ghosts K}
    {build : BuildHasher.Ghosts S H} {hasher : Hasher.Ghosts H} where
  -- it is kept when records were seen: where there is a history, or a rule reads that
  abbrev pub keeps_moments : Desk K V E S H same hash build hasher → Bool
  keeps_moments desk = desk.moments || reads_moments desk.rules

  -- the desk keeps a history: the writes that were applied, the notices that were opened, and when
  -- each record was seen
  abbrev pub keeps_history : Desk K V E S H same hash build hasher → Bool
  keeps_history desk = desk.writes.applied.history && (desk.notices.history && desk.moments)

  -- it is kept what the listener hears by notices
  abbrev pub keeps_heard : Desk K V E S H same hash build hasher → Bool
  keeps_heard desk = desk.notices.history

  -- each of these is kept, or none is
  abbrev pub KeepsAll : Bool → Desk K V E S H same hash build hasher → Type 0
  KeepsAll history desk =
      (desk.writes.applied.history ≡ history) × (desk.notices.history ≡ history) ×
      (desk.moments ≡ history)

  -- it keeps one exactly where it kept one
  abbrev pub KeepsAsBefore : Desk K V E S H same hash build hasher →
      Desk K V E S H same hash build hasher → Type 0
  KeepsAsBefore old new = keeps_history new ≡ keeps_history old
