-- What a desk without a history doesn't tell apart.
use Rattle.std.specs.Prelude.{ℕ, Bool, List, Option}
use Rattle.std.specs.declared.cmp.PartialEq as PartialEq
use Rattle.std.specs.declared.hash.Hash as Hash
use Rattle.std.specs.declared.hash.Hasher as Hasher
use Rattle.std.specs.declared.hash.BuildHasher as BuildHasher
use Rattle.moka_hist.specs.SoundDesk.{SoundDesk}
use Rattle.moka_hist.specs.State.{DeskPart}
use Rattle.moka_hist.specs.declared.notices.Notice.{Notice}
use Rattle.moka_hist.specs.declared.writes.Write.{Write}
use Rattle.moka_desk.specs.StandsFor.{StandsFor}
use Rattle.moka_desk.specs.declared.state.Desk.{Desk}

-- the state, but with another past
abbrev pub with_past : {K V E : Type 0} → DeskPart K V E → List Write → (ℕ → Option (Notice K V)) →
    DeskPart K V E
with_past w applied notices = record w { applied = applied; notices = notices }

-- The desk stands for a state that has P, and is this one but for its past. It is sound where this
-- one is.
pub record AllowsAlike {K V E S H : Type 0} {same : PartialEq.Ghosts K} {hash : Hash.Ghosts K}
    {build : BuildHasher.Ghosts S H} {hasher : Hasher.Ghosts H}
    (eq : K → K → Bool) (desk : Desk K V E S H same hash build hasher) (w : DeskPart K V E)
    (P : DeskPart K V E → Type 0) : Type 0 where
  pub applied : List Write
  pub notices : ℕ → Option (Notice K V)
  pub stands : StandsFor eq desk (with_past w applied notices)
  pub sound : SoundDesk eq w → SoundDesk eq (with_past w applied notices)
  pub holds : P (with_past w applied notices)
