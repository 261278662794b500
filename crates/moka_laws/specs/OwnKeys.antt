-- The keys that stored pairs stand under, and how many there are.
use Rattle.std.specs.Prelude.{◌≡◌, ◌≤◌, Bool, true, List, length, Some, IsSome}
use Rattle.std.specs.List.{AllByRecursion, IsDistinct}
use Rattle.moka_hist.specs.State.{State}
use Rattle.moka_hist.specs.Places.{IsLawful}
use Rattle.moka_hist.specs.Run.{Run, IsReached}
use Rattle.moka_hist.specs.declared.events.Event.{Event}
use Rattle.moka_hist.specs.declared.records.Stored.{Stored}
use Rattle.moka_hist.specs.declared.replies.Reply.{Reply}

-- each stored pair stands under its own key
abbrev pub UnderOwnKeys : {K V E : Type 0} → (K → K → Bool) → State K V E → Type 0
UnderOwnKeys {K} {V} {E} eq s =
    (q : K) (p : K × Stored V) → s.world.table.stored q ≡ Some p → eq p.0 q ≡ true

-- in every reached state each stored pair stands under its own key
abbrev pub ReachedIsUnderOwnKeys : (K V E : Type 0) → (K → K → Bool) → Type 0
ReachedIsUnderOwnKeys K V E eq = (s : State K V E) → IsReached eq s → UnderOwnKeys eq s

-- the table counts its keys: no list of different ones that are stored is longer
abbrev pub StoredAreCounted : (K V E : Type 0) → (K → K → Bool) → Type 0
StoredAreCounted K V E eq =
    (s : State K V E) (keys : List K) → IsReached eq s → IsDistinct eq keys →
    AllByRecursion (λ q. IsSome (s.world.table.stored q)) keys → length keys ≤ s.world.table.keys

-- what a run through lawful states leaves of a reached state is reached
abbrev pub ReachedByLawfulRun : (K V E : Type 0) → (K → K → Bool) → Type 0
ReachedByLawfulRun K V E eq =
    (s t : State K V E) (es : List (Event K V E)) (rs : List (Reply K V E)) →
    IsReached eq s → Run eq (IsLawful eq) s es rs t → IsReached eq t
