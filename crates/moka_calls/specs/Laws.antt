-- What a table may rest on that drives such calls.
use Rattle.std.specs.Prelude.{◌≡◌, ℕ, ◌≤◌, ◌^◌, Bool, length, Some}
use Rattle.moka_words.specs.declared.accesses.Access.{Access}
use Rattle.moka_words.specs.declared.accesses.Seen.{Seen}
use Rattle.moka_words.specs.Effect.{Memory, array_at, Effect}
use Rattle.moka_growth.specs.Sound.{IsSound}
use Rattle.moka_growth.specs.Calls.{Call, next_of}
use Rattle.moka_growth.specs.Fits.{Fits}
use Rattle.moka_growth.specs.Maps.{KeepsMap, Ends}
use Rattle.moka_growth.specs.Turns.{Leads}
use Rattle.moka_growth.specs.Laws.{Makes}
use Rattle.moka_calls.specs.Standing.{MaySee}

-- no array is longer than 2^60
abbrev pub AreShort : Memory → Type 0
AreShort m = (place a : ℕ) → array_at m place ≡ Some a → length (m.words a) ≤ 2 ^ 60

-- what an access sees that leads from one sound segment to another is what a call may take
abbrev pub SeenIsTaken : Type 0
SeenIsTaken =
    (hash : ℕ → ℕ) (same : ℕ → ℕ → Bool) (mine own : ℕ → Bool) (access : Access) (saw : Seen)
    (old new : Memory) →
    IsSound hash same mine old → IsSound hash same mine new → AreShort old → AreShort new →
    Effect hash own access saw old new →
    MaySee access saw

-- a fitting call that takes what its access saw fits the memory left, with the map as it was, or
-- has ended by the map
abbrev pub TakenIsMaps : Type 0
TakenIsMaps =
    (hash : ℕ → ℕ) (same : ℕ → ℕ → Bool) (mine own : ℕ → Bool) (c : Call) (saw : Seen)
    (old new : Memory) →
    Makes hash same mine own c saw old new →
    Leads (next_of c saw) (λ d. Fits hash own new d × KeepsMap old new)
    (λ e. Ends own c.point e old new)
