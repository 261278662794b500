-- What holds of the small states that a cache is seen as.
use Rattle.std.specs.Prelude.{◌≡◌, ◌⊎◌, ℕ, Bool, true, Some, IsSome}
use Rattle.std.specs.Option.{option_and_then}
use Rattle.moka_hist.specs.Finite.{load_eq}
use Rattle.moka_hist.specs.State.{State}
use Rattle.moka_hist.specs.declared.loads.Load.{Load}
use Rattle.moka_small.specs.Small.{Waits, Small, load_at}
use Rattle.moka_small.specs.Polled.{owns}
use Rattle.moka_small.specs.Seen.{IsSeenAs}

-- no two calls own equal loads: of those that ask, or were told
abbrev pub OneOwnsEach : (K V E : Type 0) → (K → K → Bool) → Type 0
OneOwnsEach K V E eq =
    (s : State K V E) (m : Small K V E) (a b : ℕ) (load other : Load K) → IsSeenAs eq s m →
    option_and_then load_at (m.stands a) ≡ Some load →
    option_and_then load_at (m.stands b) ≡ Some other → load_eq eq load other ≡ true → a ≡ b

-- a call that waits waits for a live one that owns an equal load, or for an end that is kept
abbrev pub WaitersAreServed : (K V E : Type 0) → (K → K → Bool) → Type 0
WaitersAreServed K V E eq =
    (s : State K V E) (m : Small K V E) (n owner : ℕ) (load : Load K) → IsSeenAs eq s m →
    m.stands n ≡ Some (Waits owner load) →
    (owns eq (m.stands owner) load ≡ true) ⊎ IsSome (m.ends owner)
