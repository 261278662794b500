-- What comes of an access, by the laws of growth.
use Rattle.std.proofs.Common.{◌≡◌, ℕ, Bool, refl}
use Rattle.moka_words.specs.declared.accesses.Seen.{Seen}
use Rattle.moka_words.specs.Effect.{Memory}
use Rattle.moka_growth.specs.Calls.{Call, Step, Going, Decided, next_of}
use Rattle.moka_growth.specs.Fits.{Fits}
use Rattle.moka_growth.specs.Maps.{KeepsMap, Ends}
use Rattle.moka_growth.specs.Turns.{Leads}
use Rattle.moka_growth.specs.Laws.{Makes}
use Rattle.moka_growth.proofs.Stepping.{fits_goes_on, going_keeps_map, ending_is_maps}

pub taken_is_maps : (hash : ℕ → ℕ) (same : ℕ → ℕ → Bool) (mine own : ℕ → Bool) (c : Call) (saw : Seen) (old new : Memory) →
    Makes hash same mine own c saw old new →
    Leads (next_of c saw) (λ d. Fits hash own new d × KeepsMap old new) (λ e. Ends own c.point e old new)
taken_is_maps hash same mine own c saw old new makes = by (next_of c saw) refl
  where
    by : (step : Step) → next_of c saw ≡ step → Leads step (λ d. Fits hash own new d × KeepsMap old new) (λ e. Ends own c.point e old new)
    by (Going d) is = (fits_goes_on hash same mine own c d saw old new makes is, going_keeps_map hash same mine own c d saw old new makes is)
    by (Decided e) is = ending_is_maps hash same mine own c e saw old new makes is
