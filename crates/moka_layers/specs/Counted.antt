-- What layers tell of the writes that are owed and logged, and of the owner that their call waits for.
use Rattle.std.specs.Prelude.{◌≡◌, ℕ, Bool, false, length, Option, Some, None, is_some}
use Rattle.std.specs.Option.{option_and_then}
use Rattle.std.proofs.Common.{ap, refl, subst, sym}
use Rattle.std.specs.declared.cmp.PartialEq as PartialEq
use Rattle.std.specs.declared.hash.Hash as Hash
use Rattle.std.specs.declared.hash.Hasher as Hasher
use Rattle.std.specs.declared.hash.BuildHasher as BuildHasher
use Rattle.moka_hist.specs.State.{World}
use Rattle.moka_hist.specs.declared.record_tests.Tests as Tests
use Rattle.moka_bound.specs.Falling.{Counts}
use Rattle.moka_table.specs.declared.table.Table as Table
use Rattle.moka_layers.specs.Layers.{GroundIs, work_of}
use Rattle.moka_layers.specs.declared.layers.Layers.{Layers}

-- the owner has ended alike by both
ended_alike : {A : Type 0} (joined joined' : Option ℕ) (settled settled' : ℕ → Option A)
    → joined ≡ joined' → ((n : ℕ) → settled n ≡ settled' n)
    → is_some (option_and_then settled joined) ≡ is_some (option_and_then settled' joined')
ended_alike joined None settled settled' e same =
    subst (λ j. is_some (option_and_then settled j) ≡ false) (sym e) refl
ended_alike joined (Some owner) settled settled' e same =
    subst (λ j. is_some (option_and_then settled j) ≡ is_some (settled' owner)) (sym e)
    (ap is_some (same owner))

-- it is so in each world that they stand for
pub counted : {K V E T C Q S H : Type 0} {same : PartialEq.Ghosts K} {hash : Hash.Ghosts K}
    {build : BuildHasher.Ghosts S H} {hasher : Hasher.Ghosts H}
    (t : Table.Ghosts T K V C) (q : Tests.Ghosts Q K V) (eq : K → K → Bool)
    (layers : Layers K V E T C Q S H same hash build hasher)
    (w : World K V E) → GroundIs eq t q layers w
    → Counts layers.call w (work_of t layers)
counted t q eq layers w h =
    let writes = h.world.desk.writes in
    let loads = h.world.desk.loads in
    record {
      owed = ap length writes.owed;
      logged = ap length writes.log;
      size = writes.size;
      ended = ended_alike _ _ _ _ (loads.joined layers.call) loads.settled;
    }
