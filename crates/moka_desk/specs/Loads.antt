-- What the kept loads stand for.
use Rattle.std.specs.Prelude.{◌≡◌, ℕ, Bool, true, Option, Some, None, cond, is_some, unwrap_or, nat_eq, IsSomeAnd}
use Rattle.std.specs.HashMap.{get}
use Rattle.std.specs.declared.cmp.PartialEq as PartialEq
use Rattle.std.specs.declared.hash.Hash as Hash
use Rattle.std.specs.declared.hash.Hasher as Hasher
use Rattle.std.specs.declared.hash.BuildHasher as BuildHasher
use Rattle.moka_hist.specs.Finite.{load_eq}
use Rattle.moka_hist.specs.State.{DeskPart}
use Rattle.moka_hist.specs.declared.loads.Load.{Load}
use Rattle.moka_hist.specs.declared.visits.Settled.{Settled}
use Rattle.moka_desk.specs.declared.loads.Loads.{Loads}

-- What the desk's part says of loads.
pub record LoadPart (K V E : Type 0) : Type 0 where
  pub owners : Load K → Option ℕ
  pub owning : ℕ → Option (Load K)
  pub joined : ℕ → Option ℕ
  pub readers : ℕ → ℕ
  pub settled : ℕ → Option (Settled V E)

module _ {K V E : Type 0} where
  -- that part of it
  abbrev pub load_part : DeskPart K V E → LoadPart K V E
  load_part w =
      record {
        owners = w.owners;
        owning = w.owning;
        joined = w.joined;
        readers = w.readers;
        settled = w.settled;
      }

-- the owner, where how it ended isn't kept
abbrev pub unsettled : {A : Type 0} → Option ℕ → (ℕ → Option A) → Option ℕ
unsettled None settled = None
unsettled (Some owner) settled = cond (is_some (settled owner)) None (Some owner)

-- The maps are those that are kept, and each call owns the load that it is the owner of, and no
-- other.
pub record LoadsAre {K V E S H : Type 0} {same : PartialEq.Ghosts K} {hash : Hash.Ghosts K}
    {build : BuildHasher.Ghosts S H} {hasher : Hasher.Ghosts H}
    (eq : K → K → Bool) (loads : Loads K V E S H same hash build hasher)
    (p : LoadPart K V E) : Type 0 where
  pub owners : (l : Load K) → get (load_eq eq) loads.owners l ≡ p.owners l
  pub owning : (n : ℕ) → get nat_eq loads.owning n ≡ p.owning n
  pub joined : (n : ℕ) → get nat_eq loads.joined n ≡ p.joined n
  pub readers : (n : ℕ) → unwrap_or (get nat_eq loads.readers n) 0 ≡ p.readers n
  pub settled : (n : ℕ) → get nat_eq loads.settled n ≡ p.settled n
  pub owns : (l : Load K) (n : ℕ) → p.owners l ≡ Some n →
      IsSomeAnd (p.owning n) (λ own. load_eq eq own l ≡ true)
  pub owned : (l : Load K) (n : ℕ) → p.owning n ≡ Some l → p.owners l ≡ Some n

module _ {K V E S H : Type 0} {same : PartialEq.Ghosts K} {hash : Hash.Ghosts K}
    {build : BuildHasher.Ghosts S H} {hasher : Hasher.Ghosts H} (eq : K → K → Bool)
  where
    -- the loads change as the part does, whatever they stand for
    abbrev pub LoadsBecome : Loads K V E S H same hash build hasher →
        (LoadPart K V E → LoadPart K V E) →
        Loads K V E S H same hash build hasher → Type 0
    LoadsBecome old change new = (p : LoadPart K V E) → LoadsAre eq old p → LoadsAre eq new (change p)

    -- nothing has changed of what they stand for
    abbrev pub LoadsStay : Loads K V E S H same hash build hasher →
        Loads K V E S H same hash build hasher → Type 0
    LoadsStay old new = LoadsBecome old (λ p. p) new

    -- the loads change as those of the reference's desk do
    abbrev pub LoadsMake : Loads K V E S H same hash build hasher →
        (DeskPart K V E → LoadPart K V E) →
        Loads K V E S H same hash build hasher → Type 0
    LoadsMake old change new =
        (w : DeskPart K V E) → LoadsAre eq old (load_part w) → LoadsAre eq new (change w)
