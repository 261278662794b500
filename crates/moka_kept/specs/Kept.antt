-- What lies under the lock of a cache.
use Rattle.std.specs.Prelude.{◌≡◌, ◌<◌, ℕ, Bool, true, false, Some, None, Option}
use Rattle.std.specs.declared.cmp.PartialEq as PartialEq
use Rattle.std.specs.declared.hash.Hash as Hash
use Rattle.std.specs.declared.hash.Hasher as Hasher
use Rattle.std.specs.declared.hash.BuildHasher as BuildHasher
use Rattle.moka_hist.specs.SoundDesk.{SoundDesk}
use Rattle.moka_hist.specs.Conditions.{MayVisit}
use Rattle.moka_hist.specs.State.{DeskPart, Handed, World}
use Rattle.moka_hist.specs.Step.{Access, On_table, On_desk}
use Rattle.moka_hist.specs.declared.accesses.Want.{Want}
use Rattle.moka_ids.specs.Drawn.{ids_from, seeded}
use Rattle.moka_hist.specs.declared.events.Told.{Told}
use Rattle.moka_init.specs.Grounds.{MayWant}
use Rattle.moka_layers.specs.Layers.{GroundIs, WorldIs, operation_in}
use Rattle.moka_layers.specs.declared.layers.Layers.{Layers}
use Rattle.moka_table.specs.Plain.{plain_table}
use Rattle.moka_table.specs.declared.plain.PlainCall.{PlainCall}
use Rattle.moka_table.specs.declared.plain.PlainTable.{PlainTable}
use Rattle.moka_hist.specs.declared.record_tests.Tests as Tests
use Rattle.moka_kept.specs.declared.brought.Brought.{Brought}
use Rattle.moka_kept.specs.declared.brought.Brought.TheVariants as brought
use Rattle.moka_kept.specs.declared.in_hand.InHand.{InHand}
use Rattle.moka_laws.specs.Fair.{TableFair}
use Rattle.moka_kept.specs.Facts.{EndsMeet}

-- each replace test answers what is in hand, and no predicate holds
abbrev pub in_hand : {K V : Type 0} → Tests.Ghosts InHand K V
in_hand =
    record {
      answers = λ hand test key value. hand.replaced;
      hides = λ hand test key value. false;
    }

-- what the desk of a fresh cache was handed: no replace test and no predicate holds
abbrev pub none_handed : {K V : Type 0} → Handed K V
none_handed =
    record {
      tests = λ test key value. false;
      predicates = λ test key value. false;
      ids = ids_from (seeded 0);
    }

-- the layers of a cache: over the plain table, with the answer of a test in hand
abbrev pub CacheLayers : (K V E S H : Type 0) → PartialEq.Ghosts K → Hash.Ghosts K
    → BuildHasher.Ghosts S H → Hasher.Ghosts H → Type 0
CacheLayers K V E S H same hash build hasher =
    Layers K V E (PlainTable K V S H) (PlainCall K V) InHand S H same hash build hasher

-- Some sound world is that of the layers. Its log has room for a write once it is empty, and no
-- operation of its table is begun or stayed undecided, and no list of keys. Each pair that is stored
-- meets the fact; so does each value by which an owner ended, for the key that is noted of that.
pub record IsKept {K V E S H : Type 0} {same : PartialEq.Ghosts K} {hash : Hash.Ghosts K}
    {build : BuildHasher.Ghosts S H} {hasher : Hasher.Ghosts H}
    (eq : K → K → Bool) (holds : K → V → Type 0) (ends : ℕ → Option K)
    (layers : CacheLayers K V E S H same hash build hasher) : Type 0 where
  pub world : World K V E
  pub stands : WorldIs eq (plain_table eq) in_hand layers world
  pub sound : SoundDesk eq world.desk
  pub log : 0 < world.desk.size
  pub decided : world.stay.times ≡ 0
  pub none_begun : layers.begun ≡ None
  pub unlisted : (n : ℕ) → world.table.listings n ≡ None
  pub stored : TableFair holds eq world.table.stored
  pub ended : EndsMeet holds ends world.desk.settled

-- It is so, and the answer is there to be taken by the call of this number.
pub record IsToldTo {K V E S H : Type 0} {same : PartialEq.Ghosts K} {hash : Hash.Ghosts K}
    {build : BuildHasher.Ghosts S H} {hasher : Hasher.Ghosts H}
    (eq : K → K → Bool) (holds : K → V → Type 0) (ends : ℕ → Option K)
    (layers : CacheLayers K V E S H same hash build hasher) (n : ℕ) (told : Told V E) : Type 0
  where
    pub kept : IsKept eq holds ends layers
    pub there : kept.world.desk.told n ≡ Some told

-- What was brought is there for the next step of the call of this number, which takes an answer to
-- its own ask or doesn't.
abbrev pub IsBrought : {K V E S H : Type 0} {same : PartialEq.Ghosts K} {hash : Hash.Ghosts K}
    {build : BuildHasher.Ghosts S H} {hasher : Hasher.Ghosts H}
    → (K → K → Bool) → (K → V → Type 0) → (ℕ → Option K)
    → CacheLayers K V E S H same hash build hasher → ℕ → Brought V E → Bool → Type 0
IsBrought eq holds ends layers n brought.Nothing takes = takes ≡ false
IsBrought eq holds ends layers n (brought.Told told) takes =
    (takes ≡ true) × IsToldTo eq holds ends layers n told
IsBrought eq holds ends layers n (brought.Tested replaced) takes =
    (takes ≡ false) × (layers.tests.replaced ≡ replaced)

-- What the ground of a poll stands for: a world as above, as the call of this number reaches it.
pub record ReachIs {K V E S H : Type 0} {same : PartialEq.Ghosts K} {hash : Hash.Ghosts K}
    {build : BuildHasher.Ghosts S H} {hasher : Hasher.Ghosts H}
    (eq : K → K → Bool) (layers : CacheLayers K V E S H same hash build hasher)
    (w : World K V E) : Type 0 where
  pub ground : GroundIs eq (plain_table eq) in_hand layers w
  pub sound : SoundDesk eq w.desk
  pub log : 0 < w.desk.size
  pub decided : w.stay.times ≡ 0
  pub unlisted : (n : ℕ) → w.table.listings n ≡ None

-- some such world allows what is wanted
abbrev pub MayReach : {K V E S H : Type 0} {same : PartialEq.Ghosts K} {hash : Hash.Ghosts K}
    {build : BuildHasher.Ghosts S H} {hasher : Hasher.Ghosts H} →
    (K → K → Bool) → CacheLayers K V E S H same hash build hasher → Want K V E → Type 0
MayReach {K} {V} {E} {S} {H} eq layers wish =
    (w : World K V E) × ReachIs eq layers w
    × MayWant w (operation_in (plain_table {S = S} {H = H} eq) layers.begun) wish

-- the desk has what the access needs, if it is a visit
abbrev pub MayMake : {K V E : Type 0} → DeskPart K V E → Access K V E → Type 0
MayMake w (On_table operation) = Unit {0}
MayMake w (On_desk made) = MayVisit w made
