-- What holds of pairs by number, whatever keys are still to come.
use Rattle.std.specs.Prelude.{◌≡◌, ℕ, ◌+◌, ◌-◌, ◌<◌, Bool, cond, Option, Some, None, IsSome, is_some}
use Rattle.std.specs.Cmp.{IsEquivalence}
use Rattle.moka_hist.specs.Finite.{put_key}
use Rattle.moka_words.specs.declared.accesses.Seen.{Seen}
use Rattle.moka_words.specs.Words.{NamesKeys}
use Rattle.moka_words.specs.Effect.{Memory}
use Rattle.moka_growth.specs.Calls.{Call, Ending, Going, Decided, access_of, next_of}
use Rattle.moka_growth.specs.Fits.{IsKey, Rests}
use Rattle.moka_growth.specs.Maps.{IsPresent, KeepsMap, Finds, ChangesMap, Ends}
use Rattle.moka_growth.specs.Counts.{Recounts, IsCounted}
use Rattle.moka_growth.specs.Left.{IsShort, left}
use Rattle.moka_pairs.specs.Keys.{Agrees, Respects, hash_by, same_by, own_by, own_for, mine_by}
use Rattle.moka_pairs.specs.Pairs.{AreKeysOf, map_of, pair_at, segment_keys}
use Rattle.moka_pairs.specs.Segments.{SoundAll, LaterAll, FitsAll, IsHashed, Sees}

-- equality of keys is one of numbers, which have the hashes of their keys
abbrev pub KeysAreNames : (K : Type 0) → Type 0
KeysAreNames K =
    (eq : K → K → Bool) → IsEquivalence eq → (hash : K → ℕ) → Respects eq hash →
    (keys : ℕ → Option K) → NamesKeys (hash_by hash keys) (same_by eq keys)

-- the numbers that have the key of a call are those of one key, and of the segment
abbrev pub OwnIsKey : (K : Type 0) → Type 0
OwnIsKey K =
    (eq : K → K → Bool) → IsEquivalence eq → (hash : K → ℕ) → Respects eq hash →
    (keys : ℕ → Option K) (key : Option K) (c : Call) → IsHashed hash key c →
    IsKey (hash_by hash keys) (same_by eq keys) (mine_by keys) (own_for eq keys key) c.hash

-- the segment stays sound, and the memory is a later one
abbrev pub AccessKeepsAll : (K : Type 0) → Type 0
AccessKeepsAll K =
    (eq : K → K → Bool) → IsEquivalence eq → (hash : K → ℕ) → Respects eq hash →
    (known : ℕ → Option K) (key : Option K) (c : Call) (saw : Seen) (old new : Memory) →
    SoundAll eq hash known old → Sees eq hash known key c saw old new →
    SoundAll eq hash known new × LaterAll eq known old new

-- a call that goes on fits, with the map kept, and fewer steps left where it rested
abbrev pub GoingFitsAll : (K : Type 0) → Type 0
GoingFitsAll K =
    (eq : K → K → Bool) → IsEquivalence eq → (hash : K → ℕ) → Respects eq hash →
    (known : ℕ → Option K) (key : Option K) (c : Call) (saw : Seen) (old new : Memory) →
    SoundAll eq hash known old → Sees eq hash known key c saw old new →
    (d : Call) → next_of c saw ≡ Going d →
    FitsAll eq hash known key new d × KeepsMap old new
    × ((first peak : ℕ) → IsShort first peak old → Rests c.point →
    left first peak new d < left first peak old c)

-- one that ends has found what was present under its key, and changed it as it tells
abbrev pub EndingIsKnown : (K : Type 0) → Type 0
EndingIsKnown K =
    (eq : K → K → Bool) → IsEquivalence eq → (hash : K → ℕ) → Respects eq hash →
    (known : ℕ → Option K) (key : Option K) (c : Call) (saw : Seen) (old new : Memory) →
    SoundAll eq hash known old → Sees eq hash known key c saw old new →
    (e : Ending) → next_of c saw ≡ Decided e → Ends (own_for eq known key) c.point e old new

-- the count of keys is right after it, if the access recounts
abbrev pub CountIsKept : (K : Type 0) → Type 0
CountIsKept K =
    (eq : K → K → Bool) → IsEquivalence eq → (hash : K → ℕ) → Respects eq hash →
    (known : ℕ → Option K) (key : Option K) (c : Call) (saw : Seen) (old new : Memory) →
    SoundAll eq hash known old → Sees eq hash known key c saw old new →
    Recounts (access_of c) saw old new → IsCounted old → IsCounted new

-- a call that fits a memory fits each later one
abbrev pub FitsAllLasts : (K : Type 0) → Type 0
FitsAllLasts K =
    (eq : K → K → Bool) → IsEquivalence eq → (hash : K → ℕ) → Respects eq hash →
    (known : ℕ → Option K) (key : Option K) (c : Call) (old new : Memory) →
    SoundAll eq hash known old → LaterAll eq known old new → IsHashed hash key c →
    Rests c.point → FitsAll eq hash known key old c → FitsAll eq hash known key new c

-- the map has under a key the pair of the node that is present there
abbrev pub FoundIsMaps : (K V : Type 0) → Type 0
FoundIsMaps K V =
    (eq : K → K → Bool) → IsEquivalence eq → (hash : K → ℕ) → Respects eq hash →
    (known : ℕ → Option K) (pairs : ℕ → Option (K × V)) (m : Memory) →
    SoundAll eq hash known m → (key : K) (found : Option ℕ) →
    Finds (own_by eq known key) m found → map_of eq m known pairs key ≡ pair_at pairs found

-- a node that is present has a pair
abbrev pub PresentHasPair : (K V : Type 0) → Type 0
PresentHasPair K V =
    (eq : K → K → Bool) → IsEquivalence eq → (hash : K → ℕ) → Respects eq hash →
    (known : ℕ → Option K) (pairs : ℕ → Option (K × V)) → AreKeysOf known pairs →
    (m : Memory) → SoundAll eq hash known m → (n : ℕ) → IsPresent m n → IsSome (pairs n)

-- where the same nodes are present the map is the same
abbrev pub KeptMapStays : (K V : Type 0) → Type 0
KeptMapStays K V =
    (eq : K → K → Bool) → IsEquivalence eq → (hash : K → ℕ) → Respects eq hash →
    (known : ℕ → Option K) (pairs : ℕ → Option (K × V)) (old new : Memory) →
    SoundAll eq hash known new → KeepsMap old new → (q : K) →
    map_of eq new known pairs q ≡ map_of eq old known pairs q

-- where a key has another node, the map has that one's pair under the key, and else what it had
abbrev pub PutIsMaps : (K V : Type 0) → Type 0
PutIsMaps K V =
    (eq : K → K → Bool) → IsEquivalence eq → (hash : K → ℕ) → Respects eq hash →
    (known : ℕ → Option K) (pairs : ℕ → Option (K × V)) (old new : Memory) →
    SoundAll eq hash known new → (key : K) (value : V) (found : Option ℕ) (n : ℕ) →
    known n ≡ Some key → pairs n ≡ Some (key, value) →
    ChangesMap (own_by eq known key) found (Some n) old new → (q : K) →
    map_of eq new known pairs q
    ≡ put_key eq (map_of eq old known pairs) key (Some (key, value)) q

-- where it has none any more, the map has nothing there
abbrev pub RemovalIsMaps : (K V : Type 0) → Type 0
RemovalIsMaps K V =
    (eq : K → K → Bool) → IsEquivalence eq → (hash : K → ℕ) → Respects eq hash →
    (known : ℕ → Option K) (pairs : ℕ → Option (K × V)) (old new : Memory) →
    SoundAll eq hash known new → (key : K) (found : Option ℕ) →
    ChangesMap (own_by eq known key) found None old new → (q : K) →
    map_of eq new known pairs q ≡ put_key eq (map_of eq old known pairs) key None q

-- the count of keys rises by a put where the map has nothing, and falls by a removal
abbrev pub PutIsCounted : (K V : Type 0) → Type 0
PutIsCounted K V =
    (eq : K → K → Bool) → IsEquivalence eq → (hash : K → ℕ) → Respects eq hash →
    (known : ℕ → Option K) (pairs : ℕ → Option (K × V)) → AreKeysOf known pairs →
    (old new : Memory) → SoundAll eq hash known old → IsCounted old → IsCounted new →
    (key : K) (found : Option ℕ) (n : ℕ) → Finds (own_by eq known key) old found →
    ChangesMap (own_by eq known key) found (Some n) old new →
    new.len ≡ cond (is_some (map_of eq old known pairs key)) old.len (old.len + 1)

abbrev pub RemovalIsCounted : (K : Type 0) → Type 0
RemovalIsCounted K =
    (eq : K → K → Bool) → IsEquivalence eq → (hash : K → ℕ) → Respects eq hash →
    (known : ℕ → Option K) (old new : Memory) → IsCounted old → IsCounted new →
    (key : K) (found : Option ℕ) → IsSome found →
    ChangesMap (own_by eq known key) found None old new → new.len ≡ old.len - 1

-- what a segment keeps it keeps while more numbers get keys
abbrev pub GrownIsSound : (K : Type 0) → Type 0
GrownIsSound K =
    (eq : K → K → Bool) (hash : K → ℕ) (known more : ℕ → Option K) → Agrees more known →
    ((m : Memory) → SoundAll eq hash known m → SoundAll eq hash more m)
    × ((key : Option K) (m : Memory) (c : Call) → FitsAll eq hash known key m c →
    FitsAll eq hash more key m c)

-- and so does its map, while more get pairs
abbrev pub GrownIsMaps : (K V : Type 0) → Type 0
GrownIsMaps K V =
    (eq : K → K → Bool) → IsEquivalence eq → (hash : K → ℕ) → Respects eq hash →
    (known : ℕ → Option K) (pairs : ℕ → Option (K × V)) → AreKeysOf known pairs →
    (more : ℕ → Option K) (more_pairs : ℕ → Option (K × V)) → Agrees more known →
    Agrees more_pairs pairs → (m : Memory) → SoundAll eq hash known m → (q : K) →
    map_of eq m more more_pairs q ≡ map_of eq m known pairs q

-- the keys of one segment are keys of pairs, and more of more pairs
abbrev pub SegmentKeysAreKeys : (K V : Type 0) → Type 0
SegmentKeysAreKeys K V =
    (is_mine : K → Bool) (pairs : ℕ → Option (K × V)) →
    AreKeysOf (segment_keys is_mine pairs) pairs

abbrev pub SegmentKeysGrow : (K V : Type 0) → Type 0
SegmentKeysGrow K V =
    (is_mine : K → Bool) (more pairs : ℕ → Option (K × V)) → Agrees more pairs →
    Agrees (segment_keys is_mine more) (segment_keys is_mine pairs)
