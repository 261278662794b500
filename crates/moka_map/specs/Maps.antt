-- What contracts see of a map: the pair under each key, and how many keys there are.
use Rattle.std.specs.Prelude.{◌≡◌, ℕ, ◌+◌, ◌-◌, Bool, true, cond, length, Option, Some, None, is_some}
use denote.Ref.{Bor}
use Rattle.std.specs.Fn.{Mut}
use Rattle.std.specs.Hash.{HashWrites}
use Rattle.std.specs.Option.{option_map}
use Rattle.std.specs.declared.hash.Hasher as hasher
use Rattle.std.specs.declared.hash.BuildHasher as builder
use Rattle.moka_hist.specs.Finite.{put_key}
use Rattle.moka_hist.specs.declared.records.Stored.{Stored}
use Rattle.moka_buckets.specs.Asking.{Asks}
use Rattle.moka_buckets.specs.Hashing.{hash_in}
use Rattle.moka_buckets.specs.Views.{Buckets, map_in}
use Rattle.moka_map.specs.Calls.{Makes, Spares}

-- the pair under each key: the key that was stored, and its value
abbrev pub Entries : (K V : Type 0) → Type 0
Entries K V = K → Option (K × V)

-- the key and the value of a stored record
abbrev pub entry_of : {K V : Type 0} → Option (K × Stored V) → Option (K × V)
entry_of o = option_map (λ p. (p.0, p.1.value)) o

module _ {K V S : Type 0} where
  -- how many keys there are
  abbrev pub keys_in : Buckets K V S → ℕ
  keys_in m = m.len

  -- how many segments the keys are spread over
  abbrev pub segments_in : Buckets K V S → ℕ
  segments_in m = length m.parts

  -- the hash of a key, by the map's hasher
  abbrev pub hash_for : {H : Type 0} → builder.Ghosts S H → hasher.Ghosts H → (K → HashWrites)
      → Buckets K V S → K → ℕ
  hash_for b h input m = hash_in b h input m.hasher

  module _ {H : Type 0} (b : builder.Ghosts S H) (h : hasher.Ghosts H) (eq : K → K → Bool)
      (input : K → HashWrites) where
    abbrev pub entries : Buckets K V S → Entries K V
    entries m q = entry_of (map_in b h eq input m q)

    -- a call names the key q: the test is true of the keys equal to q and of no others, and the
    -- hash is that of q
    abbrev pub Names : {F : Type 0} → Mut F (Bor K × Unit {0}) Bool → Buckets K V S → (hash : ℕ)
        → F → K → Type 0
    Names g m hash f q = Asks g eq (hash_for b h input m) hash f q

    -- the map has these pairs now, and so many keys; hasher and segments stay
    pub record Becomes (pairs : Entries K V) (keys : ℕ) (old new : Buckets K V S) : Type 0 where
      pub entries_are : (q : K) → entries new q ≡ pairs q
      pub keys_are : keys_in new ≡ keys
      pub hasher_stays : new.hasher ≡ old.hasher
      pub segments_stay : segments_in new ≡ segments_in old

    -- the map is as it was
    abbrev pub Stays : (old new : Buckets K V S) → Type 0
    Stays old new = Becomes (entries old) (keys_in old) old new

    -- the pair stands under its key, and no other has changed
    abbrev pub Puts : K → V → (old new : Buckets K V S) → Type 0
    Puts key value old new = Becomes (put_key eq (entries old) key (Some (key, value)))
        (cond (is_some (entries old key)) (keys_in old) (keys_in old + 1)) old new

    -- the key, which was there, is there no more, and no other has changed
    abbrev pub Removes : K → (old new : Buckets K V S) → Type 0
    Removes q old new = Becomes (put_key eq (entries old) q None) (keys_in old - 1) old new

    -- what a removal takes out whose condition is asked, if anything, and what it leaves
    abbrev pub TakesWhere : {F : Type 0} → Mut F (Bor K × (Bor V × Unit {0})) Bool → F → K
        → (old : Buckets K V S) → Option (K × V) → (new : Buckets K V S) → Type 0
    TakesWhere g condition q old None new = Spares g condition (entries old q) × Stays old new
    TakesWhere g condition q old (Some p) new =
        (entries old q ≡ Some p) × Makes g condition p true × Removes q old new
