-- What holds of a segment whatever keys its numbers will have that have none so far.
use Rattle.std.specs.Prelude.{◌≡◌, ℕ, Bool, Option, Some}
use Rattle.moka_words.specs.declared.accesses.Access.{Access}
use Rattle.moka_words.specs.declared.accesses.Seen.{Seen}
use Rattle.moka_words.specs.Effect.{Memory, Effect, LaterMemory}
use Rattle.moka_growth.specs.Sound.{IsSound}
use Rattle.moka_growth.specs.Calls.{Call, access_of}
use Rattle.moka_growth.specs.Fits.{Fits}
use Rattle.moka_growth.specs.Maps.{IsChoice}
use Rattle.moka_pairs.specs.Keys.{Agrees, hash_by, same_by, own_for, mine_by}

module _ {K : Type 0} where
  -- the segment is sound, with these keys
  abbrev pub SoundAll : (K → K → Bool) → (K → ℕ) → (known : ℕ → Option K) → Memory → Type 0
  SoundAll eq hash known m = (keys : ℕ → Option K) → Agrees keys known →
      IsSound (hash_by hash keys) (same_by eq keys) (mine_by keys) m

  -- the memory is a later one
  abbrev pub LaterAll : (K → K → Bool) → (known : ℕ → Option K) → (old new : Memory) → Type 0
  LaterAll eq known old new =
      (keys : ℕ → Option K) → Agrees keys known → LaterMemory (same_by eq keys) old new

  -- a call with this key, or with none, fits the memory
  abbrev pub FitsAll : (K → K → Bool) → (K → ℕ) → (known : ℕ → Option K) → (key : Option K) →
      Memory → Call → Type 0
  FitsAll eq hash known key m c = (keys : ℕ → Option K) → Agrees keys known →
      Fits (hash_by hash keys) (own_for eq keys key) m c

  -- its access sees this, and leaves the new memory
  abbrev pub EffectAll : (K → K → Bool) → (K → ℕ) → (known : ℕ → Option K) → (key : Option K) →
      Access → Seen → (old new : Memory) → Type 0
  EffectAll eq hash known key access saw old new = (keys : ℕ → Option K) → Agrees keys known →
      Effect (hash_by hash keys) (own_for eq keys key) access saw old new

  -- the call has the hash of its key, if it has a key
  abbrev pub IsHashed : (K → ℕ) → (key : Option K) → Call → Type 0
  IsHashed hash key c = (k : K) → key ≡ Some k → c.hash ≡ hash k

  -- A fitting call makes the access that it wants, and saw this. If it was asked what is to be done,
  -- a node to be stored has its key.
  pub record Sees (eq : K → K → Bool) (hash : K → ℕ) (known : ℕ → Option K) (key : Option K)
      (c : Call) (saw : Seen) (old new : Memory) : Type 0 where
    pub hashed : IsHashed hash key c
    pub fits : FitsAll eq hash known key old c
    pub effect : EffectAll eq hash known key (access_of c) saw old new
    pub choice : (keys : ℕ → Option K) → Agrees keys known → IsChoice (own_for eq keys key) saw
