-- What comes of an access, whatever keys are still to come.
use Rattle.std.proofs.Common.{◌≡◌, ℕ, ◌<◌, ◌≤◌, Bool, length, Option, refl}
use Rattle.std.specs.Cmp.{IsEquivalence}
use Rattle.moka_words.specs.declared.accesses.Seen.{Seen}
use Rattle.moka_words.specs.Effect.{Memory}
use Rattle.moka_words.proofs.Effects.{unchanged_later}
use Rattle.moka_growth.specs.Calls.{Call, Ending, Going, Decided, access_of, next_of}
use Rattle.moka_growth.specs.Fits.{Rests}
use Rattle.moka_growth.specs.Maps.{present_nodes, KeepsMap, Ends}
use Rattle.moka_growth.specs.Counts.{Recounts, IsCounted}
use Rattle.moka_growth.specs.Left.{IsShort, left}
use Rattle.moka_growth.specs.Laws.{Makes}
use Rattle.moka_growth.proofs.Accessing.{access_keeps_sound, access_is_later}
use Rattle.moka_growth.proofs.Lasts.{fits_lasts}
use Rattle.moka_growth.proofs.Stepping.{fits_goes_on, going_keeps_map, ending_is_maps}
use Rattle.moka_growth.proofs.Shortness.{short_stays, short_grows}
use Rattle.moka_growth.proofs.Counting.{count_stays}
use Rattle.moka_growth.proofs.Lowered.{left_falls}
use Rattle.moka_pairs.specs.Keys.{Agrees, Respects, hash_by, same_by, own_for, mine_by}
use Rattle.moka_pairs.specs.Segments.{SoundAll, LaterAll, FitsAll, IsHashed, Sees}
use Rattle.moka_pairs.proofs.Names.{agrees_now, is_key_for, names_keys}

module _ {K : Type 0} (eq : K → K → Bool) (laws : IsEquivalence eq) (hash : K → ℕ) (respects : Respects eq hash) (known : ℕ → Option K) where
  module _ (key : Option K) (c : Call) (saw : Seen) (old new : Memory) (sound : SoundAll eq hash known old) (sees : Sees eq hash known key c saw old new) where
    -- the premise of the laws of growth, with any keys that agree
    pub makes : (keys : ℕ → Option K) → Agrees keys known → Makes (hash_by hash keys) (same_by eq keys) (mine_by keys) (own_for eq keys key) c saw old new
    makes keys agrees = record {
      names = names_keys eq laws hash respects keys;
      key = is_key_for eq laws hash respects keys key c sees.hashed;
      sound = sound keys agrees;
      fits = sees.fits keys agrees;
      effect = sees.effect keys agrees;
      choice = sees.choice keys agrees;
    }

    pub sound_after : SoundAll eq hash known new
    sound_after keys agrees = access_keeps_sound (hash_by hash keys) (same_by eq keys) (mine_by keys) (own_for eq keys key) c saw old new (makes keys agrees)

    pub later_after : LaterAll eq known old new
    later_after keys agrees = access_is_later (hash_by hash keys) (same_by eq keys) (mine_by keys) (own_for eq keys key) c saw old new (makes keys agrees)

    -- the call goes on, with the map kept and fewer steps left
    pub fits_after : (d : Call) → next_of c saw ≡ Going d → FitsAll eq hash known key new d
    fits_after d is keys agrees =
        fits_goes_on (hash_by hash keys) (same_by eq keys) (mine_by keys) (own_for eq keys key) c d saw old new (makes keys agrees) is

    pub keeps_after : (d : Call) → next_of c saw ≡ Going d → KeepsMap old new
    keeps_after d is = going_keeps_map (hash_by hash known) (same_by eq known) (mine_by known) (own_for eq known key) c d saw old new
        (makes known (agrees_now known)) is

    pub falls_after : (first peak : ℕ) (d : Call) → IsShort first peak old → next_of c saw ≡ Going d →
        (Rests c.point → left first peak new d < left first peak old c) × (left first peak new d ≤ left first peak old c)
    falls_after first peak d short is = left_falls (hash_by hash known) (same_by eq known) (mine_by known) (own_for eq known key) c d saw old new first peak
        (makes known (agrees_now known)) short is

    -- or ends by the map
    pub ends_after : (e : Ending) → next_of c saw ≡ Decided e → Ends (own_for eq known key) c.point e old new
    ends_after e is = ending_is_maps (hash_by hash known) (same_by eq known) (mine_by known) (own_for eq known key) c e saw old new
        (makes known (agrees_now known)) is

    -- the count of keys is right, and arrays are short
    pub counted_after : Recounts (access_of c) saw old new → IsCounted old → IsCounted new
    counted_after counts counted = count_stays (hash_by hash known) (same_by eq known) (mine_by known) (own_for eq known key) c saw old new
        (makes known (agrees_now known)) counts counted

    pub short_after : (first peak more : ℕ) → IsShort first peak old → peak ≤ more → length (present_nodes new) ≤ more → IsShort first more new
    short_after first peak more short longer few = short_stays (hash_by hash known) (same_by eq known) (mine_by known) (own_for eq known key) c saw old new
        first more (makes known (agrees_now known)) (short_grows old first peak more short longer) few

  -- a memory that stays
  pub later_same : (m : Memory) → LaterAll eq known m m
  later_same m keys agrees = unchanged_later (same_by eq keys) (names_keys eq laws hash respects keys) m m
      (λ a. refl, record { arrays = refl; rooted = refl; fresh = refl })

  -- a call that fits a memory fits each later one
  pub fits_last : (key : Option K) (c : Call) (old new : Memory) → SoundAll eq hash known old → LaterAll eq known old new → IsHashed hash key c → Rests c.point →
      FitsAll eq hash known key old c → FitsAll eq hash known key new c
  fits_last key c old new sound later hashed rests fits keys agrees =
      fits_lasts (hash_by hash keys) (same_by eq keys) (mine_by keys) (own_for eq keys key) c old new (names_keys eq laws hash respects keys)
      (is_key_for eq laws hash respects keys key c hashed) (sound keys agrees) (later keys agrees) rests (fits keys agrees)
