-- How many keys a segment is said to have.
use Rattle.std.specs.Prelude.{◌≡◌, ℕ, ◌+◌, ◌-◌, ◌^◌, ◌<◌, min, nat_eq, length, None, if◌then◌else◌}
use Rattle.std.specs.Option.{option_to_list}
use Rattle.moka_words.specs.declared.words.Word.{Word}
use Rattle.moka_words.specs.declared.words.Word.TheVariants.{Unset, Empty, Live, Tomb, SealedEmpty, SealedLive, SealedTomb}
use Rattle.moka_words.specs.declared.accesses.Access.{Access}
use Rattle.moka_words.specs.declared.accesses.Access.TheVariants as access
use Rattle.moka_words.specs.declared.accesses.Seen.{Seen}
use Rattle.moka_words.specs.declared.accesses.Seen.TheVariants as seen
use Rattle.moka_words.specs.Words.{stored_in}
use Rattle.moka_words.specs.Effect.{Memory}
use Rattle.moka_growth.specs.Maps.{present_nodes}

-- the count of an array's tombstones once this word was put there: one more for a tombstone, and it
-- stops at the greatest number of 64 bits
abbrev pub tombstones_after : (count : ℕ) → Word → ℕ
tombstones_after count Unset = count
tombstones_after count Empty = count
tombstones_after count (Live n) = count
tombstones_after count (Tomb n) = min (count + 1) (2 ^ 64 - 1)
tombstones_after count SealedEmpty = count
tombstones_after count (SealedLive n) = count
tombstones_after count (SealedTomb n) = count

-- what an access makes of the counts: an exchange counts the key that it stores or removes, and the
-- tombstone that it makes; nothing takes a tombstone away
abbrev pub Recounts : Access → Seen → (old new : Memory) → Type 0
Recounts (access.Exchange array index from to) (seen.Exchanged None) old new =
    (new.len + length (option_to_list (stored_in from)) ≡
    old.len + length (option_to_list (stored_in to)))
    × ((a : ℕ) → new.tombstones a ≡
    (if nat_eq a array then tombstones_after (old.tombstones a) to else old.tombstones a))
Recounts (access.Link array asked) (seen.Linked next size) old new =
    (new.len ≡ old.len) × ((a : ℕ) → a < old.fresh → new.tombstones a ≡ old.tombstones a)
    × (new.fresh ≡ old.fresh + 1 → new.tombstones old.fresh ≡ 0)
Recounts access seen old new = (new.len ≡ old.len) × ((a : ℕ) → new.tombstones a ≡ old.tombstones a)

-- the segment is said to have as many keys as it has
abbrev pub IsCounted : Memory → Type 0
IsCounted m = m.len ≡ length (present_nodes m)
