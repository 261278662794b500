-- The memory that arrays and their segment stand for.
use Rattle.std.specs.Prelude.{◌≡◌, ℕ, List, [], length, Some}
use Rattle.std.specs.Option.{option_map, option_map_or}
use Rattle.std.specs.List.{slice_get}
use Rattle.moka_words.specs.declared.words.Word.{Word}
use Rattle.moka_words.specs.Effect.{Memory, array_at}
use Rattle.moka_buckets.specs.declared.array.Array.{Array}
use Rattle.moka_buckets.specs.declared.array.Arrays.{Arrays}

-- the words of the array of this number; none, if there is no such array
abbrev pub words_in : List Array → ℕ → List Word
words_in all a = option_map_or (λ array. array.words.items) (slice_get all a) []

abbrev pub tombstones_of : List Array → ℕ → ℕ
tombstones_of all a = option_map_or (λ array. array.tombstones) (slice_get all a) 0

abbrev pub memory_of : Arrays → Memory
memory_of s =
    record {
      words = words_in s.all.items;
      arrays = s.segment.arrays.items;
      rooted = s.segment.rooted;
      fresh = length s.all.items;
      tombstones = tombstones_of s.all.items;
      len = s.segment.len;
    }

-- each array of the segment says where it stands
abbrev pub ArePlaced : Arrays → Type 0
ArePlaced s = (place a : ℕ) → array_at (memory_of s) place ≡ Some a →
    option_map (λ array. array.place) (slice_get s.all.items a) ≡ Some place
