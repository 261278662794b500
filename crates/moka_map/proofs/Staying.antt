-- A map that stays after a change is what the change made of it.
use Rattle.std.proofs.Common.{ℕ, Bool, List, ◌∙◌}
use Rattle.std.specs.Hash.{HashWrites}
use Rattle.std.specs.declared.hash.Hasher as hasher
use Rattle.std.specs.declared.hash.BuildHasher as builder
use Rattle.moka_buckets.specs.Asking.{ListsSegment}
use Rattle.moka_buckets.specs.Views.{Buckets, map_in, segment_for}
use Rattle.moka_map.specs.Maps.{Becomes, Entries, Stays, entries}
use Rattle.moka_map.proofs.Answering.{some_entry}

module _ {K V S H : Type 0} (b : builder.Ghosts S H) (h : hasher.Ghosts H) (eq : K → K → Bool) (input : K → HashWrites) where
  pub stays_so : (pairs : Entries K V) (keys : ℕ) (old mid new : Buckets K V S) → Becomes b h eq input pairs keys old mid → Stays b h eq input mid new →
      Becomes b h eq input pairs keys old new
  stays_so pairs keys old mid new r s = record {
    entries_are = λ q. s.entries_are q ∙ r.entries_are q;
    keys_are = s.keys_are ∙ r.keys_are;
    hasher_stays = s.hasher_stays ∙ r.hasher_stays;
    segments_stay = s.segments_stay ∙ r.segments_stay;
  }

  -- the keys of a segment are those of the map
  pub lists_entries : (t : Buckets K V S) (segment : ℕ) (keys : List K) → ListsSegment eq (segment_for b h eq input t) (map_in b h eq input t) segment keys →
      ListsSegment eq (segment_for b h eq input t) (entries b h eq input t) segment keys
  lists_entries t segment keys l = record {
    distinct = l.distinct;
    own = l.own;
    listed = λ q at_segment. l.listed q at_segment ∙ some_entry (map_in b h eq input t q);
  }
