-- Equal keys have one hash, and one segment.
use Rattle.std.proofs.Common.{◌≡◌, Bool, true, ap}
use Rattle.std.specs.Cmp.{IsEquivalence}
use Rattle.std.specs.List.{fold}
use Rattle.std.specs.Hash.{HashWrites}
use Rattle.std.specs.declared.hash.Hasher as hasher
use Rattle.std.specs.declared.hash.BuildHasher as builder
use Rattle.moka_history.specs.Keeping.{IsDivided}
use Rattle.moka_shared.specs.Hashing.{hash_in, place_in, segment_of}

pub divided : {S H K : Type 0} (b : builder.Ghosts S H) (h : hasher.Ghosts H) (input : K → HashWrites) (eq : K → K → Bool) → IsEquivalence eq →
    ((x y : K) → eq x y ≡ true → input x ≡ input y) → IsDivided eq (hash_in b h input) (place_in b h input)
divided b h input eq laws respects = record {
  laws = laws;
  hashed = λ s x y same. ap (λ w. h.finish (fold h.write (b.build_hasher s) w)) (respects x y same);
  placed = λ s segments x y same. ap (λ w. segment_of segments (h.finish (fold h.write (b.build_hasher s) w))) (respects x y same);
}
