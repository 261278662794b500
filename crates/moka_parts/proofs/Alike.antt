-- Equal keys are of one part.
use Rattle.std.proofs.Common.{◌≡◌, ◌%◌, Bool, true, ap}
use Rattle.std.specs.Prelude.{IsTrue}
use Rattle.std.specs.List.{fold}
use Rattle.std.specs.Hash.{HashWrites}
use Rattle.std.specs.declared.hash.Hasher as hasher
use Rattle.std.specs.declared.hash.BuildHasher as builder
use Rattle.moka_parts.specs.Hashing.{part_in}

pub part_alike : {S H K : Type 0} (b : builder.Ghosts S H) (h : hasher.Ghosts H) (input : K → HashWrites) (eq : K → K → Bool)
    → ((x y : K) → IsTrue (eq x y) → input x ≡ input y)
    → (s : S) (x y : K) → eq x y ≡ true → part_in b h input s x ≡ part_in b h input s y
part_alike b h input eq respects s x y same = ap (λ w. h.finish (fold h.write (b.build_hasher s) w) % 64) (respects x y same)
