-- The part of a key.
use Rattle.std.specs.Prelude.{ℕ, ◌%◌}
use Rattle.std.specs.List.{fold}
use Rattle.std.specs.Hash.{HashWrites}
use Rattle.std.specs.declared.hash.Hasher as hasher
use Rattle.std.specs.declared.hash.BuildHasher as builder

-- the hash of the key that a hasher made by s gives, as one of 64 parts
abbrev pub part_in : {S H K : Type 0} → builder.Ghosts S H → hasher.Ghosts H → (K → HashWrites)
    → S → K → ℕ
part_in b h input s key = h.finish (fold h.write (b.build_hasher s) (input key)) % 64
