-- The hash of a key.
use Rattle.std.specs.Prelude.{ℕ}
use Rattle.std.specs.List.{fold}
use Rattle.std.specs.Hash.{HashWrites}
use Rattle.std.specs.declared.hash.Hasher as hasher
use Rattle.std.specs.declared.hash.BuildHasher as builder

-- what a hasher made anew gives, once the key was written to it
abbrev pub hash_in : {S H K : Type 0} → builder.Ghosts S H → hasher.Ghosts H → (K → HashWrites) → S → K → ℕ
hash_in b h input s key = h.finish (fold h.write (b.build_hasher s) (input key))
