use Rattle.std.proofs.Common.{◌≡◌, true, take}
use Rattle.std.specs.Set.{is_member}
use Rattle.moka_parts.specs.Hashing.{part_in}
use Rattle.moka_parts.proofs.placing.are_of.Given as goal

abbrev pub invariant-loop-place : goal.invariant-loop-place
invariant-loop-place g l = (q : g.row.K.Denot) → is_member g.K.PartialEq.eq (take l.place l.keys) q ≡ true
    → part_in g.S.BuildHasher g.S.Hasher.Hasher g.K.Hash.hash_input l.hasher q ≡ l.number
