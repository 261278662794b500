use Rattle.std.proofs.Common.{◌≡◌}
use Rattle.std.specs.Set.{is_member}
use Rattle.moka_parts.specs.Hashing.{part_in}
use Rattle.moka_parts.proofs.Listing.{some_stands}
use Rattle.moka_parts.proofs.parts.PartsSharedTable.keys.Goals as goal

pub returns-clause-listed : goal.returns-clause-listed
returns-clause-listed g c =
    some_stands (λ keys. is_member g.K.PartialEq.eq keys.items) g.F.Fact.holds
    (λ q. part_in g.S.BuildHasher g.S.Hasher.Hasher g.K.Hash.hash_input c.args.self.now q ≡ c.args.number) c.keys.result c.keys.ensures.fact
