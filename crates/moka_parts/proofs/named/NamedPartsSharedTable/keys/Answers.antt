use Rattle.std.proofs.Common.{refl}
use Rattle.std.proofs.lemmas.Result.{IfOk-weaker}
use Rattle.std.specs.Set.{is_member}
use Rattle.moka_parts.specs.Changes.{map_after}
use Rattle.moka_parts.specs.Hashing.{part_in}
use Rattle.moka_parts.specs.Logs.{changes_in, IsOpenedFor}
use Rattle.moka_parts.proofs.Histories.{changes_in-prefix}
use Rattle.moka_parts.proofs.Listing.{is_of_part, is_listed}
use Rattle.moka_parts.proofs.named.NamedPartsSharedTable.keys.Goals as goal

pub returns-clause-grows : goal.returns-clause-grows
returns-clause-grows g c = rw (← c.seat.view_is) (changes_in-prefix c.seat.inside.front c.keys.new.me c.keys.ensures.grows)

pub returns-clause-rests : goal.returns-clause-rests
returns-clause-rests g c = rw (← c.seat.view_is) refl

pub returns-clause-of_part : goal.returns-clause-of_part
returns-clause-of_part g c =
    let eq = g.K.PartialEq.eq in
    let inside = c.self.inside in
    let opened : IsOpenedFor inside.hasher inside.start = rw c.self.invariant.0 refl in
    rw (← c.self.view_is)
    (is_of_part (λ keys. is_member eq keys.items) (part_in g.S.BuildHasher g.S.Hasher.Hasher g.K.Hash.hash_input inside.hasher) c.args.number
    (map_after eq (changes_in c.keys.new.me)) c.keys.result (IfOk-weaker c.keys.result _ _ (λ keys listed q. listed inside.hasher opened q) c.keys.ensures.listed))

pub returns-clause-listed : goal.returns-clause-listed
returns-clause-listed g c =
    let eq = g.K.PartialEq.eq in
    let inside = c.self.inside in
    let opened : IsOpenedFor inside.hasher inside.start = rw c.self.invariant.0 refl in
    rw (← c.self.view_is)
    (is_listed (λ keys. is_member eq keys.items) (part_in g.S.BuildHasher g.S.Hasher.Hasher g.K.Hash.hash_input inside.hasher) c.args.number
    (map_after eq (changes_in c.keys.new.me)) c.keys.result (IfOk-weaker c.keys.result _ _ (λ keys listed q. listed inside.hasher opened q) c.keys.ensures.listed))
