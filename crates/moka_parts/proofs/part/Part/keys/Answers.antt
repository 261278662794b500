use Rattle.std.proofs.Common.{refl, ap, ◌∙◌, is_some}
use Rattle.std.proofs.lemmas.Result.{IfOk-weaker}
use Rattle.moka_parts.specs.Hashing.{part_in}
use Rattle.moka_parts.proofs.Alike.{part_alike}
use Rattle.moka_parts.proofs.Holding.{stored_meets}
use Rattle.moka_parts.proofs.Parting.{keys_say}
use Rattle.moka_parts.proofs.part.Part.keys.Goals as goal

pub returns-clause-listed : goal.returns-clause-listed
returns-clause-listed g c =
    let eq = g.K.PartialEq.eq in
    let part = part_in g.S.BuildHasher g.S.Hasher.Hasher g.K.Hash.hash_input in
    let alike = part_alike g.S.BuildHasher g.S.Hasher.Hasher g.K.Hash.hash_input eq g.met.K.Hash.respects_eq in
    let inside = c.self.inside in
    let seen = c.if-not-sees.ensures.counts in
    IfOk-weaker c.keys.result _ _
    (λ keys listed s opened q. listed q ∙ ap is_some
    (keys_say eq part g.F.Fact.holds alike g.J.Naming.book inside.number inside.count inside.word inside.front inside.map c.self.invariant
    c.args.number inside.count seen.0 refl c.args.start.now c.sees.new.self s opened c.sees.ensures.start c.sees.ensures.front seen.1.0 seen.1.1 q))
    c.keys.ensures.listed

pub sees-requires : goal.sees-requires
sees-requires g c = record { word = (c.self.invariant.word_is, c.self.invariant.small) }

pub returns-clause-fact : goal.returns-clause-fact
returns-clause-fact g c =
    IfOk-weaker c.keys.result _ _ (λ keys listed q. stored_meets g.K.PartialEq.eq g.F.Fact.holds c.self.inside.map.entries c.self.invariant.meets q _ (listed q)) c.keys.ensures.listed
