use Rattle.moka_parts.proofs.Holding.{stored_meets}
use Rattle.moka_parts.proofs.bare.Bare.keys.Goals as goal

pub returns-clause-fact : goal.returns-clause-fact
returns-clause-fact g c = λ q. stored_meets g.K.PartialEq.eq g.F.Fact.holds c.self.inside.map.entries c.self.invariant q _ (c.in_ok-keys.ensures.listed q)
