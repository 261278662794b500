use Rattle.std.proofs.Common.{sym}
use Rattle.moka_parts.proofs.Holding.{former, renewed, left_same}
use Rattle.moka_parts.proofs.pairs.renew.Goals as goal

pub returns-in-Some-clause-former : goal.returns-in-Some-clause-former
returns-in-Some-clause-former g c = former g.met.K.Eq.laws c.args.key c.args.map.now.entries c.in-Some.held.now c.renew.result (sym c.in-Some.ensures.value) c.renew.ensures.former

pub returns-in-Some-clause-map : goal.returns-in-Some-clause-map
returns-in-Some-clause-map g c =
    renewed g.met.K.Eq.laws c.args.key c.args.value c.args.map.now.entries (c.get_mut.follows.lender c.renew.new.self).entries c.in-Some.held.now c.renew.new.self c.renew.result
    (sym c.in-Some.ensures.value) (c.get_mut.follows.holds c.renew.new.self).0 c.renew.ensures.renewed

pub returns-in-Some-clause-same : goal.returns-in-Some-clause-same
returns-in-Some-clause-same g c =
    left_same g.met.K.Eq.laws c.args.key c.args.map.now.entries (c.get_mut.follows.lender c.renew.new.self).entries c.in-Some.held.now c.renew.new.self c.renew.result
    (sym c.in-Some.ensures.value) (c.get_mut.follows.holds c.renew.new.self).0 c.renew.ensures.same
