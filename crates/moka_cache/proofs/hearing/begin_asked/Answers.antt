-- Who is asked begins only where a compute asks.
use Rattle.std.proofs.Common.{ap, refl, sym, ◌∙◌, subst}
use Rattle.moka_kept.specs.Meets.{pair_asked}
use Rattle.moka_kept.specs.declared.stop.OwnAsk.{OwnAsk}
use Rattle.moka_cache.specs.Asked.{BegunFor}
use Rattle.moka_cache.proofs.Staying.{asked_still, found_so}
use Rattle.moka_cache.proofs.hearing.begin_asked.Goals as goal

pub returns-in-Init-clause-begun : goal.returns-in-Init-clause-begun
returns-in-Init-clause-begun g c = subst (λ (a : OwnAsk g.row.K.Denot g.row.V.Denot). BegunFor g.Q.Asked.begins a c.args.asked.now c.args.asked.now) (sym c.in-Init.is) refl

pub returns-in-Compute-clause-begun : goal.returns-in-Compute-clause-begun
returns-in-Compute-clause-begun g c = subst (λ (a : OwnAsk g.row.K.Denot g.row.V.Denot). BegunFor g.Q.Asked.begins a c.args.asked.now c.begin_with.new.asked) (sym c.in-Compute.is) c.begin_with.ensures.begun

pub returns-in-Init-clause-asked : goal.returns-in-Init-clause-asked
returns-in-Init-clause-asked g c = asked_still g.Q.Asked.can_poll g.Q.Asked.gives g.Q.Asked.tests c.args.asked.now c.requires.asks

pub returns-in-Compute-clause-asked : goal.returns-in-Compute-clause-asked
returns-in-Compute-clause-asked g c = c.begin_with.ensures.asked

pub begin_with-requires-clause-so : goal.begin_with-requires-clause-so
begin_with-requires-clause-so g c = found_so g.P.Fact.holds c.in-Compute.found (λ pair is. c.requires.so pair (ap pair_asked c.in-Compute.is ∙ is))
