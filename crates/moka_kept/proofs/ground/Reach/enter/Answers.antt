-- The next number is given out in the world that is kept.
use Rattle.std.proofs.Common.{nat_eq}
use Rattle.std.specs.HashMap.{get}
use Rattle.moka_kept.proofs.Keeping.{first_entered, kept_entered, next_entered, spent_entered}
use Rattle.moka_kept.proofs.ground.Reach.enter.Goals as goal

pub returns-in-Some-clause-kept : goal.returns-in-Some-clause-kept
returns-in-Some-clause-kept g c = kept_entered g.K.PartialEq.eq g.P.Fact.holds (get nat_eq c.args.self.now.ends) c.args.self.now.layers c.enter.new.self c.enter.result c.entering_keeps_sound.ensures.sound c.enter.ensures.finds c.enter.ensures.makes c.requires

pub returns-in-Some-clause-next : goal.returns-in-Some-clause-next
returns-in-Some-clause-next g c = next_entered g.K.PartialEq.eq g.P.Fact.holds (get nat_eq c.args.self.now.ends) c.args.self.now.layers c.enter.new.self c.in-Some.call c.of.result.call c.of.ensures c.in-Some.ensures.finds c.in-Some.ensures.makes

pub returns-in-Some-clause-first : goal.returns-in-Some-clause-first
returns-in-Some-clause-first g c = first_entered g.K.PartialEq.eq g.P.Fact.holds (get nat_eq c.args.self.now.ends) c.args.self.now.layers c.in-Some.call c.of.result.call c.of.ensures c.in-Some.ensures.finds c.requires

pub returns-in-None-clause-kept : goal.returns-in-None-clause-kept
returns-in-None-clause-kept g c = kept_entered g.K.PartialEq.eq g.P.Fact.holds (get nat_eq c.args.self.now.ends) c.args.self.now.layers c.enter.new.self c.enter.result c.entering_keeps_sound.ensures.sound c.enter.ensures.finds c.enter.ensures.makes c.requires

pub returns-in-None-clause-spent : goal.returns-in-None-clause-spent
returns-in-None-clause-spent g c = spent_entered g.K.PartialEq.eq g.P.Fact.holds (get nat_eq c.args.self.now.ends) c.args.self.now.layers _ c.in-None.ensures.finds
