-- All is invalidated in the world that is kept.
use Rattle.std.proofs.Common.{nat_eq}
use Rattle.std.specs.HashMap.{get}
use Rattle.moka_kept.proofs.Keeping.{kept_hidden}
use Rattle.moka_kept.proofs.ground.Reach.invalidate_all.Goals as goal

pub returns-clause-kept : goal.returns-clause-kept
returns-clause-kept g c = kept_hidden g.K.PartialEq.eq g.P.Fact.holds (get nat_eq c.args.self.now.ends) c.args.self.now.layers c.invalidate_all.new.self c.visits_keep_sound.ensures.sound c.invalidate_all.ensures.makes c.requires
