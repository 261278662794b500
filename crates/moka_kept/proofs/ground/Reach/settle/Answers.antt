-- What is forgotten leaves the world that is kept.
use Rattle.moka_desk.specs.Forgetting.{has_left}
use Rattle.std.proofs.Common.{nat_eq}
use Rattle.std.specs.HashMap.{get}
use Rattle.moka_kept.proofs.Keeping.{kept_forgot}
use Rattle.moka_kept.proofs.ground.Reach.settle.Goals as goal

pub returns-then-self-eq0-clause-kept : goal.returns-then-self-eq0-clause-kept
returns-then-self-eq0-clause-kept g c = kept_forgot g.K.PartialEq.eq g.P.Fact.holds (get nat_eq c.args.self.now.ends) c.args.self.now.layers c.forget_left.new.self (has_left c.args.self.now.layers.desk.writes) c.forget_left.ensures.makes c.requires
