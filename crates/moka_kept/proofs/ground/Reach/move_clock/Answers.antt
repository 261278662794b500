-- The clock moves on in the world that is kept, or stays.
use Rattle.std.proofs.Common.{nat_eq}
use Rattle.std.specs.HashMap.{get}
use Rattle.moka_kept.proofs.Keeping.{clock_at, kept_at}
use Rattle.moka_kept.proofs.ground.Reach.move_clock.Goals as goal

pub returns-clause-kept : goal.returns-clause-kept
returns-clause-kept g c = kept_at g.K.PartialEq.eq g.P.Fact.holds (get nat_eq c.args.self.now.ends) c.args.self.now.layers c.at.new.self c.args.moment c.clock_keeps_sound.ensures.sound c.at.ensures.makes c.requires

pub returns-clause-clock : goal.returns-clause-clock
returns-clause-clock g c = λ w stands. clock_at g.K.PartialEq.eq g.P.Fact.holds (get nat_eq c.args.self.now.ends) c.args.self.now.layers c.at.new.self c.args.moment c.at.ensures.makes c.requires w stands
