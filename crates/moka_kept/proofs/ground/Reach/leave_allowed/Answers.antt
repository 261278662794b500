-- The call leaves the world that is kept.
use Rattle.std.proofs.Common.{nat_eq}
use Rattle.std.specs.HashMap.{get}
use Rattle.moka_hist.specs.Dropping.{left}
use Rattle.moka_kept.proofs.Keeping.{kept_left}
use Rattle.moka_kept.proofs.Noting.{stands_on}
use Rattle.moka_kept.proofs.ground.Reach.leave_allowed.Goals as goal

pub leave-requires : goal.leave-requires
leave-requires g c = let kept = c.requires.kept in (kept.world.desk, kept.stands.desk, c.requires.may kept.world.desk kept.stands.desk)

pub forget_end-requires : goal.forget_end-requires
forget_end-requires g c =
    let kept = c.requires.kept in
    kept_left g.K.PartialEq.eq g.P.Fact.holds (get nat_eq c.args.self.now.ends) c.args.self.now.layers c.leave.new.self c.args.call c.args.held c.leaving_keeps_sound.ensures.sound c.leave.ensures.makes kept
    (c.requires.may kept.world.desk kept.stands.desk)

pub returns-clause-left : goal.returns-clause-left
returns-clause-left g c = λ w stands.
    stands_on g.K.PartialEq.eq c.forget_end.new.self.layers c.forget_end-2.new.self.layers c.forget_end-2.ensures.layers (left w c.args.call c.args.held)
    (stands_on g.K.PartialEq.eq _ c.forget_end.new.self.layers c.forget_end.ensures.layers (left w c.args.call c.args.held) (c.leave.ensures.makes w stands (c.requires.may w stands)))
