-- The answer is told in the world that is kept.
use Rattle.std.proofs.Common.{Some, sym, ◌∙◌}
use Rattle.std.proofs.Common.{nat_eq}
use Rattle.std.specs.HashMap.{get}
use Rattle.moka_kept.proofs.Keeping.{kept_told, told_there}
use Rattle.moka_kept.proofs.ground.Reach.tell.Goals as goal

pub returns-in_ok-tell-in-true-clause-kept : goal.returns-in_ok-tell-in-true-clause-kept
returns-in_ok-tell-in-true-clause-kept g c =
    kept_told g.K.PartialEq.eq g.P.Fact.holds (get nat_eq c.args.self.now.ends) c.args.self.now.layers c.tell.new.self c.args.call c.args.answer c.tell.result c.telling_keeps_sound.ensures.sound c.tell.ensures.makes c.requires

pub returns-in_ok-tell-in-true-clause-told : goal.returns-in_ok-tell-in-true-clause-told
returns-in_ok-tell-in-true-clause-told g c =
    told_there g.K.PartialEq.eq g.P.Fact.holds (get nat_eq c.args.self.now.ends) c.args.self.now.layers c.tell.new.self c.args.call c.args.answer (Some (tt {0})) c.telling_keeps_sound.ensures.sound c.in_ok-tell-in-true.ensures.makes c.requires
    (sym c.is_of_call.ensures ∙ c.in-true.is)
