-- What is noted of the owner is forgotten in the world that is kept.
use Rattle.std.proofs.Common.{nat_eq, sym, ◌∙◌}
use Rattle.std.specs.HashMap.{get}
use Rattle.moka_kept.proofs.Noting.{forgot_at}
use Rattle.moka_kept.proofs.ground.Reach.forget.Goals as goal

pub returns-then-not-keeps_end-clause-kept : goal.returns-then-not-keeps_end-clause-kept
returns-then-not-keeps_end-clause-kept g c =
    forgot_at g.K.PartialEq.eq g.P.Fact.holds (get nat_eq c.args.self.now.ends) (get nat_eq c.take_noted.new.ends) c.args.self.now.layers c.args.owner
    (λ w stands. sym c.if-not-keeps_end.true ∙ c.keeps_end.ensures w stands) c.take_noted.ensures c.requires
