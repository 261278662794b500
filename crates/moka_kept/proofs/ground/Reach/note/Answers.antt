-- The key is noted in the world that is kept.
use Rattle.std.proofs.Common.{Some, nat_eq, ap, sym, ◌∙◌}
use Rattle.std.specs.HashMap.{get}
use Rattle.moka_laws.proofs.Counting.{put_here}
use Rattle.moka_kept.proofs.Noting.{noted_at, same_at, told_still}
use Rattle.moka_kept.proofs.ground.Reach.note.Goals as goal

pub returns-in-Ok-clause-kept : goal.returns-in-Ok-clause-kept
returns-in-Ok-clause-kept g c =
    (noted_at g.K.PartialEq.eq g.P.Fact.holds (get nat_eq c.args.self.now.ends) (get nat_eq c.put_noted.new.ends) c.args.self.now.layers c.args.call c.in_ok-noted.noted
    (λ w stands. sym c.if-keeps_end.false ∙ c.keeps_end.ensures w stands) c.in-Ok.ensures.ok c.requires).0

pub returns-in-Ok-clause-told : goal.returns-in-Ok-clause-told
returns-in-Ok-clause-told g c =
    told_still g.K.PartialEq.eq g.P.Fact.holds (get nat_eq c.args.self.now.ends) (get nat_eq c.put_noted.new.ends) c.args.self.now.layers
    (noted_at g.K.PartialEq.eq g.P.Fact.holds (get nat_eq c.args.self.now.ends) (get nat_eq c.put_noted.new.ends) c.args.self.now.layers c.args.call c.in_ok-noted.noted
    (λ w stands. sym c.if-keeps_end.false ∙ c.keeps_end.ensures w stands) c.in-Ok.ensures.ok)

pub returns-in-Ok-clause-noted : goal.returns-in-Ok-clause-noted
returns-in-Ok-clause-noted g c =
    c.in-Ok.ensures.ok c.args.call ∙ put_here (get nat_eq c.args.self.now.ends) c.args.call (Some c.in_ok-noted.noted)
    ∙ ap Some (g.met.K.Exact.exact _ _ c.in_ok-noted.ensures.cases)

pub returns-in-Err-clause-kept : goal.returns-in-Err-clause-kept
returns-in-Err-clause-kept g c =
    (same_at g.K.PartialEq.eq g.P.Fact.holds (get nat_eq c.args.self.now.ends) (get nat_eq c.put_noted.new.ends) c.args.self.now.layers c.in-Err.ensures.err c.requires).0

pub returns-in-Err-clause-told : goal.returns-in-Err-clause-told
returns-in-Err-clause-told g c =
    told_still g.K.PartialEq.eq g.P.Fact.holds (get nat_eq c.args.self.now.ends) (get nat_eq c.put_noted.new.ends) c.args.self.now.layers
    (same_at g.K.PartialEq.eq g.P.Fact.holds (get nat_eq c.args.self.now.ends) (get nat_eq c.put_noted.new.ends) c.args.self.now.layers c.in-Err.ensures.err)
