-- The visit is the one that is wanted.
use Rattle.std.proofs.Common.{refl, subst}
use Rattle.moka_hist.specs.Step.{Access}
use Rattle.moka_hist.specs.declared.accesses.Want.TheVariants as want
use Rattle.moka_hist.specs.declared.visits.Visit.TheVariants as visit
use Rattle.moka_init.specs.Grounds.{Accesses}
use Rattle.moka_layers.specs.Layers.{Serves, account_of, operation_in}
use Rattle.moka_layers.proofs.Wanted.{wanted_visit}
use Rattle.moka_layers.proofs.layers.Layers.retire.Goals as goal

pub returns-clause-serves : goal.returns-clause-serves
returns-clause-serves g c = λ access is.
    let t = g.T.Table in
    let made = visit.Retire c.args.ids.now in
    subst (λ (a : Access g.row.K.Denot g.row.V.Denot g.row.E.Denot). Serves g.K.PartialEq.eq t g.Q.Tests c.args.self.now a c.retire_lent.result c.retire_lent.new.self)
    (wanted_visit (operation_in t c.args.self.now.begun) (want.Desk made) access made refl is) c.retire_lent.ensures.serves

pub returns-clause-tells : goal.returns-clause-tells
returns-clause-tells g c = λ access is.
    let t = g.T.Table in
    let made = visit.Retire c.args.ids.now in
    subst (λ (a : Access g.row.K.Denot g.row.V.Denot g.row.E.Denot). Accesses (account_of t c.args.self.now) a c.retire_lent.result (account_of t c.retire_lent.new.self))
    (wanted_visit (operation_in t c.args.self.now.begun) (want.Desk made) access made refl is) c.retire_lent.ensures.tells
