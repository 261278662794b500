-- The visit is made where nothing is begun.
use Rattle.moka_desk.proofs.Outcomes.{on_err}
use Rattle.moka_layers.proofs.Wanted.{ids_stay, visit_serves}
use Rattle.moka_layers.proofs.layers.Layers.visit.Goals as goal

pub returns-clause-serves : goal.returns-clause-serves
returns-clause-serves g c =
    visit_serves g.T.Table g.Q.Tests g.K.PartialEq.eq c.args.self.now.table c.args.self.now.tests c.args.self.now.ids c.make_visit.new.ids c.args.self.now.desk c.make_visit.new.desk c.args.self.now.call c.args.self.now.begun c.args.visit c.in_ok-found.found
    c.requires.none c.in_ok-found.ensures.ok

pub returns-in_err-found-clause-err : goal.returns-in_err-found-clause-err
returns-in_err-found-clause-err g c =
    on_err c.from_residual.result (
    ids_stay g.T.Table g.Q.Tests g.K.PartialEq.eq c.args.self.now.table c.args.self.now.tests c.args.self.now.ids c.make_visit.new.ids c.args.self.now.desk c.make_visit.new.desk c.args.self.now.call c.args.self.now.begun
    c.in_err-found.ensures.err_ids c.in_err-found.ensures.err)

pub returns-clause-decides : goal.returns-clause-decides
returns-clause-decides g c = λ always. ((λ e. (cc)), c.requires.none)

pub returns-in_err-found-clause-err_needs : goal.returns-in_err-found-clause-err_needs
returns-in_err-found-clause-err_needs g c =
    on_err c.from_residual.result (λ w h. c.in_err-found.ensures.err_needs w.desk h.world.desk h.world.handed)
