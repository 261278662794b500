-- The visit is made where nothing is begun.
use Rattle.std.proofs.Common.{refl}
use Rattle.moka_hist.specs.declared.visits.Visit.TheVariants as visit
use Rattle.moka_layers.specs.Handing.{handed_by, ids_of}
use Rattle.moka_layers.proofs.Visited.{by_desk}
use Rattle.moka_layers.proofs.Wanted.{visit_serves}
use Rattle.moka_layers.proofs.layers.Layers.retire_lent.Goals as goal

pub returns-clause-serves : goal.returns-clause-serves
returns-clause-serves g c =
    let layers = c.args.self.now in
    let handed = handed_by g.Q.Tests layers.tests (ids_of layers.ids) in
    let made = visit.Retire c.args.ids.now in
    visit_serves g.T.Table g.Q.Tests g.K.PartialEq.eq layers.table layers.tests layers.ids layers.ids layers.desk c.retire-found.new.desk layers.call layers.begun made c.retire-found.result
    c.requires.none
    (by_desk g.K.PartialEq.eq layers.desk made made refl handed c.retire-found.new.desk c.retire-found.result refl c.retire-found.ensures.visit)

pub returns-clause-decides : goal.returns-clause-decides
returns-clause-decides g c = λ always. ((λ e. (cc)), c.requires.none)
