-- The predicates that leave are lent to the ground.
use Rattle.std.proofs.Common.{subst}
use Rattle.moka_hist.specs.declared.accesses.Want.TheVariants as want
use Rattle.moka_hist.specs.declared.visits.Visit.TheVariants as visit
use Rattle.moka_init.specs.Grounds.{access_at}
use Rattle.moka_init.proofs.Leaving.{leaving_on, leaving_wish}
use Rattle.moka_init.proofs.Serving.{gives_so, lacks_so, tells_so}
use Rattle.moka_init.proofs.goings.lend.Goals as goal

pub retire-requires : goal.retire-requires
retire-requires g c = record { fits = subst (g.G.Ground.fits c.args.ground.now) (leaving_wish c.args.flow.now c.in-Some.ids.now c.in-Some.ensures) c.requires.fits }

pub returns-clause-gives : goal.returns-clause-gives
returns-clause-gives g c =
    let flow = c.args.flow.now in
    let account = g.G.Ground.account c.args.ground.now in
    gives_so account (want.Desk (visit.Retire c.in-Some.ids.now)) (access_at flow) (leaving_on flow c.in-Some.ids.now c.in-Some.ensures account.begun c.requires.on.begun)
    c.retire.result g.K.PartialEq.eq flow.call
    (g.G.Ground.stands c.args.ground.now) (g.G.Ground.stands c.retire.new.self) c.requires.on.call c.retire.ensures.gives

pub returns-clause-tells : goal.returns-clause-tells
returns-clause-tells g c =
    let flow = c.args.flow.now in
    let account = g.G.Ground.account c.args.ground.now in
    tells_so account (want.Desk (visit.Retire c.in-Some.ids.now)) (access_at flow) (leaving_on flow c.in-Some.ids.now c.in-Some.ensures account.begun c.requires.on.begun)
    c.retire.result (g.G.Ground.account c.retire.new.self) c.retire.ensures.tells

pub returns-clause-err_needs : goal.returns-clause-err_needs
returns-clause-err_needs g c =
    let flow = c.args.flow.now in
    let account = g.G.Ground.account c.args.ground.now in
    lacks_so flow c.retire.result (g.G.Ground.stands c.args.ground.now) g.G.Ground.needs account (want.Desk (visit.Retire c.in-Some.ids.now))
    (leaving_on flow c.in-Some.ids.now c.in-Some.ensures account.begun c.requires.on.begun) c.retire.ensures.err_needs
