-- A step makes the flow's access, and goes on with what it gave.
use Rattle.std.proofs.Common.{◌≡◌, Some, sym, subst, ◌∙◌}
use Rattle.moka_hist.specs.Step.{Access}
use Rattle.moka_init.specs.Forms.{HasForm}
use Rattle.moka_init.specs.Grounds.{access_at, wanted}
use Rattle.moka_init.proofs.Still.{access_still, live_still, next_still}
use Rattle.moka_init.proofs.Stepping.{moves_so, nears_so, on_so, tells_step}
use Rattle.moka_init.proofs.goings.step.Goals as goal

pub access-requires : goal.access-requires
access-requires g c = record { fits = rw c.in_ok-want.ensures.want c.requires.fits }

pub take-requires-clause-live : goal.take-requires-clause-live
take-requires-clause-live g c =
    live_still c.args.flow.now c.want.new.self c.in_ok-want.ensures.still c.requires.live

pub take-requires-clause-form : goal.take-requires-clause-form
take-requires-clause-form g c =
    let told = c.in_ok-given.ensures.tells (access_at c.args.flow.now)
    (rw c.in_ok-want.ensures.want c.requires.on.begun) in
    subst (λ (a : Access g.row.K.Denot g.row.V.Denot g.row.E.Denot). HasForm a c.in_ok-given.given)
    (sym (access_still c.args.flow.now c.want.new.self c.in_ok-want.ensures.still)) told.form

pub returns-clause-moves : goal.returns-clause-moves
returns-clause-moves g c =
    let flow = c.args.flow.now in
    let on : wanted (g.G.Ground.account c.args.ground.now).begun c.in_ok-want.want ≡ Some (access_at flow) = rw c.in_ok-want.ensures.want c.requires.on.begun in
    let next = c.take.ensures.next ∙ next_still flow c.want.new.self c.in_ok-given.given c.in_ok-want.ensures.still in
    moves_so g.K.PartialEq.eq flow c.take.new.self c.take.result c.in_ok-given.given (g.G.Ground.stands c.args.ground.now) (g.G.Ground.stands c.access.new.self)
    (rw c.requires.on.call at c.in_ok-given.ensures.gives (access_at flow) on) (c.in_ok-given.ensures.tells (access_at flow) on).form next

pub returns-clause-tells : goal.returns-clause-tells
returns-clause-tells g c =
    let flow = c.args.flow.now in
    let on : wanted (g.G.Ground.account c.args.ground.now).begun c.in_ok-want.want ≡ Some (access_at flow) = rw c.in_ok-want.ensures.want c.requires.on.begun in
    let next = c.take.ensures.next ∙ next_still flow c.want.new.self c.in_ok-given.given c.in_ok-want.ensures.still in
    tells_step flow c.take.new.self c.take.result c.in_ok-given.given (g.G.Ground.account c.args.ground.now) (g.G.Ground.account c.access.new.self)
    (c.in_ok-given.ensures.tells (access_at flow) on) next

pub returns-clause-on : goal.returns-clause-on
returns-clause-on g c =
    let flow = c.args.flow.now in
    let on : wanted (g.G.Ground.account c.args.ground.now).begun c.in_ok-want.want ≡ Some (access_at flow) = rw c.in_ok-want.ensures.want c.requires.on.begun in
    let next = c.take.ensures.next ∙ next_still flow c.want.new.self c.in_ok-given.given c.in_ok-want.ensures.still in
    on_so flow c.take.new.self c.take.result c.in_ok-given.given (g.G.Ground.account c.args.ground.now) (g.G.Ground.account c.access.new.self)
    (c.in_ok-given.ensures.tells (access_at flow) on) next c.requires.on.call (c.take.ensures.number ∙ c.in_ok-want.ensures.still.number) c.take.ensures.begun

pub returns-clause-nears : goal.returns-clause-nears
returns-clause-nears g c = λ going.
    let flow = c.args.flow.now in
    let on : wanted (g.G.Ground.account c.args.ground.now).begun c.in_ok-want.want ≡ Some (access_at flow) = rw c.in_ok-want.ensures.want c.requires.on.begun in
    let next = c.take.ensures.next ∙ next_still flow c.want.new.self c.in_ok-given.given c.in_ok-want.ensures.still in
    nears_so g.K.PartialEq.eq flow c.take.new.self c.take.result c.in_ok-given.given (g.G.Ground.stands c.args.ground.now) (g.G.Ground.stands c.access.new.self)
    (g.G.Ground.account c.args.ground.now) (g.G.Ground.account c.access.new.self)
    (rw c.requires.on.call at c.in_ok-given.ensures.gives (access_at flow) on) (c.in_ok-given.ensures.tells (access_at flow) on) next c.requires.on.call going
    (λ w. g.met.G.Ground.counts c.args.ground.now w) (λ w. g.met.G.Ground.counts c.access.new.self w)
