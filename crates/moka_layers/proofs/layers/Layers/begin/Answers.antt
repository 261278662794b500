-- The operation begins on layers where none was begun.
use Rattle.std.proofs.Common.{Some, ap}
use Rattle.moka_layers.proofs.Wanted.{begins, begins_none, begin_tells, gets_begun, others_begun, others_still}
use Rattle.moka_layers.proofs.layers.Layers.begin.Goals as goal

pub returns-in-Ok-clause-serves : goal.returns-in-Ok-clause-serves
returns-in-Ok-clause-serves g c = λ w h may.
    let t = g.T.Table in
    let eq = g.K.PartialEq.eq in
    let o = c.args.operation in
    let old = c.args.self.now in
    let made = c.begin-call.ensures in
    let there = begins t g.Q.Tests eq old c.begin-call.result o w c.requires.none made.operation made.fits made.left (λ p is. made.none p is) (λ p is. made.all p is) h in
    let served = c.in-Ok.ensures.serves o made.operation _ there may in
    (served.0, gets_begun eq old.call o w c.in-Ok.given served.0 served.1, served.2, others_begun t g.Q.Tests eq old c.go_on.new.self (Some c.begin-call.result) o w served.0 served.3)

pub returns-in-Ok-clause-tells : goal.returns-in-Ok-clause-tells
returns-in-Ok-clause-tells g c =
    begin_tells g.T.Table g.Q.Tests g.K.PartialEq.eq c.args.self.now c.begin-call.result c.args.operation c.in-Ok.given c.go_on.new.self c.requires.none c.begin-call.ensures.left
    (c.in-Ok.ensures.tells c.args.operation c.begin-call.ensures.operation)

pub returns-in-Err-clause-err : goal.returns-in-Err-clause-err
returns-in-Err-clause-err g c = λ w h.
    let t = g.T.Table in
    let eq = g.K.PartialEq.eq in
    let o = c.args.operation in
    let old = c.args.self.now in
    let made = c.begin-call.ensures in
    let there = begins t g.Q.Tests eq old c.begin-call.result o w c.requires.none made.operation made.fits made.left (λ p is. made.none p is) (λ p is. made.all p is) h in
    let kept = c.in-Err.ensures.err _ there in (
      begins_none t g.Q.Tests eq old c.go_on.new.self w c.requires.none c.go_on.ensures.call (ap (λ a. a.work.most) c.in-Err.ensures.err_account) o h kept.0,
      others_still t g.Q.Tests eq old c.go_on.new.self (Some c.begin-call.result) o w kept.1,
    )
