-- Each way of an access makes the one that is wanted.
use Rattle.std.proofs.Common.{◌≡◌, refl, subst}
use Rattle.std.proofs.lemmas.Result.{IfOk-weaker, on_err_weaker}
use Rattle.moka_hist.specs.Step.{Access}
use Rattle.moka_init.specs.Grounds.{Accesses}
use Rattle.moka_layers.specs.Needing.{NeedsMemory}
use Rattle.moka_layers.specs.Layers.{Serves, account_of, handed_for, operation_in}
use Rattle.moka_layers.proofs.Wanted.{wanted_begin, wanted_table, wanted_visit}
use Rattle.moka_layers.proofs.layers.Layers.access_waking.Goals as goal

pub returns-in-Begin-clause-serves : goal.returns-in-Begin-clause-serves
returns-in-Begin-clause-serves g c =
    let t = g.T.Table in
    IfOk-weaker c.begin.result _ _ (λ given serves access is.
    subst (λ (a : Access g.row.K.Denot g.row.V.Denot g.row.E.Denot). Serves g.K.PartialEq.eq t g.Q.Tests c.args.self.now a given c.begin.new.self)
    (wanted_begin (operation_in t c.args.self.now.begun) c.args.want access c.in-Begin.operation c.in-Begin.is is) serves)
    c.begin.ensures.serves

pub returns-in-Table-clause-serves : goal.returns-in-Table-clause-serves
returns-in-Table-clause-serves g c =
    let t = g.T.Table in
    IfOk-weaker c.resume.result _ _ (λ given serves access is.
    let o = wanted_table (operation_in t c.args.self.now.begun) c.args.want access c.in-Table.is is in
    subst (λ (a : Access g.row.K.Denot g.row.V.Denot g.row.E.Denot). Serves g.K.PartialEq.eq t g.Q.Tests c.args.self.now a given c.resume.new.self) o.2 (serves o.0 o.1))
    c.resume.ensures.serves

pub returns-in-Table-clause-tells : goal.returns-in-Table-clause-tells
returns-in-Table-clause-tells g c =
    let t = g.T.Table in
    IfOk-weaker c.resume.result _ _ (λ given tells access is.
    let o = wanted_table (operation_in t c.args.self.now.begun) c.args.want access c.in-Table.is is in
    subst (λ (a : Access g.row.K.Denot g.row.V.Denot g.row.E.Denot). Accesses (account_of t c.args.self.now) a given (account_of t c.resume.new.self)) o.2 (tells o.0 o.1))
    c.resume.ensures.tells

pub returns-in-Desk-clause-serves : goal.returns-in-Desk-clause-serves
returns-in-Desk-clause-serves g c =
    let t = g.T.Table in
    IfOk-weaker c.visit.result _ _ (λ given serves access is.
    subst (λ (a : Access g.row.K.Denot g.row.V.Denot g.row.E.Denot). Serves g.K.PartialEq.eq t g.Q.Tests c.args.self.now a given c.visit.new.self)
    (wanted_visit (operation_in t c.args.self.now.begun) c.args.want access c.in-Desk.visit c.in-Desk.is is) serves)
    c.visit.ensures.serves

pub returns-in-Begin-clause-tells : goal.returns-in-Begin-clause-tells
returns-in-Begin-clause-tells g c =
    let t = g.T.Table in
    IfOk-weaker c.begin.result _ _ (λ given tells access is.
    subst (λ (a : Access g.row.K.Denot g.row.V.Denot g.row.E.Denot). Accesses (account_of t c.args.self.now) a given (account_of t c.begin.new.self))
    (wanted_begin (operation_in t c.args.self.now.begun) c.args.want access c.in-Begin.operation c.in-Begin.is is) tells)
    c.begin.ensures.tells

pub returns-in-Desk-clause-tells : goal.returns-in-Desk-clause-tells
returns-in-Desk-clause-tells g c =
    let t = g.T.Table in
    IfOk-weaker c.visit.result _ _ (λ given tells access is.
    subst (λ (a : Access g.row.K.Denot g.row.V.Denot g.row.E.Denot). Accesses (account_of t c.args.self.now) a given (account_of t c.visit.new.self))
    (wanted_visit (operation_in t c.args.self.now.begun) c.args.want access c.in-Desk.visit c.in-Desk.is is) tells)
    c.visit.ensures.tells

pub returns-in-Desk-clause-err_needs : goal.returns-in-Desk-clause-err_needs
returns-in-Desk-clause-err_needs g c =
    let t = g.T.Table in
    on_err_weaker c.visit.result (λ needs access is w h may.
    subst (λ (a : Access g.row.K.Denot g.row.V.Denot g.row.E.Denot). NeedsMemory w a)
    (wanted_visit (operation_in t c.args.self.now.begun) c.args.want access c.in-Desk.visit c.in-Desk.is is) (needs w h))
    c.visit.ensures.err_needs

pub returns-in-Begin-clause-woken : goal.returns-in-Begin-clause-woken
returns-in-Begin-clause-woken g c =
    let t = g.T.Table in
    let woken = c.args.woken.now in
    IfOk-weaker c.begin.result _ _ (λ given serves access is.
    subst (λ (a : Access g.row.K.Denot g.row.V.Denot g.row.E.Denot). woken ≡ handed_for c.args.self.now a woken)
    (wanted_begin (operation_in t c.args.self.now.begun) c.args.want access c.in-Begin.operation c.in-Begin.is is) refl)
    c.begin.ensures.serves

pub returns-in-Table-clause-woken : goal.returns-in-Table-clause-woken
returns-in-Table-clause-woken g c =
    let t = g.T.Table in
    let woken = c.args.woken.now in
    IfOk-weaker c.resume.result _ _ (λ given serves access is.
    let o = wanted_table (operation_in t c.args.self.now.begun) c.args.want access c.in-Table.is is in
    subst (λ (a : Access g.row.K.Denot g.row.V.Denot g.row.E.Denot). woken ≡ handed_for c.args.self.now a woken) o.2 refl)
    c.resume.ensures.serves

pub returns-in-Desk-clause-woken : goal.returns-in-Desk-clause-woken
returns-in-Desk-clause-woken g c =
    let t = g.T.Table in
    IfOk-weaker c.visit.result _ _ (λ given woken access is.
    subst (λ (a : Access g.row.K.Denot g.row.V.Denot g.row.E.Denot). c.visit.new.woken ≡ handed_for c.args.self.now a c.args.woken.now)
    (wanted_visit (operation_in t c.args.self.now.begun) c.args.want access c.in-Desk.visit c.in-Desk.is is) woken)
    c.visit.ensures.woken
