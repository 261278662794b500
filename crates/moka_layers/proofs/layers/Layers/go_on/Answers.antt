-- The table's step is the reference's, and the desk is as it was.
use Rattle.std.proofs.Common.{Some, ap, refl, subst, arith, ◌∙◌}
use Rattle.moka_hist.specs.declared.tables.TableOp.{TableOp}
use Rattle.moka_hist.specs.declared.tables.TableTurn.{TableTurn}
use Rattle.moka_layers.proofs.TableSteps.{Stepped, wanting_stays, going_serves, going_tells, decided_serves, decided_tells}
use Rattle.moka_layers.proofs.layers.Layers.go_on.Goals as goal

pub returns-in-Ok-Going-clause-serves : goal.returns-in-Ok-Going-clause-serves
returns-in-Ok-Going-clause-serves g c = λ o is_o.
    let t = g.T.Table in
    let old = c.args.self.now.table in
    let e = c.in-Ok-Going.ensures in
    let s = subst (λ (u : TableTurn g.row.K.Denot g.row.V.Denot). Stepped t g.K.PartialEq.eq o old c.args.call u c.step.new.self c.step.new.call) c.in-Ok-Going.field-0-is
    (record { moves = e.moves o is_o; peak = e.peak; first = e.first; undecided = e.undecided; nears = e.nears; others = e.others; others_left = e.others_left; holds = g.met.T.Table.peak_holds old; parts = e.parts; lists = λ p keys. e.lists p (is_o ∙ ap (λ (x : TableOp g.row.K.Denot g.row.V.Denot). Some x) keys); gives = λ p ks keys. e.gives p ks (is_o ∙ ap (λ (x : TableOp g.row.K.Denot g.row.V.Denot). Some x) keys); others_listed = e.others_listed; others_cover = e.others_cover }) in
    going_serves t g.Q.Tests g.K.PartialEq.eq o old c.step.new.self c.args.call c.step.new.call c.args.self.now.desk c.args.self.now.tests c.args.self.now.ids c.args.self.now.call s is_o

pub returns-in-Ok-Going-clause-tells : goal.returns-in-Ok-Going-clause-tells
returns-in-Ok-Going-clause-tells g c = λ o is_o.
    let t = g.T.Table in
    let old = c.args.self.now.table in
    let e = c.in-Ok-Going.ensures in
    let s = subst (λ (u : TableTurn g.row.K.Denot g.row.V.Denot). Stepped t g.K.PartialEq.eq o old c.args.call u c.step.new.self c.step.new.call) c.in-Ok-Going.field-0-is
    (record { moves = e.moves o is_o; peak = e.peak; first = e.first; undecided = e.undecided; nears = e.nears; others = e.others; others_left = e.others_left; holds = g.met.T.Table.peak_holds old; parts = e.parts; lists = λ p keys. e.lists p (is_o ∙ ap (λ (x : TableOp g.row.K.Denot g.row.V.Denot). Some x) keys); gives = λ p ks keys. e.gives p ks (is_o ∙ ap (λ (x : TableOp g.row.K.Denot g.row.V.Denot). Some x) keys); others_listed = e.others_listed; others_cover = e.others_cover }) in
    going_tells t g.Q.Tests g.K.PartialEq.eq o old c.step.new.self c.args.call c.step.new.call c.args.self.now.desk c.args.self.now.tests c.args.self.now.ids c.args.self.now.call s is_o c.requires.within

pub returns-in-Ok-Decided-clause-serves : goal.returns-in-Ok-Decided-clause-serves
returns-in-Ok-Decided-clause-serves g c = λ o is_o.
    let t = g.T.Table in
    let old = c.args.self.now.table in
    let e = c.in-Ok-Decided.ensures in
    let s = subst (λ (u : TableTurn g.row.K.Denot g.row.V.Denot). Stepped t g.K.PartialEq.eq o old c.args.call u c.step.new.self c.step.new.call) c.in-Ok-Decided.field-0-is
    (record { moves = e.moves o is_o; peak = e.peak; first = e.first; undecided = e.undecided; nears = e.nears; others = e.others; others_left = e.others_left; holds = g.met.T.Table.peak_holds old; parts = e.parts; lists = λ p keys. e.lists p (is_o ∙ ap (λ (x : TableOp g.row.K.Denot g.row.V.Denot). Some x) keys); gives = λ p ks keys. e.gives p ks (is_o ∙ ap (λ (x : TableOp g.row.K.Denot g.row.V.Denot). Some x) keys); others_listed = e.others_listed; others_cover = e.others_cover }) in
    decided_serves t g.Q.Tests g.K.PartialEq.eq o old c.step.new.self c.args.call c.step.new.call c.args.self.now.desk c.args.self.now.tests c.args.self.now.ids c.args.self.now.call c.in-Ok-Decided.answer s is_o

pub returns-in-Ok-Decided-clause-tells : goal.returns-in-Ok-Decided-clause-tells
returns-in-Ok-Decided-clause-tells g c = λ o is_o.
    let t = g.T.Table in
    let old = c.args.self.now.table in
    let e = c.in-Ok-Decided.ensures in
    let s = subst (λ (u : TableTurn g.row.K.Denot g.row.V.Denot). Stepped t g.K.PartialEq.eq o old c.args.call u c.step.new.self c.step.new.call) c.in-Ok-Decided.field-0-is
    (record { moves = e.moves o is_o; peak = e.peak; first = e.first; undecided = e.undecided; nears = e.nears; others = e.others; others_left = e.others_left; holds = g.met.T.Table.peak_holds old; parts = e.parts; lists = λ p keys. e.lists p (is_o ∙ ap (λ (x : TableOp g.row.K.Denot g.row.V.Denot). Some x) keys); gives = λ p ks keys. e.gives p ks (is_o ∙ ap (λ (x : TableOp g.row.K.Denot g.row.V.Denot). Some x) keys); others_listed = e.others_listed; others_cover = e.others_cover }) in
    decided_tells t g.Q.Tests g.K.PartialEq.eq o old c.step.new.self c.args.call c.step.new.call c.args.self.now.desk c.args.self.now.tests c.args.self.now.ids c.args.self.now.call c.in-Ok-Decided.answer s

pub returns-in-Ok-Going-clause-decides : goal.returns-in-Ok-Going-clause-decides
returns-in-Ok-Going-clause-decides g c = λ always.
    let less = c.in-Ok-Going.ensures.nears c.in-Ok-Going.field-0-is in
    let before = always.1 c.args.self.now.table c.args.call in
    let after = always.1 c.step.new.self c.step.new.call in
    absurd (omega (arith, less, before, after))

pub returns-in-Ok-Decided-clause-decides : goal.returns-in-Ok-Decided-clause-decides
returns-in-Ok-Decided-clause-decides g c = λ always. ((λ e. (cc)), refl)

pub returns-in-Err-clause-err : goal.returns-in-Err-clause-err
returns-in-Err-clause-err g c =
    let t = g.T.Table in
    let old = c.args.self.now.table in
    let e = c.in-Err.ensures in
    wanting_stays t g.Q.Tests g.K.PartialEq.eq old c.step.new.self c.args.call c.step.new.call c.args.self.now.desk c.args.self.now.tests c.args.self.now.ids c.args.self.now.call
    (record {
      map = e.err_map;
      count = e.err_count;
      peak = e.peak;
      first = e.first;
      holds = g.met.T.Table.peak_holds old;
      parts = e.parts;
      operation = e.err_call.0;
      fits = e.err_call.1;
      left = e.err_call.2;
      listed = λ q. (e.err_listed q).0;
      covers = λ q. (e.err_listed q).1;
      others = e.others;
      others_left = e.err_others;
      others_listed = e.others_listed;
      others_cover = e.others_cover;
    })
