-- The operation that was begun is the one that goes on.
use Rattle.std.proofs.Common.{◌≡◌, Some, sym, ap, subst, ◌∙◌}
use Rattle.std.proofs.lemmas.Result.{IfOk-weaker, on_err_weaker}
use Rattle.moka_hist.specs.Step.{On_table}
use Rattle.moka_init.specs.Grounds.{Accesses}
use Rattle.moka_layers.specs.Layers.{LayersStay, Serves, account_of, operation_in}
use Rattle.moka_layers.specs.declared.layers.Layers.{Layers}
use Rattle.moka_layers.proofs.Wanted.{with_begun}
use Rattle.moka_layers.proofs.layers.Layers.resume.Goals as goal

pub returns-clause-serves : goal.returns-clause-serves
returns-clause-serves g c =
    let t = g.T.Table in
    let begun : c.args.self.now.begun ≡ Some c.in-Some.call = sym c.take.ensures.value ∙ c.in-Some.is in
    IfOk-weaker c.go_on.result _ _ (λ given serves o is_o.
    subst (λ (l : Layers g.row.K.Denot g.row.V.Denot g.row.E.Denot g.row.T.Denot g.row.C.Denot g.row.Q.Denot g.row.S.Denot g.row.S-Hasher.Denot g.K.PartialEq g.K.Hash g.S.BuildHasher g.S.Hasher.Hasher). Serves g.K.PartialEq.eq t g.Q.Tests l (On_table o) given c.go_on.new.self)
    (with_begun t g.Q.Tests g.K.PartialEq.eq c.args.self.now c.in-Some.call begun) (serves o (ap (operation_in t) (sym begun) ∙ is_o)))
    c.go_on.ensures.serves

pub returns-clause-tells : goal.returns-clause-tells
returns-clause-tells g c =
    let t = g.T.Table in
    let begun : c.args.self.now.begun ≡ Some c.in-Some.call = sym c.take.ensures.value ∙ c.in-Some.is in
    IfOk-weaker c.go_on.result _ _ (λ given tells o is_o.
    subst (λ (l : Layers g.row.K.Denot g.row.V.Denot g.row.E.Denot g.row.T.Denot g.row.C.Denot g.row.Q.Denot g.row.S.Denot g.row.S-Hasher.Denot g.K.PartialEq g.K.Hash g.S.BuildHasher g.S.Hasher.Hasher). Accesses (account_of t l) (On_table o) given (account_of t c.go_on.new.self))
    (with_begun t g.Q.Tests g.K.PartialEq.eq c.args.self.now c.in-Some.call begun) (tells o (ap (operation_in t) (sym begun) ∙ is_o)))
    c.go_on.ensures.tells

pub returns-clause-err : goal.returns-clause-err
returns-clause-err g c =
    let t = g.T.Table in
    let begun : c.args.self.now.begun ≡ Some c.in-Some.call = sym c.take.ensures.value ∙ c.in-Some.is in
    on_err_weaker c.go_on.result (λ keeps.
    subst (λ (l : Layers g.row.K.Denot g.row.V.Denot g.row.E.Denot g.row.T.Denot g.row.C.Denot g.row.Q.Denot g.row.S.Denot g.row.S-Hasher.Denot g.K.PartialEq g.K.Hash g.S.BuildHasher g.S.Hasher.Hasher). LayersStay g.K.PartialEq.eq t g.Q.Tests l c.go_on.new.self)
    (with_begun t g.Q.Tests g.K.PartialEq.eq c.args.self.now c.in-Some.call begun) keeps)
    c.go_on.ensures.err
