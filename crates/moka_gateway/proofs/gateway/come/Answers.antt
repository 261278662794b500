-- A bad line is answered at once.
use Rattle.std.proofs.Common.{sym, subst}
use Rattle.std.proofs.lemmas.Result.{on_ok_weaker}
use Rattle.moka_requests.specs.declared.request.Request.{Request}
use Rattle.moka_collapsing.specs.Reference.{comes}
use Rattle.moka_gateway.specs.Folds.{HasCome}
use Rattle.moka_gateway.proofs.Rows.{come_bad}
use Rattle.moka_gateway.proofs.gateway.come.Goals as goal

pub returns-in-Bad : goal.returns-in-Bad
returns-in-Bad c = on_ok_weaker c.add.result (λ e c0 h.
    subst (λ (r : Request). HasCome c.args.fetches.now c.add.new.self c.args.outs.now.items (comes c.args.number c0 r)) (sym c.in-Bad.is)
    (come_bad c.args.fetches.now c.args.client.now c.add.new.self c.args.outs.now.items c0 c.args.number h e))
    c.add.ensures
