-- The answers are given, and then the clients are sent what is due.
use Rattle.std.proofs.Common.{[], ◌∙◌, ap}
use Rattle.std.proofs.lemmas.Result.{IfOk-weaker, on_ok_weaker}
use Rattle.moka_collapsing.specs.Folds.{folded}
use Rattle.moka_collapsing.specs.Reference.{sends}
use Rattle.moka_gateway.specs.Folds.{gives_one}
use Rattle.moka_gateway.proofs.gateway.answer_clients.Goals as goal

pub returns-clause-outs : goal.returns-clause-outs
returns-clause-outs c = IfOk-weaker c.send_all.result _ _ (λ outs is cs same.
    is (folded gives_one cs c.args.given.now) (c.in_ok-numbers.ensures.given cs same)
    ∙ ap (λ l. (folded sends (record { clients = folded gives_one cs c.args.given.now; outs = [] }) l).outs) c.in_ok-numbers.ensures.numbers)
    c.send_all.ensures.outs

pub returns-clause-sent : goal.returns-clause-sent
returns-clause-sent c = on_ok_weaker c.send_all.result (λ is cs same n.
    is (folded gives_one cs c.args.given.now) (c.in_ok-numbers.ensures.given cs same) n
    ∙ ap (λ l. (folded sends (record { clients = folded gives_one cs c.args.given.now; outs = [] }) l).clients n) c.in_ok-numbers.ensures.numbers)
    c.send_all.ensures.sent
