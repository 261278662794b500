-- What the key's last unsent write left is true, and else what the keeper has.
use Rattle.std.proofs.Common.{◌∙◌, sym}
use Rattle.std.proofs.lemmas.Result.{IfOk-weaker}
use Rattle.moka_keepers.proofs.Truths.{true_kept, true_last}
use Rattle.moka_keepers.proofs.unsent.Unsent.find.Goals as goal

pub returns-in-Some-clause-true_value : goal.returns-in-Some-clause-true_value
returns-in-Some-clause-true_value g c = λ truth sent o.
    true_last c.args.self.now (g.Kp.Keeper.told c.args.keeper.now) truth sent c.args.key c.in-Some.last o
    (sym c.last_of.ensures ∙ c.in-Some.is)

pub returns-in-None-clause-true_value : goal.returns-in-None-clause-true_value
returns-in-None-clause-true_value g c = IfOk-weaker c.get.result _ _ (λ found is truth sent o.
    true_kept c.args.self.now (g.Kp.Keeper.told c.args.keeper.now) truth sent c.args.key found o
    (sym c.last_of.ensures ∙ c.in-None.is) is)
    c.get.ensures.value
