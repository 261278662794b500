-- The run begins with a fresh cache, and what stands after it is summed up.
use Rattle.std.proofs.Common.{subst}
use Rattle.std.proofs.lemmas.Result.{IfOk-weaker}
use Rattle.moka_hist.specs.Settings.{AreRulesOf}
use Rattle.moka_hist.specs.declared.settings.Settings.{Settings}
use Rattle.moka_make.specs.Summing.{IsSummary}
use Rattle.moka_make.proofs.Summed.{first_reached, made_first, summed_up}
use Rattle.moka_make.proofs.summing.summary_of.Goals as goal

pub returns : goal.returns
returns c =
    let rules = c.rules.result in
    let ruled = subst (λ (s : Settings). AreRulesOf s rules) c.made_on.ensures c.rules.ensures in
    let ran = c.in_ok-replies.ensures (made_first rules) c.in_ok-cache.ensures.fresh (first_reached rules) in
    IfOk-weaker c.sum_up.result _ (λ summary. IsSummary c.args.turns c.args.seed summary)
    (λ summary sums. summed_up c.args.turns c.args.seed rules c.in_ok-replies.replies
    c.run_workload.new.cache summary ruled ran (sums ran.final ran.stands))
    c.sum_up.ensures
