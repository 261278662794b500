use Rattle.moka_evaluator.proofs.Answering.{finished_plain}
use Rattle.moka_evaluator.proofs.Promised.{answers_plain, others_stay, rule_stays}
use Rattle.moka_evaluator.proofs.promises.answers_are_plain.Goals as goal

pub returns : goal.returns
returns c = record { plain = answers_plain; rule = rule_stays; others = others_stay; finished = finished_plain }
