use Rattle.moka_evaluator.proofs.Keeping.{asked_keeps, dropped_keeps, finished_keeps, turned_keeps}
use Rattle.moka_evaluator.proofs.promises.calls_keep.Goals as goal

pub returns : goal.returns
returns c = record {
  asked = λ e r sound. asked_keeps e sound r;
  turned = turned_keeps;
  dropped = λ e q sound. dropped_keeps e sound q;
  finished = finished_keeps;
}
