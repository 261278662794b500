use Rattle.moka_evaluator.proofs.Calling.{asked_sound, dropped_sound, turned_sound}
use Rattle.moka_evaluator.proofs.Sounding.{fresh_sound}
use Rattle.moka_evaluator.proofs.laws.calls_keep_sound.Goals as goal

pub returns : goal.returns
returns c = record {
  fresh = fresh_sound;
  asked = asked_sound;
  turned = turned_sound;
  dropped = dropped_sound;
}
