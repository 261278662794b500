use Rattle.moka_evaluator.proofs.Finishing.{finish_ends, finish_none, finish_on, finish_sound, round_goes}
use Rattle.moka_evaluator.proofs.laws.finish_ends.Goals as goal

pub returns : goal.returns
returns c = record { ends = finish_ends; sound = finish_sound; none = finish_none; on = finish_on; moves = round_goes }
