use Rattle.moka_words.proofs.Passing.{passed_lasts}
use Rattle.moka_words.proofs.lasting.passed_stays_passed.Goals as goal

pub returns : goal.returns
returns c = record { passed = passed_lasts }
