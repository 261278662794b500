use Rattle.moka_history.proofs.Fronts.{words_have_pairs}
use Rattle.moka_history.proofs.lasting.words_name_pairs.Goals as goal

pub returns : goal.returns
returns g c = record { pairs = λ eq hash place log kept i a index n r named. words_have_pairs eq hash place log kept i a r index n named }
