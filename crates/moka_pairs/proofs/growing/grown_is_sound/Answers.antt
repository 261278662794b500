use Rattle.moka_pairs.proofs.Grown.{fits_grown, sound_grown}
use Rattle.moka_pairs.proofs.growing.grown_is_sound.Goals as goal

pub returns : goal.returns
returns g c = record {
  grown = λ eq hash known more grows. (
    sound_grown eq hash known more grows,
    fits_grown eq hash known more grows,
  );
}
