use Rattle.moka_pairs.proofs.Steps.{later_after, sound_after}
use Rattle.moka_pairs.proofs.stepping.access_keeps_all.Goals as goal

pub returns : goal.returns
returns g c = record {
  keeps = λ eq laws hash respects known key c saw old new sound sees. (
    sound_after eq laws hash respects known key c saw old new sound sees,
    later_after eq laws hash respects known key c saw old new sound sees,
  );
}
