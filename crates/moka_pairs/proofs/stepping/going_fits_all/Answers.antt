use Rattle.moka_pairs.proofs.Steps.{falls_after, fits_after, keeps_after}
use Rattle.moka_pairs.proofs.stepping.going_fits_all.Goals as goal

pub returns : goal.returns
returns g c = record {
  going = λ eq laws hash respects known key c saw old new sound sees d is. (
    fits_after eq laws hash respects known key c saw old new sound sees d is,
    keeps_after eq laws hash respects known key c saw old new sound sees d is,
    λ first peak short. (falls_after eq laws hash respects known key c saw old new sound sees first peak d short is).0,
  );
}
