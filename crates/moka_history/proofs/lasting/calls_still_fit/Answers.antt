use Rattle.moka_history.proofs.Fronts.{fits_more, fits_still}
use Rattle.moka_history.proofs.lasting.calls_still_fit.Goals as goal

pub returns : goal.returns
returns g c = record {
  fit = λ eq hash place divided log front kept is i below key c. (
    λ m fits. fits_more eq hash place log kept front is i below key c m fits,
    λ hashed rests fits. fits_still eq hash place log kept front is i below key c divided hashed rests fits,
  );
}
