use Rattle.moka_history.proofs.Fronts.{seals_now}
use Rattle.moka_history.proofs.lasting.seals_are_named.Goals as goal

pub returns : goal.returns
returns g c = record {
  named = λ eq hash place log kept array index sealed. seals_now eq hash place log kept array index sealed;
}
