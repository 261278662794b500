use Rattle.moka_history.proofs.Fronts.{good_now, made_still}
use Rattle.moka_history.proofs.lasting.tickets_are_spent_once.Goals as goal

pub returns : goal.returns
returns g c = record {
  once = λ eq hash place log kept ticket. (
    (good_now eq hash place log kept).drawn.once ticket,
    λ own home at. ((good_now eq hash place log kept).drawn.cells own ticket home at).1,
    λ front is one. made_still eq hash place log kept front is ticket one,
  );
}
