-- The lengths are those of the lists of a report on the state.
use Rattle.std.proofs.Common.{refl, rules}
use Rattle.moka_make.proofs.summing.sum_up.Goals as goal

pub returns : goal.returns
returns c = λ s stands. record {
  entries = c.in_ok-entries.field-0;
  places = c.in_ok-places.places;
  notices = c.in_ok-notices.field-0;
  reports = record {
    entries = c.in_ok-entries.ensures s stands;
    places = c.in_ok-places.ensures s stands;
    notices = c.in_ok-notices.ensures s stands;
    tests = refl;
  };
  is = search rules;
}
