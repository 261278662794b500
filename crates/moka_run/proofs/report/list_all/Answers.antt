-- Each list is that of the machine.
use Rattle.moka_run.proofs.report.list_all.Goals as goal

pub returns : goal.returns
returns g c = λ s h.
    record {
      entries = c.in_ok-entries.ensures s h;
      places = c.in_ok-places.ensures s h;
      notices = c.in_ok-notices.ensures s h;
      tests = c.in_ok-tests.ensures s h;
    }
