use Rattle.moka_requests.proofs.Whole.{of_all_bytes, only_adds}
use Rattle.moka_requests.proofs.laws.requests_are_of_all_bytes.Goals as goal

pub returns-clause-all : goal.returns-clause-all
returns-clause-all c = of_all_bytes

pub returns-clause-adds : goal.returns-clause-adds
returns-clause-adds c = only_adds
