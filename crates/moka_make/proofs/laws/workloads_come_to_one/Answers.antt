-- Two runs on it are determined, and so is what is reported of their ends.
use Rattle.moka_make.proofs.OneSummary.{workloads_one}
use Rattle.moka_make.proofs.laws.workloads_come_to_one.Goals as goal

pub returns : goal.returns
returns c = workloads_one c.run_is_lawful.ensures.lawful c.runs_are_determined.ensures.same
