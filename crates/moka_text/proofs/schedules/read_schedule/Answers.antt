use Rattle.moka_text.proofs.Texts.{found_said, returned_bad}
use Rattle.moka_text.proofs.schedules.read_schedule.Goals as goal

pub returns-clause-found : goal.returns-clause-found
returns-clause-found c = found_said c.args.bytes.now c.read_whole.result c.read_whole.ensures.exact

pub returns-clause-bad_line : goal.returns-clause-bad_line
returns-clause-bad_line c = returned_bad c.args.bytes.now c.read_whole.result c.read_whole.ensures.exact
