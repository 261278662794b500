use Rattle.moka_text.proofs.Refused.{never_refused}
use Rattle.moka_text.proofs.laws.schedules_are_never_refused.Goals as goal

pub returns : goal.returns
returns c = never_refused
