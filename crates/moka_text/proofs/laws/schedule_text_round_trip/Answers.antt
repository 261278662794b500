use Rattle.moka_text.proofs.Spelled.{event_read}
use Rattle.moka_text.proofs.Texts.{says_read, bad_read}
use Rattle.moka_text.proofs.laws.schedule_text_round_trip.Goals as goal

pub returns-clause-line : goal.returns-clause-line
returns-clause-line c = event_read

pub returns-clause-text : goal.returns-clause-text
returns-clause-text c = says_read

pub returns-clause-bad_line : goal.returns-clause-bad_line
returns-clause-bad_line c = bad_read
