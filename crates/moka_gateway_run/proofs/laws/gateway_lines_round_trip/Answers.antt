use Rattle.std.proofs.Common.{IfSome, subst}
use Rattle.moka_gateway_run.proofs.Spelled.{IsLineOf, line_is, line_read}
use Rattle.moka_gateway_run.proofs.laws.gateway_lines_round_trip.Goals as goal

pub returns-clause-read : goal.returns-clause-read
returns-clause-read c = line_read

pub returns-clause-spelled : goal.returns-clause-spelled
returns-clause-spelled c = λ bytes l e. subst (λ o. IfSome o (IsLineOf bytes)) e (line_is bytes)
