use Rattle.std.proofs.Common.{◌≡◌, IfSome, subst}
use Rattle.moka_behind_run.specs.Calls.{Fits, call_line}
use Rattle.moka_behind_run.proofs.Spelled.{call_is, call_read}
use Rattle.moka_behind_run.proofs.laws.call_lines_round_trip.Goals as goal

pub returns-clause-read : goal.returns-clause-read
returns-clause-read c = call_read

pub returns-clause-spelled : goal.returns-clause-spelled
returns-clause-spelled c = λ line call e. subst (λ o. IfSome o (λ x. (line ≡ call_line x) × Fits x)) e (call_is line)
