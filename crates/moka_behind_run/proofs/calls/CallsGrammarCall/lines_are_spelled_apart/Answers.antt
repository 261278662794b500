use Rattle.moka_behind_run.proofs.Spelled.{calls_apart}
use Rattle.moka_behind_run.proofs.calls.CallsGrammarCall.lines_are_spelled_apart.Goals as goal

pub returns : goal.returns
returns c = λ before a b f g e. calls_apart a b f g e
