use Rattle.moka_gateway_run.proofs.Spelled.{lines_apart}
use Rattle.moka_gateway_run.proofs.forms.LinesGrammarLine.lines_are_spelled_apart.Goals as goal

pub returns : goal.returns
returns c = λ before a b f g e. lines_apart a b f g e
