-- There is no rule, so none is known.
use Rattle.std.proofs.Common.{ℕ, List, ◌++◌, sym, ap, arith}
use Rattle.std.proofs.lemmas.Fmt.{decimal_digit}
use Rattle.std.specs.Prelude.{codes}
use Rattle.moka_lines.specs.Texts.{ended}
use Rattle.moka_memo_run.proofs.playing.LinesLineProgramLineUnit.of_nothing.Goals as goal

pub returns : goal.returns
returns c = λ over. sym (ap (λ (ds : List ℕ). ended (codes "known " ++ ds)) (decimal_digit 0 (omega arith)))
