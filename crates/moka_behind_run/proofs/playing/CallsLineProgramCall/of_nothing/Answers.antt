-- No call was made, and nothing is unsent.
use Rattle.std.proofs.Common.{ℕ, List, [], ◌++◌, refl, sym, ap, arith}
use Rattle.std.proofs.lemmas.Fmt.{decimal_digit}
use Rattle.std.specs.Prelude.{codes}
use Rattle.moka_lines.specs.Texts.{ended}
use Rattle.moka_behind_run.specs.Playing.{first}
use Rattle.moka_behind_run.proofs.playing.CallsLineProgramCall.of_nothing.Goals as goal

pub returns : goal.returns
returns g c = λ over. record {
  replies = [];
  last = first (g.Kp.Keeper.told over);
  run = (refl, refl);
  is = sym (ap (λ (ds : List ℕ). ended (codes "unsent " ++ ds)) (decimal_digit 0 (omega arith)));
}
