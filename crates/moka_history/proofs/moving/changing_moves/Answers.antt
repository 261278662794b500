use Rattle.moka_history.proofs.Plays.{changing_moves}
use Rattle.moka_history.proofs.moving.changing_moves.Goals as goal

pub returns : goal.returns
returns g c = record {
  moves = λ eq hash place divided segments size hasher front opened key c array length_is passed from to x small bucket own ticket home row at.
      changing_moves eq hash place divided segments size hasher front opened key c array length_is passed from to x small bucket own ticket home row at;
}
