use Rattle.moka_history.proofs.Stepping.{changing_holds}
use Rattle.moka_history.proofs.keeping.changing_keeps.Goals as goal

pub returns : goal.returns
returns g c = record {
  keeps = λ eq hash place divided cells log holds key c array size passed from to x own ticket there.
      changing_holds eq hash place divided log holds.1 cells holds.0 key c array size passed from to x own ticket there;
}
