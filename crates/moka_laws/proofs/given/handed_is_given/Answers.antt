use Rattle.moka_laws.proofs.OnlyGiven.{handed_given, stepped_given}
use Rattle.moka_laws.proofs.given.handed_is_given.Goals as goal

pub returns : goal.returns
returns g c = record {
  given = handed_given g.K.PartialEq.eq g.met.K.Eq.laws;
  stepped = stepped_given g.K.PartialEq.eq g.met.K.Eq.laws;
}
