use Rattle.moka_laws.proofs.Leaving.{notices_ask, replaced_are_told, taken_are_told}
use Rattle.moka_laws.proofs.listening.notices_tell_left.Goals as goal

pub returns : goal.returns
returns g c = record {
  replaced = replaced_are_told g.K.PartialEq.eq;
  taken = taken_are_told g.K.PartialEq.eq;
  asked = notices_ask g.K.PartialEq.eq;
}
